pub mod Faults
pub mod Peak
pub mod PeakLaws
pub mod Tables
pub mod Parts
pub mod Greatest
pub mod Profile
pub mod ProfileLaws
