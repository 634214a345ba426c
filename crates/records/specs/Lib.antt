pub mod Buffer
pub mod Faults
pub mod Listing
pub mod Opening
pub mod Places
pub mod Record
