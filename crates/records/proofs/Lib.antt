pub mod Appending
pub mod Bytes
pub mod Described
pub mod Figures
pub mod Spelling
pub mod Tables
