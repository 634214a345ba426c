pub mod Cuts
pub mod Powers
pub mod Rows
pub mod Room
