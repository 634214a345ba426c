pub mod Meaning
pub mod Faults
pub mod Answers
pub mod Heights
