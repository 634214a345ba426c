pub mod Logs
pub mod Promises
pub mod Openings
pub mod Tunings
