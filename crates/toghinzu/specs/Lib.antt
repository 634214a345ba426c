pub mod Told
pub mod Channels
pub mod Calls
