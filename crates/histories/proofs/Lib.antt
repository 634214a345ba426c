pub mod Walks
pub mod Histories
pub mod Ends
pub mod Logged
