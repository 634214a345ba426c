pub mod Rows
pub mod Events
pub mod Answered
pub mod Steps
pub mod Pages
