pub mod Dyadic
pub mod Rows
pub mod Walks
pub mod Means
