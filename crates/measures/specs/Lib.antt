pub mod Shares
pub mod Logarithms
pub mod Entropies
pub mod Logs
pub mod Powers
pub mod Finer
pub mod Squares
