pub mod EvenCuts
pub mod Uniform
