pub mod Flat
pub mod Misguided
