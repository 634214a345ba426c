pub mod Quantized
pub mod Brackets
pub mod Cuts
pub mod Extents
pub mod ExtentsLemmas
pub mod Starts
