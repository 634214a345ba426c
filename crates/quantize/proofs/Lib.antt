pub mod Agreement
pub mod OneRow
