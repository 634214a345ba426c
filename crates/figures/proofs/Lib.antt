pub mod Makers
mod OneAnswer
mod Computed
mod Shown
