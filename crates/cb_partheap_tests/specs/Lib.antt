pub mod Resting
pub mod Tried
