pub mod Collecting
pub mod Example
pub mod Held
pub mod Known
pub mod Policy
