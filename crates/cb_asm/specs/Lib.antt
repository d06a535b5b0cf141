pub mod BadLines
pub mod Answers
pub mod Messages
pub mod Samples
pub mod Inner
