pub mod Example
pub mod Text
