pub mod Expanding
pub mod Growing
pub mod Located
pub mod Looked
pub mod Marked
pub mod Saying
pub mod Solved
pub mod Unpacked
