pub mod Characters
pub mod Files
pub mod Laws
pub mod Whole
pub mod Writing
