pub mod Collected
pub mod Compact
pub mod Slid
pub mod Sliding
