pub mod Faults
pub mod Forms
pub mod Grammar
pub mod Inner
pub mod Messages
pub mod Places
pub mod Writing
