pub mod Layout
pub mod Placed
pub mod Room
pub mod Words
