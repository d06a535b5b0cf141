pub mod Fronts
pub mod Messages
pub mod Naming
pub mod Pool
pub mod Reading
pub mod Text
