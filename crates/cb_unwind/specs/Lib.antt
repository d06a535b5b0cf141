pub mod Begun
pub mod Initialised
pub mod Steps
pub mod Strings
pub mod Unwound
