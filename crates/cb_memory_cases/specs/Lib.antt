pub mod Strings
pub mod Timed
pub mod Trial
