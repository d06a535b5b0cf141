pub mod Held
pub mod Linkeds
pub mod Networks
pub mod Visits
