pub mod Expansion
pub mod Inner
pub mod Listing
