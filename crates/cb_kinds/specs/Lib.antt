pub mod Basics
pub mod Descriptors
pub mod FirstPlaces
pub mod Kinds
pub mod Numbers
pub mod Texts
