pub mod Descriptors
pub mod FirstFloating
pub mod Fronts
pub mod Names
pub mod Signs
pub mod Types
