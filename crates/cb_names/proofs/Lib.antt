pub mod ClassNames
pub mod FloatingParts
pub mod KindsOfNames
pub mod Laws
pub mod Lists
pub mod ParameterTypes
pub mod Places
pub mod TypeTexts
