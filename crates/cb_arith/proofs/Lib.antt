pub mod BitByBit
pub mod Congruence
pub mod Fitting
pub mod Laws
pub mod Rounding
pub mod Wrapping
