pub mod Tested
pub mod Rowed
pub mod Natives
pub mod Laws
