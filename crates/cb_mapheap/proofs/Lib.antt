mod Calls
mod Contents
mod Found
mod Laid
pub mod Laws
mod Wants
