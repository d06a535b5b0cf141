mod Among
mod Components
mod Copies
mod Duality
mod EdgePlaces
mod Gathers
mod Grids
pub mod Laws
mod Listings
mod Numberings
mod Paths
mod Searches
mod Totals
mod Unpacked
