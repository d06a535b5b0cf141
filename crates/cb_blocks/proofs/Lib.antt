mod Changed
mod Ends
mod Flat
mod Headed
mod Kept
mod Laid
pub mod Laws
mod Moved
mod Opened
mod Paged
mod Parted
mod Rowed
mod Tabulated
mod Standing
mod Tags
