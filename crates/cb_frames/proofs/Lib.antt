mod Changed
mod Entered
mod Entering
mod Laid
pub mod Laws
mod Moved
mod Named
mod Parted
mod Parts
mod Same
mod Searched
mod SlotLists
mod Slotted
mod Stacked
mod Tables
