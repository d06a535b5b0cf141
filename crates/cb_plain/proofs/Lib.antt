mod Added
mod PlaceRows
mod Spent
