mod AllOf
mod Lines
mod Lists
mod Placed
mod Texts
mod WellFormed
