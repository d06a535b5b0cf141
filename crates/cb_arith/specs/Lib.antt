pub mod Bits
pub mod Ints
pub mod Laws
pub mod Longs
pub mod Narrowing
pub mod Order
pub mod Shifts
