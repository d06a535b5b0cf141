pub mod Laws
mod Zeros
