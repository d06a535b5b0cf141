pub mod Asking
pub mod Beside
pub mod Laws
