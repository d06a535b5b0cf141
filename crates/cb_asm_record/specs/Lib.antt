pub mod Entries
pub mod Constants
pub mod Uses
pub mod Labels
pub mod Record
pub mod Grammar
pub mod Inner
