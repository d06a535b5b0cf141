pub mod Cells
pub mod FourCells
pub mod Marks
pub mod Pair
