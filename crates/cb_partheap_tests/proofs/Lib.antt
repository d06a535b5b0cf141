mod Kept
mod Marks
mod Rests
