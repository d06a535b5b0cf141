mod Closed
mod Fronts
mod Labels
mod Parts
mod Programs
mod Records
mod Runs
mod TextLines
