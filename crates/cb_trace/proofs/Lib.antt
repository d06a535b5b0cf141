mod Ending
mod Exact
mod Looking
mod Steps
