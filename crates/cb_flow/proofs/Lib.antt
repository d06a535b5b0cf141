mod Empty
mod Moved
mod Reaching
mod Visiting
