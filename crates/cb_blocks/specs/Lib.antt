pub mod Rows
pub mod FlatRows
pub mod Holdings
pub mod PagedRows
pub mod Parted
