pub mod Views
pub mod Pairs
pub mod Rows
pub mod Headers
pub mod Repeats
pub mod Lists
pub mod Writes
