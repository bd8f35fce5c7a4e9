pub mod Fractions
pub mod Limit
pub mod Rows
pub mod Ranking
pub mod Lines
pub mod Structs
