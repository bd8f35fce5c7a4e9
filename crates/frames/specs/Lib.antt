pub mod Fields
pub mod Pairs
pub mod Slots
