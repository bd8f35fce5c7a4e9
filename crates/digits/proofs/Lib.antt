pub mod Allowed
pub mod Unique
