pub mod Priority
pub mod Order
pub mod Repeat
