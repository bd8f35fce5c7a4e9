pub mod Frames
pub mod Tests
pub mod Outcomes
pub mod Files
pub mod Lays
pub mod Laying
