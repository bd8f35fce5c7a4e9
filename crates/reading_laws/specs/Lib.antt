pub mod Frames
pub mod Bounds
pub mod Outcomes
