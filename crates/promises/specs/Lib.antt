pub mod Admitted
pub mod Calls
pub mod Runs
pub mod Frames
pub mod Buffers
pub mod Texts
pub mod Structs
