pub mod Answering
pub mod Parting
pub mod Running
pub mod SlotLoop
pub mod Unique
