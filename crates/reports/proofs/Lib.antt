pub mod Heads
pub mod Taking
pub mod Texts
pub mod Whole
pub mod Replies
pub mod Reporting
pub mod Unique
