pub mod Replying
pub mod Loading
pub mod Opening
pub mod Telling
pub mod Running
pub mod Judging
pub mod Unique
