pub mod Heads
pub mod Texts
pub mod Reports
