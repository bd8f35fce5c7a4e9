pub mod Layout
pub mod Places
pub mod Answers
