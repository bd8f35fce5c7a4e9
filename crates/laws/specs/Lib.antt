pub mod Lists
pub mod Options
pub mod Digits
pub mod Places
