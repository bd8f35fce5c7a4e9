pub mod Views
pub mod Full
pub mod Tables
pub mod Forms
pub mod Answers
