pub mod Choice
pub mod Ends
pub mod Placing
pub mod Step
pub mod Work
