pub mod Bounds
pub mod Cases
pub mod Constructors
pub mod Results
pub mod Unique
pub mod Rivals
