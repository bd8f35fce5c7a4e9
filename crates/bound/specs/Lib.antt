pub mod OnTime
pub mod Demand3
pub mod Setting
