pub mod Fields
pub mod Signs
