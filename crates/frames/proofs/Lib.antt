pub mod PairLoop
pub mod Lookup
pub mod SlotFrame
pub mod FieldLoop
pub mod FieldFrame
pub mod Unique
