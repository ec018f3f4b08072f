pub mod ColumnLemmas
pub mod Lengths
pub mod Rows
pub mod SlotLemmas
pub mod SmallLanes
pub mod StripeLemmas
pub mod Tables
pub mod Windows
