pub mod Cells
pub mod Measures
pub mod Cutting
pub mod Pending
pub mod Positions
