pub mod ConvexCells
pub mod Measures
pub mod Spans
pub mod Tight
