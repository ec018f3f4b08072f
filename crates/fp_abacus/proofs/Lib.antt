pub mod Joins
pub mod Places
pub mod Levels
pub mod Adding
pub mod Packing
pub mod Rises
pub mod Whole
pub mod Mixed
