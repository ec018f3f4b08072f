pub mod LeastShown
pub mod Tree
pub mod Grow
pub mod Steps
pub mod Augment
pub mod Insert
pub mod Runs
pub mod Assigned
