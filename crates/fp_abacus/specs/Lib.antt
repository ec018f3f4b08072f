pub mod Clusters
pub mod Stacks
