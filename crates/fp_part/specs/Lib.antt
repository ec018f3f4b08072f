pub mod SettledLaws
pub mod Partitions
