pub mod Files
pub mod FilesLaws
pub mod Faults
pub mod Memory
pub mod MemoryFiles
pub mod MemoryFolder
pub mod RealFiles
