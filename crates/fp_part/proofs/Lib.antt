pub mod AreaLemmas
pub mod NextLemmas
pub mod PassLemmas
pub mod RunLemmas
pub mod StepLemmas
