pub mod Fitting
pub mod Seated
pub mod Setting
pub mod FilledSegmentLemmas
pub mod Standing
