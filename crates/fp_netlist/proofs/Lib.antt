pub mod GroupLemmas
pub mod NetlistLemmas
