pub mod CutNets
pub mod KeptTable
pub mod LeastLaws
pub mod Table
pub mod TableLaws
