pub mod MakeText
pub mod ReadsAsMade
pub mod Written
pub mod SidesLaws
pub mod MadeFirstLaws
pub mod MadeTechsLaws
pub mod MakeLengthLaws
pub mod MadeLaws
