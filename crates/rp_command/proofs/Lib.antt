mod Digits
pub mod Children
pub mod Fronts
pub mod TableLemmas
