pub mod ActLemmas
pub mod OrderLemmas
pub mod ScriptLemmas
pub mod SliceLemmas
