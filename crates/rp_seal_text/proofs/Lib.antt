pub mod LineLemmas
pub mod SpelledLines
pub mod FieldLemmas
pub mod ActLemmas
pub mod HashLemmas
pub mod StreamLemmas
