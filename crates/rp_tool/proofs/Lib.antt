pub mod CheckLemmas
pub mod TaskLemmas
pub mod TrialWordLemmas
