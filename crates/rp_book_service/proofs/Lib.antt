pub mod AnswerLemmas
pub mod CauseLemmas
pub mod EventLemmas
pub mod LayerLemmas
pub mod OutcomeLemmas
pub mod ScriptLemmas
pub mod SessionLemmas
pub mod ReplayLemmas
