pub mod LogLemmas
pub mod ProofLemmas
pub mod StreamLemmas
