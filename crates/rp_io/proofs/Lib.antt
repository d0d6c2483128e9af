pub mod IntakeLemmas
pub mod PutLemmas
