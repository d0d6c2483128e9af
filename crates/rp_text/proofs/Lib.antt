mod EchoLaws
mod FrontLemmas
mod HalfTextLemmas
mod ItemLemmas
pub mod LineLemmas
mod NumberWords
mod ProofLaws
mod ReaderLaws
mod SliceLaws
mod SliceLemmas
mod WordLemmas
mod WrittenLemmas
