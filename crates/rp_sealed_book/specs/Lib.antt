pub mod Log
pub mod Verdict
pub mod Proof
