pub mod Listed
pub mod NameBytes
