pub mod TakenAway
pub mod ChildLemmas
pub mod ChildBorn
pub mod Searched
