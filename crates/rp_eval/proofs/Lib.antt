pub mod Appended
pub mod Linked
pub mod Rests
