pub mod Applied
pub mod Known
pub mod States
pub mod Told
