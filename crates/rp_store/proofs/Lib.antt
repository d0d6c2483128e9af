pub mod Together
pub mod Boxed
pub mod Settled
pub mod KeptNames
