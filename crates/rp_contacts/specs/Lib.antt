pub mod Meets
pub mod Behind
pub mod Numbers
pub mod Asked
pub mod Apart
