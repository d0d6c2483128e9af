pub mod Near
pub mod There
pub mod Hulls
