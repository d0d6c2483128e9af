pub mod Indexed
pub mod Turns
pub mod Cubes
pub mod Stretches
pub mod Near
pub mod Owner
