pub mod Covered
pub mod Pieced
pub mod Taken
