pub mod Joined
pub mod Line
pub mod Parallel
pub mod Wanted
