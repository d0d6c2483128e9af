pub mod One
pub mod Related
mod Growing
mod Steps
pub mod Levels
pub mod Down
