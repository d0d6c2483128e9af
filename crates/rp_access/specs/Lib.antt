pub mod Route
pub mod Chain
pub mod Searching
pub mod Tests
pub mod Laws
