pub mod Found
pub mod Ended
pub mod Placed
pub mod Appended
pub mod KeptWell
pub mod Places
pub mod Descended
-- checks on names
pub mod Checked
pub mod Repeated
-- for other crates
pub mod Bare
pub mod Together
pub mod Sizes
