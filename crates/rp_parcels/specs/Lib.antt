pub mod Faults
pub mod Kept
pub mod Register
pub mod Rows
pub mod Access
pub mod Shown
pub mod Taken
pub mod Points
