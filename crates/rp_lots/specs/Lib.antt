pub mod Counted
pub mod Boxes
pub mod Changes
