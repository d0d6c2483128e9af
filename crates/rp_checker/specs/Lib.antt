pub mod Answers
pub mod Found
pub mod Limits
pub mod Marks
