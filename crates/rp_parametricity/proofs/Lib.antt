pub mod Audits
pub mod Forms
pub mod Kept
pub mod Likeness
pub mod OneTester
pub mod Rows
pub mod Stopping
pub mod Trivial
