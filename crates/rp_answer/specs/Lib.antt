pub mod Replies
pub mod Views
