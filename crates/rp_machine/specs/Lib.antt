pub mod Forms
pub mod Replies
