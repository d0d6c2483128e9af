pub mod Forest
pub mod Lists
