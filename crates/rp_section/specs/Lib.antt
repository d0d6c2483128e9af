pub mod FlatList
pub mod Shown
pub mod Sides
