-- Definitions of the search tree, which no caller needs.
pub mod Cost
pub mod Nodes
pub mod Order
pub mod Taking
pub mod Views
