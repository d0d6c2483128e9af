-- Definitions of the tree of cells and of the walk through it, which no caller needs.
pub mod Halves
pub mod Nodes
pub mod Views
pub mod Walks
