-- Horizontal sections: traces of half-spaces, rings, flat certificates, and the slice of a cell at a height.
pub mod Trace
pub mod Ring
pub mod Flat
pub mod Slice
