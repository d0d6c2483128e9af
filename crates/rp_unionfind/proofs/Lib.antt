pub mod Ways
pub mod Trees
pub mod Grouped
pub mod Put
pub mod Few
