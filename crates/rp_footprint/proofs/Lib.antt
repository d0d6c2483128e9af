pub mod Made
pub mod Corners
pub mod Cells
pub mod Inside
