-- lists
pub mod Lists
-- numbers and places
pub mod HalfAt
pub mod Masks
pub mod Walks
pub mod Meetings
-- tables
pub mod Sides
pub mod Crossed
pub mod Kept
pub mod Filled
pub mod CubeCorners
pub mod Added
-- the first vertex
pub mod Off
pub mod Ordered
pub mod FirstOfSet
mod Behind
pub mod Best
-- the first certificates
pub mod Flat
pub mod Taken
-- faces
mod CommonPlanes
pub mod Orders
pub mod Moved
pub mod Polygons
pub mod Searched
