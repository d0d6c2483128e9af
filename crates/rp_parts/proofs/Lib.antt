-- odd and even numbers of edges
pub mod Parity
-- half-spaces in lowest terms
pub mod Reduced
-- the trapezoid of an edge
pub mod Ends
pub mod Trapezoids
-- the trapezoids of all edges together
pub mod Together
-- boxes, and the least box round a cell
pub mod Boxes
pub mod LeastBox
-- the slim cell
pub mod Slim
-- a member is near its shape
pub mod NearMembers
-- shapes as bounded regions
pub mod Regions
-- what lies near a cell, and near a region
pub mod Near
pub mod NearRegion
-- pairs of cells
pub mod Pairs
pub mod Meeting
-- regions, and the eight relations
pub mod Unions
pub mod Found
pub mod Tangential
pub mod Relations
-- regions as lists of cells and of parts
pub mod PieceRegions
pub mod Convex
-- parts by their numbers
pub mod Numbered
pub mod Bridged
-- lists of numbers
pub mod Rising
pub mod Partition
-- links and groups
pub mod Growth
pub mod Grouped
pub mod Linked
-- the laws
pub mod Joined
pub mod Pieces
