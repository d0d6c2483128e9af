-- the plane of a height as a list of half-spaces
pub mod Planar
pub mod Hand
-- the search, and the first certificate
pub mod FlatFound
pub mod FlatFirst
-- from side to side
pub mod Sides
pub mod Walks
-- the ring that is found
pub mod RingFound
pub mod Sizes
-- slices of parts
pub mod Shown
-- worked rings
mod Rows
-- traces, and rings as facts
pub mod Traces
pub mod Small
pub mod Turns
pub mod Rings
-- each linear function leans on a turn
pub mod Support
-- what a trace holds, and members at a height
pub mod Owned
pub mod Members
pub mod Holding
pub mod Never
-- points and ways of a section
pub mod Spots
-- a ring is the only one
pub mod Angles
pub mod Unique
-- a ring shows a member
pub mod Center
-- what the ends are, and on which side the closure lies
pub mod Closure
pub mod Corners
