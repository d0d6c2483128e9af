use Rattle.std.proofs.Common.{◌≡◌, drop}
use Rattle.rp_geometry.specs.searches.Search.{first_of}
use Rattle.rp_section.specs.Sides.{spot_at}
use Rattle.rp_section.proofs.side.first_spot.Given as goal

-- the first of what is left is the first of all
abbrev pub invariant-loop-g : goal.invariant-loop-g
invariant-loop-g l = first_of (spot_at l.level l.sides l.f) (drop l.g-index l.sides) ≡ first_of (spot_at l.level l.sides l.f) l.sides
