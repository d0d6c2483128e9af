use Rattle.std.proofs.Common.{◌≡◌, ◌++◌, take, drop}
use Rattle.rp_section.specs.Sides.{insert_side}
use Rattle.rp_section.proofs.side.place_for.Given as goal

-- the side comes behind those so far
abbrev pub invariant-loop-place : goal.invariant-loop-place
invariant-loop-place l = insert_side l.side l.sides ≡ take l.place l.sides ++ insert_side l.side (drop l.place l.sides)
