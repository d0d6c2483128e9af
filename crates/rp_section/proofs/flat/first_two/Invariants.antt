use Rattle.std.proofs.Common.{◌≡◌, drop}
use Rattle.rp_geometry.specs.searches.Search.{first_of_pairs}
use Rattle.rp_geometry.specs.sections.Flat.{flat_of_two}
use Rattle.rp_section.proofs.flat.first_two.Given as goal

-- the first of what is left is the first of all
abbrev pub invariant-loop-i : goal.invariant-loop-i
invariant-loop-i l = first_of_pairs (flat_of_two l.z) (drop l.i l.gs) ≡ first_of_pairs (flat_of_two l.z) l.gs
