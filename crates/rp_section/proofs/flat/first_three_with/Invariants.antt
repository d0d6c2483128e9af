use Rattle.std.proofs.Common.{◌≡◌, drop}
use Rattle.rp_geometry.specs.searches.Search.{first_of_pairs}
use Rattle.rp_geometry.specs.sections.Flat.{flat_of_three}
use Rattle.rp_section.proofs.flat.first_three_with.Given as goal

-- the first of what is left is the first of all
abbrev pub invariant-loop-i : goal.invariant-loop-i
invariant-loop-i l = first_of_pairs (flat_of_three l.z l.f) (drop l.i l.gs) ≡ first_of_pairs (flat_of_three l.z l.f) l.gs
