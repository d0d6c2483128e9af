use Rattle.std.proofs.Common.{◌≡◌, drop}
use Rattle.rp_geometry.specs.searches.Search.{first_of_triples}
use Rattle.rp_geometry.specs.sections.Flat.{flat_of_three}
use Rattle.rp_section.proofs.flat.first_three.Given as goal

-- the first of what is left is the first of all
abbrev pub invariant-loop-i : goal.invariant-loop-i
invariant-loop-i l = first_of_triples (flat_of_three l.z) (drop l.i l.fs) ≡ first_of_triples (flat_of_three l.z) l.fs
