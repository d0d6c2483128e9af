use Rattle.std.proofs.Common.{◌≡◌, drop}
use Rattle.rp_geometry.specs.searches.Search.{first_of}
use Rattle.rp_geometry.specs.sections.Flat.{flat_of_one}
use Rattle.rp_section.proofs.flat.first_one.Given as goal

-- the first of what is left is the first of all
abbrev pub invariant-loop-h : goal.invariant-loop-h
invariant-loop-h l = first_of (flat_of_one l.z) (drop l.h-index l.hs) ≡ first_of (flat_of_one l.z) l.hs
