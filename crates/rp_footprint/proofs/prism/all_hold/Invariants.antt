use Rattle.std.proofs.Common.{◌≡◌, drop}
use Rattle.rp_geometry.specs.Geometry.{all_hold}
use Rattle.rp_footprint.proofs.prism.all_hold.Given as goal

abbrev pub invariant-loop-half : goal.invariant-loop-half
invariant-loop-half l = all_hold (drop l.half-index l.cell) l.p ≡ all_hold l.cell l.p
