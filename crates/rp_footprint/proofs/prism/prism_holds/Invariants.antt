use Rattle.rp_space.specs.Corners.{prism_of}
use Rattle.rp_footprint.proofs.Inside.{IsCounting}
use Rattle.rp_footprint.proofs.prism.prism_holds.Given as goal

abbrev pub invariant-loop-k : goal.invariant-loop-k
invariant-loop-k l = IsCounting (prism_of l.z1 l.z2 l.corners) l.p l.odd l.k
