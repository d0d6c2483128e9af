use Rattle.std.proofs.Common.{drop}
use Rattle.rp_geometry.specs.sets.Prism.{edges_of}
use Rattle.rp_semantics.specs.Walk.{first_tester}
use Rattle.rp_semantics.specs.Form.{exchange_edges, prism_form}
use Rattle.rp_space.specs.Corners.{polygon_corners, prism_of}
use Rattle.rp_region.proofs.Left.{IsLeft}
use Rattle.rp_region.proofs.region.Region.of_prism.Given as goal

-- the edges still to come are left
abbrev pub invariant-loop-k : goal.invariant-loop-k
invariant-loop-k l =
    IsLeft l.initial.work (prism_form first_tester (prism_of l.z1 l.z2 l.corners))
    l.work (exchange_edges first_tester (prism_of l.z1 l.z2 l.corners) l.current (drop l.k (edges_of (polygon_corners l.corners))))
