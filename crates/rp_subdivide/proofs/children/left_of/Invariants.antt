use Rattle.std.proofs.Common.{drop}
use Rattle.rp_semantics.specs.Form.{subtract}
use Rattle.rp_oracle.proofs.Left.{IsLeft}
use Rattle.rp_subdivide.proofs.TakenAway.{parts_of_all}
use Rattle.rp_subdivide.proofs.children.left_of.Given as goal

-- the children still to come are to be taken away from what is left
abbrev pub invariant-loop-child : goal.invariant-loop-child
invariant-loop-child g l =
    let tester = g.T.Oracle.tester in
    let view = g.T.Oracle.parts_of in
    IsLeft l.fn.tests (subtract tester (view l.whole) (parts_of_all view l.children)) l.tests (subtract tester (view l.left) (parts_of_all view (drop l.child-index l.children)))
