use Rattle.std.proofs.Common.{List, subst}
use Rattle.rp_reports.specs.Check.{Trail, line_tester}
use Rattle.rp_geometry.specs.sets.Shape.{Part}
use Rattle.rp_semantics.specs.Walk.{Walk}
use Rattle.rp_semantics.specs.Form.{subtract}
use Rattle.rp_oracle.specs.Refines.{Refines}
use Rattle.rp_trail.proofs.Followed.{AreChecked, differed_right}
use Rattle.rp_trail.proofs.form.differed.Goals as goal

pub returns-clause-members : goal.returns-clause-members
returns-clause-members c =
    let t = c.args.trail.now in
    let u = c.subtract.new.trail in
    differed_right (λ form. form.items) c.subtract.result c.args.a.now.items c.args.b.now.items t u
    (subst (λ ps. AreChecked ps) c.items.ensures c.keep_parts.ensures) (subst (λ ps. AreChecked ps) c.items-2.ensures c.keep_parts-2.ensures)
    (subst (λ (walk : Walk Trail (List Part)). Refines (λ form. form.items) c.subtract.result u (walk t)) (λ i. subtract line_tester (c.in_ok-first.ensures i) (c.items-3.ensures i)) c.subtract.ensures)
