use Rattle.std.proofs.Common.{[], sym, ap, ◌∙◌, subst}
use Rattle.std.specs.Prelude.{Ok}
use Rattle.rp_reports.specs.Check.{line_tester}
use Rattle.rp_semantics.specs.Walk.{after_first}
use Rattle.rp_semantics.specs.Form.{join_each}
use Rattle.rp_trail.proofs.Followed.{AreChecked, joined_right}
use Rattle.rp_trail.proofs.form.joined.Goals as goal

pub returns-clause-members : goal.returns-clause-members
returns-clause-members c =
    let ps = c.args.a.now.items in
    let qs = c.args.b.now.items in
    joined_right (λ made. made) (Ok c.join_each.new.form.items) ps qs c.args.trail.now c.join_each.new.trail
    (subst (λ ps. AreChecked ps) c.items.ensures c.keep_parts.ensures) (subst (λ ps. AreChecked ps) c.items-2.ensures c.keep_parts-2.ensures)
    (ap (after_first (λ _. join_each line_tester [] ps qs)) c.in_ok-count_pairs.ensures.comes
    ∙ (λ i. join_each line_tester (sym c.new-form.ensures i) (sym c.items-3.ensures i) (sym c.items-4.ensures i) c.count_pairs.new.trail)
    ∙ c.in_ok-join_each.ensures)
