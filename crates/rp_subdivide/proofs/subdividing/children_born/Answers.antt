use Rattle.std.proofs.Common.{◌+◌, ℕ, map, length, ap, ap₂, sym, ◌∙◌}
use Rattle.std.proofs.lemmas.List.{length_push}
use Rattle.rp_history.specs.Parts.{new_lots}
use Rattle.rp_subdivide.proofs.ChildBorn.{child_and_one}
use Rattle.rp_subdivide.proofs.subdividing.children_born.Goals as goal

pub loop-id-preserved : goal.loop-id-preserved
loop-id-preserved g c =
    let child = c.in-Some.field-0 in
    let births = c.loop-id.births.items in
    let forms = c.loop-id.forms.items in
    let born = c.in_ok-add_born.ensures.births in
    let b = born.0 in
    let bs = born.1 in
    let fs = c.in_ok-add_born.ensures.forms in
    record {
      each = ap length bs ∙ length_push births b ∙ ap (λ (n : ℕ). n + 1) c.loop-id.invariant.each ∙ sym (length_push forms child.form) ∙ sym (ap length fs);
      born = λ view. ap₂ (λ xs ys. new_lots xs (map view ys)) bs fs ∙ child_and_one view c.args.layer c.args.origin births forms c.loop-id.yielded b child c.loop-id.invariant.each (c.loop-id.invariant.born view) (born.2, born.3, born.4);
    }
