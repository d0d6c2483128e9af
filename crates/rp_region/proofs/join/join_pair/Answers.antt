use Rattle.std.proofs.Common.{◌≡◌, ◌<◌, ◌≤◌, List, ◌++◌, length, sym, ap, ◌∙◌, subst}
use Rattle.std.specs.Prelude.{Option}
use Rattle.std.proofs.lemmas.List.{append-nil}
use Rattle.std.proofs.lemmas.Result.{err_from_is_err_and}
use Rattle.rp_lists.specs.Listed.{Listed}
use Rattle.rp_geometry.specs.sets.Shape.{Part}
use Rattle.rp_geometry.specs.parts.Parts.{most_parts}
use Rattle.rp_semantics.specs.Form.{made_part, if_at_most}
use Rattle.rp_region.proofs.Grows.{few_tells}
use Rattle.rp_region.proofs.Left.{given_up}
use Rattle.rp_region.proofs.Steps.{pair_joined, pair_few, pair_many}
use Rattle.rp_region.proofs.join.join_pair.Goals.{in-Some+in_ok-push, in_default}
use Rattle.rp_region.proofs.join.join_pair.Goals as goal

pub returns-in_err-push-clause-makes : goal.returns-in_err-push-clause-makes
returns-in_err-push-clause-makes c = λ part e.
    let p = err_from_is_err_and c.from_residual-in_err-push.result c.from_residual-in_err-push.ensures.1 in
    let made = c.args.made.now.items in
    let longer = made ++ made_part c.in_ok-common.field-0 in
    rw (p.1, p.2)
    (given_up (if_at_most most_parts longer) (few_tells most_parts longer)
    (pair_joined made part c.args.other.now (c.args.front.now ++ c.halves.result.now) (λ i. sym e i ++ c.halves.ensures.value i) c.in_ok-common.ensures.makes))

pub returns-then-items-gt-MAX_PARTS-clause-makes : goal.returns-then-items-gt-MAX_PARTS-clause-makes
returns-then-items-gt-MAX_PARTS-clause-makes c = λ part e.
    let made = c.args.made.now.items in
    let longer = elim c.match-branch-2.branch as (λ _. c.match-branch-2.made.items ≡ made ++ made_part c.in_ok-common.field-0) [
      | in-Some+in_ok-push w ↦ ap (λ (l : Listed Part). l.items) w.made-is ∙ w.in_ok-push.ensures.ok ∙ ap (λ (o : Option Part). made ++ made_part o) (sym w.in-Some.is)
      | in_default w ↦ ap (λ (l : Listed Part). l.items) w.made-is ∙ sym (append-nil made) ∙ ap (λ (o : Option Part). made ++ made_part o) (sym w.in_default.is)
    ] in
    pair_many made part c.args.other.now (c.args.front.now ++ c.halves.result.now) c.match-branch-2.made.items c.args.work.now (λ i. sym e i ++ c.halves.ensures.value i) c.in_ok-common.ensures.makes longer
    (subst (λ (parts : List Part). most_parts < length parts) c.items.ensures c.if-items-gt-MAX_PARTS.true)

pub returns-clause-makes : goal.returns-clause-makes
returns-clause-makes c = λ part e.
    let made = c.args.made.now.items in
    let longer = elim c.match-branch-2.branch as (λ _. c.match-branch-2.made.items ≡ made ++ made_part c.in_ok-common.field-0) [
      | in-Some+in_ok-push w ↦ ap (λ (l : Listed Part). l.items) w.made-is ∙ w.in_ok-push.ensures.ok ∙ ap (λ (o : Option Part). made ++ made_part o) (sym w.in-Some.is)
      | in_default w ↦ ap (λ (l : Listed Part). l.items) w.made-is ∙ sym (append-nil made) ∙ ap (λ (o : Option Part). made ++ made_part o) (sym w.in_default.is)
    ] in
    pair_few made part c.args.other.now (c.args.front.now ++ c.halves.result.now) c.match-branch-2.made.items c.args.work.now (λ i. sym e i ++ c.halves.ensures.value i) c.in_ok-common.ensures.makes longer
    (subst (λ (parts : List Part). length parts ≤ most_parts) c.items.ensures c.if-items-gt-MAX_PARTS.false)
