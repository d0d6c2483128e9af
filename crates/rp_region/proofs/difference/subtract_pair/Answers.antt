use Rattle.std.proofs.Common.{Bool, true, false, ◌∷◌, [], ◌++◌, refl, sym, ap, ◌∙◌}
use Rattle.std.proofs.lemmas.Result.{err_from_is_err_and}
use Rattle.rp_semantics.specs.Walk.{done, pass, first_tester}
use Rattle.rp_semantics.specs.Form.{carve}
use Rattle.rp_region.proofs.Grows.{pass_tells}
use Rattle.rp_region.proofs.Left.{left_as, end_left, given_up, makes_left}
use Rattle.rp_region.proofs.Steps.{pair_unmet, pair_met}
use Rattle.rp_region.proofs.difference.subtract_pair.Goals as goal

pub returns-in_err-meet_if_near : goal.returns-in_err-meet_if_near
returns-in_err-meet_if_near c =
    let p = err_from_is_err_and c.from_residual.result c.from_residual.ensures.1 in
    rw (p.1, p.2) (pair_unmet c.args.left.now.items c.args.part c.args.other.now c.args.work.now c.meet_if_near.new.work c.in_err-meet_if_near.field-0.0 c.in_err-meet_if_near.ensures.makes)

pub returns-then-branch : goal.returns-then-branch
returns-then-branch c =
    let made = c.args.left.now.items in
    let part = c.args.part in
    let other = c.args.other.now in
    makes_left _ c.carve.result c.carve.new.work
    (left_as (λ i. carve first_tester made (sym (c.in_ok-meet_if_near.ensures.held c.if-branch.true) i) [] (sym c.halves.ensures.value i))
    (pair_met made part other {found = true}
    (c.in_ok-meet_if_near.ensures.makes ∙ ap (λ (has_one : Bool). done has_one c.meet_if_near.new.work) c.if-branch.true)))
    c.carve.ensures

pub returns-in_err-push : goal.returns-in_err-push
returns-in_err-push c =
    let p = err_from_is_err_and c.from_residual-in_err-push.result c.from_residual-in_err-push.ensures.1 in
    let longer = c.args.left.now.items ++ c.args.part ∷ [] in
    rw (p.1, p.2)
    (given_up (pass longer) (pass_tells longer)
    (pair_met c.args.left.now.items c.args.part c.args.other.now {found = false}
    (c.in_ok-meet_if_near.ensures.makes ∙ ap (λ (has_one : Bool). done has_one c.meet_if_near.new.work) c.if-branch.false)))

pub returns : goal.returns
returns c =
    end_left (done c.push.new.self.items c.meet_if_near.new.work)
    (pair_met c.args.left.now.items c.args.part c.args.other.now {found = false}
    (c.in_ok-meet_if_near.ensures.makes ∙ ap (λ (has_one : Bool). done has_one c.meet_if_near.new.work) c.if-branch.false))
    (ap (λ parts. done parts c.meet_if_near.new.work) (sym c.in_ok-push.ensures.ok))
