use Rattle.std.proofs.Common.{length, [], sym, ◌∙◌, subst, arith}
use Rattle.std.specs.Prelude.{nat_lt}
use Rattle.std.proofs.lemmas.Result.{err_from_is_err_and}
use Rattle.rp_model.specs.commands.Verdict.{too_few}
use Rattle.rp_model.specs.commands.Checks.{refuse_if, and_then, check_new, check_live, check_each, check_repeated, check_layer, check_layers}
use Rattle.rp_history.specs.Checks.{FailsNames}
use Rattle.rp_history.proofs.Checked.{are_enough, passes_both, fails_first, fails_later, layer_of_head}
use Rattle.rp_history.proofs.history.History.check_consolidate.Goals as goal

pub returns-in_err-check_all_live-clause-checks : goal.returns-in_err-check_all_live-clause-checks
returns-in_err-check_all_live-clause-checks c =
    let p = err_from_is_err_and c.from_residual.result c.from_residual.ensures.1 in
    let ids = c.args.ids.now in
    let few = are_enough (length ids) (omega (arith, c.if-ids-lt2.false)) in
    let e = c.in_err-check_all_live.field-0.0 in
    λ s h. rw (p.1, p.2)
    (fails_later e (refuse_if (nat_lt (length ids) 2) too_few) (and_then (check_each (check_live s) ids) (and_then (check_repeated [] ids) (and_then (check_layers s ids) (check_new s c.args.new)))) few (fails_first e (check_each (check_live s) ids) (and_then (check_repeated [] ids) (and_then (check_layers s ids) (check_new s c.args.new))) (c.in_err-check_all_live.ensures s h)))

pub returns-in_err-check_repeated-clause-checks : goal.returns-in_err-check_repeated-clause-checks
returns-in_err-check_repeated-clause-checks c =
    let p = err_from_is_err_and c.from_residual-in_err-check_repeated.result c.from_residual-in_err-check_repeated.ensures.1 in
    let ids = c.args.ids.now in
    let few = are_enough (length ids) (omega (arith, c.if-ids-lt2.false)) in
    let e = c.in_err-check_repeated.field-0.0 in
    λ s h. rw (p.1, p.2)
    (fails_later e (refuse_if (nat_lt (length ids) 2) too_few) (and_then (check_each (check_live s) ids) (and_then (check_repeated [] ids) (and_then (check_layers s ids) (check_new s c.args.new)))) few
    (fails_later e (check_each (check_live s) ids) (and_then (check_repeated [] ids) (and_then (check_layers s ids) (check_new s c.args.new))) (c.in_ok-check_all_live.ensures s h) (fails_first e (check_repeated [] ids) (and_then (check_layers s ids) (check_new s c.args.new)) c.in_err-check_repeated.ensures)))

pub returns-in_err-check_layers-clause-checks : goal.returns-in_err-check_layers-clause-checks
returns-in_err-check_layers-clause-checks c =
    let p = err_from_is_err_and c.from_residual-in_err-check_layers.result c.from_residual-in_err-check_layers.ensures.1 in
    let ids = c.args.ids.now in
    let few = are_enough (length ids) (omega (arith, c.if-ids-lt2.false)) in
    let e = c.in_err-check_layers.field-0.0 in
    λ s h. rw (p.1, p.2)
    (fails_later e (refuse_if (nat_lt (length ids) 2) too_few) (and_then (check_each (check_live s) ids) (and_then (check_repeated [] ids) (and_then (check_layers s ids) (check_new s c.args.new)))) few
    (fails_later e (check_each (check_live s) ids) (and_then (check_repeated [] ids) (and_then (check_layers s ids) (check_new s c.args.new))) (c.in_ok-check_all_live.ensures s h)
    (fails_later e (check_repeated [] ids) (and_then (check_layers s ids) (check_new s c.args.new)) c.in_ok-check_repeated.ensures (fails_first e (check_layers s ids) (check_new s c.args.new) (subst (λ o. FailsNames e o) (λ i. check_each (check_layer s ((c.layer_of-layer.ensures s h ∙ (layer_of_head s ids c.index-ids-0.result (omega (arith, c.if-ids-lt2.false)) c.index-ids-0.is)) i)) ids) (c.in_err-check_layers.ensures s h))))))

pub returns-in_err-check_new-clause-checks : goal.returns-in_err-check_new-clause-checks
returns-in_err-check_new-clause-checks c =
    let p = err_from_is_err_and c.from_residual-in_err-check_new.result c.from_residual-in_err-check_new.ensures.1 in
    let ids = c.args.ids.now in
    let few = are_enough (length ids) (omega (arith, c.if-ids-lt2.false)) in
    let e = c.in_err-check_new.field-0.0 in
    λ s h. rw (p.1, p.2)
    (fails_later e (refuse_if (nat_lt (length ids) 2) too_few) (and_then (check_each (check_live s) ids) (and_then (check_repeated [] ids) (and_then (check_layers s ids) (check_new s c.args.new)))) few
    (fails_later e (check_each (check_live s) ids) (and_then (check_repeated [] ids) (and_then (check_layers s ids) (check_new s c.args.new))) (c.in_ok-check_all_live.ensures s h)
    (fails_later e (check_repeated [] ids) (and_then (check_layers s ids) (check_new s c.args.new)) c.in_ok-check_repeated.ensures
    (fails_later e (check_layers s ids) (check_new s c.args.new) (sym (λ i. check_each (check_layer s ((c.layer_of-layer.ensures s h ∙ (layer_of_head s ids c.index-ids-0.result (omega (arith, c.if-ids-lt2.false)) c.index-ids-0.is)) i)) ids) ∙ c.in_ok-check_layers.ensures s h) (c.in_err-check_new.ensures.checks s h)))))

pub returns-clause-checks : goal.returns-clause-checks
returns-clause-checks c =
    let ids = c.args.ids.now in
    let few = are_enough (length ids) (omega (arith, c.if-ids-lt2.false)) in
    λ s h. passes_both (refuse_if (nat_lt (length ids) 2) too_few) (and_then (check_each (check_live s) ids) (and_then (check_repeated [] ids) (and_then (check_layers s ids) (check_new s c.args.new)))) few
    (passes_both (check_each (check_live s) ids) (and_then (check_repeated [] ids) (and_then (check_layers s ids) (check_new s c.args.new))) (c.in_ok-check_all_live.ensures s h)
    (passes_both (check_repeated [] ids) (and_then (check_layers s ids) (check_new s c.args.new)) c.in_ok-check_repeated.ensures
    (passes_both (check_layers s ids) (check_new s c.args.new) (sym (λ i. check_each (check_layer s ((c.layer_of-layer.ensures s h ∙ (layer_of_head s ids c.index-ids-0.result (omega (arith, c.if-ids-lt2.false)) c.index-ids-0.is)) i)) ids) ∙ c.in_ok-check_layers.ensures s h) (c.in_ok-check_new.ensures.checks s h))))

pub returns-clause-layer : goal.returns-clause-layer
returns-clause-layer c = λ s h. c.layer_of-layer.ensures s h ∙ layer_of_head s c.args.ids.now c.index-ids-0.result (omega (arith, c.if-ids-lt2.false)) c.index-ids-0.is
