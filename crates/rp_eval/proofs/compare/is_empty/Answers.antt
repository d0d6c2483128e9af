use Rattle.std.proofs.Common.{false, sym, ap, ◌∙◌, subst}
use Rattle.std.proofs.lemmas.Result.{err_from_is_err_and}
use Rattle.rp_semantics.specs.Walk.{pass, after_first}
use Rattle.rp_semantics.specs.Compare.{show_then_no}
use Rattle.rp_oracle.specs.Refines.{StopsBy}
use Rattle.rp_oracle.proofs.Left.{stops_on}
use Rattle.rp_eval.proofs.Rests.{none_shown, first_shown}
use Rattle.rp_eval.proofs.compare.is_empty.Goals as goal

pub returns-in-empty : goal.returns-in-empty
returns-in-empty g c =
    let w = c.args.tests.now in
    (λ i. show_then_no g.T.Oracle.tester (sym c.parts.ensures i) w) ∙ ap (λ walk. walk w) (none_shown g.T.Oracle.tester g.T.Oracle.seen c.parts.result.now c.in-empty.len_below)

pub returns-in_ok-has_point-in-len1-up : goal.returns-in_ok-has_point-in-len1-up
returns-in_ok-has_point-in-len1-up g c =
    let w = c.args.tests.now in
    (λ i. show_then_no g.T.Oracle.tester (sym c.parts.ensures i) w)
    ∙ ap (λ walk. walk w) (first_shown g.T.Oracle.tester g.T.Oracle.seen c.parts.result.now c.first-item.result c.in-len1-up.len_at_least c.first-item.is)
    ∙ ap (after_first (λ _. pass false)) c.in_ok-has_point-in-len1-up.ensures

pub returns-in_err-has_point-in-len1-up : goal.returns-in_err-has_point-in-len1-up
returns-in_err-has_point-in-len1-up g c =
    let p = err_from_is_err_and c.from_residual.result c.from_residual.ensures.1 in
    let w = c.args.tests.now in
    let e = c.in_err-has_point-in-len1-up.field-0.0 in
    let new = c.has_point.new.self in
    let shown = ap (λ walk. walk w) (first_shown g.T.Oracle.tester g.T.Oracle.seen c.parts.result.now c.first-item.result c.in-len1-up.len_at_least c.first-item.is) in
    rw (p.1, p.2)
    (subst (λ o. StopsBy e new o) (sym shown ∙ (λ i. show_then_no g.T.Oracle.tester (c.parts.ensures i) w))
    (stops_on (λ _. pass false) e new _ c.in_err-has_point-in-len1-up.ensures))
