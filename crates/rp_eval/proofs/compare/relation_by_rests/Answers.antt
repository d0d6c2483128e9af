use Rattle.std.proofs.Common.{sym, ap, ◌∙◌, subst}
use Rattle.std.proofs.lemmas.Result.{err_from_is_err_and}
use Rattle.rp_semantics.specs.Walk.{done, pass, after_first}
use Rattle.rp_semantics.specs.Compare.{relation_by_rests, relation_part, relation_whole}
use Rattle.rp_oracle.specs.Refines.{StopsBy}
use Rattle.rp_oracle.proofs.Left.{stops_on}
use Rattle.rp_eval.proofs.Rests.{both_empty, none_empty, first_empty, second_empty}
use Rattle.rp_eval.proofs.compare.relation_by_rests.Goals as goal

pub returns-in-true-true : goal.returns-in-true-true
returns-in-true-true g c =
    let a = g.T.Oracle.parts_of c.args.a.now in
    let b = g.T.Oracle.parts_of c.args.b.now in
    let w = c.args.tests.now in
    (λ i. relation_by_rests g.T.Oracle.tester a b (sym c.parts.ensures i) (sym c.parts-2.ensures i) w) ∙ ap (λ walk. walk w) (both_empty g.T.Oracle.tester g.T.Oracle.seen a b c.parts.result.now c.parts-2.result.now c.in-true-true.ensures c.in-true-true.ensures')

pub returns-in-false-false : goal.returns-in-false-false
returns-in-false-false g c =
    let a = g.T.Oracle.parts_of c.args.a.now in
    let b = g.T.Oracle.parts_of c.args.b.now in
    let w = c.args.tests.now in
    (λ i. relation_by_rests g.T.Oracle.tester a b (sym c.parts.ensures i) (sym c.parts-2.ensures i) w) ∙ ap (λ walk. walk w) (none_empty g.T.Oracle.tester g.T.Oracle.seen a b c.parts.result.now c.parts-2.result.now c.in-false-false.ensures c.in-false-false.ensures')

pub returns-then-touches : goal.returns-then-touches
returns-then-touches g c =
    let a = g.T.Oracle.parts_of c.args.a.now in
    let b = g.T.Oracle.parts_of c.args.b.now in
    let w = c.args.tests.now in
    (λ i. relation_by_rests g.T.Oracle.tester a b (sym c.parts.ensures i) (sym c.parts-2.ensures i) w)
    ∙ first_empty g.T.Oracle.tester g.T.Oracle.seen a b c.parts.result.now c.parts-2.result.now c.in-true-false.ensures c.in-true-false.ensures' w
    ∙ ap (after_first (λ touches. pass (relation_part touches))) c.in_ok-touches-in-true-false.ensures
    ∙ ap (λ touches. done (relation_part touches) c.touches_outside.new.tests) c.if-touches.true

pub returns-else-touches : goal.returns-else-touches
returns-else-touches g c =
    let a = g.T.Oracle.parts_of c.args.a.now in
    let b = g.T.Oracle.parts_of c.args.b.now in
    let w = c.args.tests.now in
    (λ i. relation_by_rests g.T.Oracle.tester a b (sym c.parts.ensures i) (sym c.parts-2.ensures i) w)
    ∙ first_empty g.T.Oracle.tester g.T.Oracle.seen a b c.parts.result.now c.parts-2.result.now c.in-true-false.ensures c.in-true-false.ensures' w
    ∙ ap (after_first (λ touches. pass (relation_part touches))) c.in_ok-touches-in-true-false.ensures
    ∙ ap (λ touches. done (relation_part touches) c.touches_outside.new.tests) c.if-touches.false

pub returns-in_err-touches-in-true-false : goal.returns-in_err-touches-in-true-false
returns-in_err-touches-in-true-false g c =
    let p = err_from_is_err_and c.from_residual.result c.from_residual.ensures.1 in
    let a = g.T.Oracle.parts_of c.args.a.now in
    let b = g.T.Oracle.parts_of c.args.b.now in
    let w = c.args.tests.now in
    let e = c.in_err-touches-in-true-false.field-0.0 in
    let new = c.touches_outside.new.tests in
    rw (p.1, p.2)
    (subst (λ o. StopsBy e new o) (sym ((λ i. relation_by_rests g.T.Oracle.tester a b (sym c.parts.ensures i) (sym c.parts-2.ensures i) w) ∙ first_empty g.T.Oracle.tester g.T.Oracle.seen a b c.parts.result.now c.parts-2.result.now c.in-true-false.ensures c.in-true-false.ensures' w))
    (stops_on (λ touches. pass (relation_part touches)) e new _ c.in_err-touches-in-true-false.ensures))

pub returns-then-touches-2 : goal.returns-then-touches-2
returns-then-touches-2 g c =
    let a = g.T.Oracle.parts_of c.args.a.now in
    let b = g.T.Oracle.parts_of c.args.b.now in
    let w = c.args.tests.now in
    (λ i. relation_by_rests g.T.Oracle.tester a b (sym c.parts.ensures i) (sym c.parts-2.ensures i) w)
    ∙ second_empty g.T.Oracle.tester g.T.Oracle.seen a b c.parts.result.now c.parts-2.result.now c.in-false-true.ensures c.in-false-true.ensures' w
    ∙ ap (after_first (λ touches. pass (relation_whole touches))) c.in_ok-touches-in-false-true.ensures
    ∙ ap (λ touches. done (relation_whole touches) c.touches_outside-in-false-true.new.tests) c.if-touches-2.true

pub returns-else-touches-2 : goal.returns-else-touches-2
returns-else-touches-2 g c =
    let a = g.T.Oracle.parts_of c.args.a.now in
    let b = g.T.Oracle.parts_of c.args.b.now in
    let w = c.args.tests.now in
    (λ i. relation_by_rests g.T.Oracle.tester a b (sym c.parts.ensures i) (sym c.parts-2.ensures i) w)
    ∙ second_empty g.T.Oracle.tester g.T.Oracle.seen a b c.parts.result.now c.parts-2.result.now c.in-false-true.ensures c.in-false-true.ensures' w
    ∙ ap (after_first (λ touches. pass (relation_whole touches))) c.in_ok-touches-in-false-true.ensures
    ∙ ap (λ touches. done (relation_whole touches) c.touches_outside-in-false-true.new.tests) c.if-touches-2.false

pub returns-in_err-touches-in-false-true : goal.returns-in_err-touches-in-false-true
returns-in_err-touches-in-false-true g c =
    let p = err_from_is_err_and c.from_residual-in_err-touches-in-false-true.result c.from_residual-in_err-touches-in-false-true.ensures.1 in
    let a = g.T.Oracle.parts_of c.args.a.now in
    let b = g.T.Oracle.parts_of c.args.b.now in
    let w = c.args.tests.now in
    let e = c.in_err-touches-in-false-true.field-0.0 in
    let new = c.touches_outside-in-false-true.new.tests in
    rw (p.1, p.2)
    (subst (λ o. StopsBy e new o) (sym ((λ i. relation_by_rests g.T.Oracle.tester a b (sym c.parts.ensures i) (sym c.parts-2.ensures i) w) ∙ second_empty g.T.Oracle.tester g.T.Oracle.seen a b c.parts.result.now c.parts-2.result.now c.in-false-true.ensures c.in-false-true.ensures' w))
    (stops_on (λ touches. pass (relation_whole touches)) e new _ c.in_err-touches-in-false-true.ensures))
