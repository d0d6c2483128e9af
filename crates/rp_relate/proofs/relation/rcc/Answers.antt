use Rattle.std.proofs.lemmas.Result.{err_from_is_err_and}
use Rattle.rp_geometry.specs.sets.Shape.{shape_of_parts}
use Rattle.rp_eval.specs.Relations.{relation_of}
use Rattle.rp_relate.proofs.Covered.{has_point, has_no_point, fault_tells, found_right}
use Rattle.rp_relate.proofs.relation.rcc.Goals as goal

pub returns-then-is_empty-2-clause-told : goal.returns-then-is_empty-2-clause-told
returns-then-is_empty-2-clause-told c = (
  has_point c.args.a.now c.parts.result.now c.parts.ensures.kept c.parts.ensures.value c.if-is_empty.ensures,
  has_no_point c.args.b.now c.parts-2.result.now c.parts-2.ensures.value c.if-is_empty-2.ensures,
)

pub returns-in_err-found_relation-clause-told : goal.returns-in_err-found_relation-clause-told
returns-in_err-found_relation-clause-told c =
    let p = err_from_is_err_and c.from_residual.result c.from_residual.ensures.1 in
    rw (p.1, p.2)
    (fault_tells c.in_err-found_relation.field-0.0 (shape_of_parts c.args.a.now) (shape_of_parts c.args.b.now) (has_point c.args.a.now c.parts.result.now c.parts.ensures.kept c.parts.ensures.value c.if-is_empty.ensures)
    (has_point c.args.b.now c.parts-2.result.now c.parts-2.ensures.kept c.parts-2.ensures.value c.if-is_empty-2.ensures))

pub returns-clause-told : goal.returns-clause-told
returns-clause-told c = (
  has_point c.args.a.now c.parts.result.now c.parts.ensures.kept c.parts.ensures.value c.if-is_empty.ensures,
  has_point c.args.b.now c.parts-2.result.now c.parts-2.ensures.kept c.parts-2.ensures.value c.if-is_empty-2.ensures,
)

pub returns-clause-right : goal.returns-clause-right
returns-clause-right c =
    let told = returns-clause-told c in
    found_right c.args.a.now c.args.b.now (relation_of c.in_ok-found_relation.field-0) c.args.work.now c.found_relation.new.work c.parts.ensures.kept c.parts-2.ensures.kept told.0 told.1 c.in_ok-found_relation.ensures
