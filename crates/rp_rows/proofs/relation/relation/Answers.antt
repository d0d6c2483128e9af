use Rattle.std.proofs.Common.{true, false, [], ◌∷◌, sym, ap, ◌∙◌, subst}
use Rattle.std.proofs.lemmas.Result.{err_from_is_err_and}
use Rattle.rp_semantics.specs.Walk.{done, pass, after_first}
use Rattle.rp_model.specs.commands.Verdict.{Verdict}
use Rattle.rp_model.specs.commands.Reply.{reply, reply_lines}
use Rattle.rp_oracle.specs.Refines.{StopsBy}
use Rattle.rp_oracle.proofs.Left.{stops_on}
use Rattle.rp_rows.proofs.TwoForms.{as_empty, first_missing, second_missing, both_there}
use Rattle.rp_rows.proofs.relation.relation.Goals as goal

pub returns-then-is_empty : goal.returns-then-is_empty
returns-then-is_empty g c =
    let seen = g.T.Oracle.seen in
    let a = g.T.Oracle.parts_of c.args.a.now in
    let b = g.T.Oracle.parts_of c.args.b.now in
    ap (λ walk. walk c.args.tests.now) (first_missing g.T.Oracle.tester a b (as_empty seen c.parts.result.now a c.parts.ensures true c.is_empty.result c.is_empty.ensures c.if-is_empty.true))

pub returns-then-is_empty-2 : goal.returns-then-is_empty-2
returns-then-is_empty-2 g c =
    let seen = g.T.Oracle.seen in
    let a = g.T.Oracle.parts_of c.args.a.now in
    let b = g.T.Oracle.parts_of c.args.b.now in
    let first = as_empty seen c.parts.result.now a c.parts.ensures false c.is_empty.result c.is_empty.ensures c.if-is_empty.false in
    let second = as_empty seen c.parts-2.result.now b c.parts-2.ensures true c.is_empty-2.result c.is_empty-2.ensures c.if-is_empty-2.true in
    ap (λ walk. walk c.args.tests.now) (second_missing g.T.Oracle.tester a b first second)

pub returns-in_err-relation : goal.returns-in_err-relation
returns-in_err-relation g c =
    let p = err_from_is_err_and c.from_residual.result c.from_residual.ensures.1 in
    let seen = g.T.Oracle.seen in
    let a = g.T.Oracle.parts_of c.args.a.now in
    let b = g.T.Oracle.parts_of c.args.b.now in
    let first = as_empty seen c.parts.result.now a c.parts.ensures false c.is_empty.result c.is_empty.ensures c.if-is_empty.false in
    let second = as_empty seen c.parts-2.result.now b c.parts-2.ensures false c.is_empty-2.result c.is_empty-2.ensures c.if-is_empty-2.false in
    let e = c.in_err-relation.field-0.0 in
    let new = c.found_relation.new.tests in
    rw (p.1, p.2)
    (subst (λ o. StopsBy e new o) (sym (both_there g.T.Oracle.tester a b first second c.args.tests.now))
    (stops_on (λ r. pass (reply (Verdict.relation r))) e new _ c.in_err-relation.ensures))

pub returns-in_err-one_line : goal.returns-in_err-one_line
returns-in_err-one_line g c =
    let p = err_from_is_err_and c.from_residual-in_err-one_line.result c.from_residual-in_err-one_line.ensures.1 in
    rw (p.1, p.2) tt

pub returns : goal.returns
returns g c =
    let seen = g.T.Oracle.seen in
    let a = g.T.Oracle.parts_of c.args.a.now in
    let b = g.T.Oracle.parts_of c.args.b.now in
    let first = as_empty seen c.parts.result.now a c.parts.ensures false c.is_empty.result c.is_empty.ensures c.if-is_empty.false in
    let second = as_empty seen c.parts-2.result.now b c.parts-2.ensures false c.is_empty-2.result c.is_empty-2.ensures c.if-is_empty-2.false in
    both_there g.T.Oracle.tester a b first second c.args.tests.now
    ∙ ap (after_first (λ r. pass (reply (Verdict.relation r)))) c.in_ok-relation.ensures
    ∙ ap (λ vs. done (reply_lines vs) c.found_relation.new.tests) (sym (c.in_ok-one_line.ensures ∙ ap (λ v. v ∷ []) c.relation_verdict.ensures))
