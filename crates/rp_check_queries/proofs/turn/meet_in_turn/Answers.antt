use Rattle.std.proofs.Common.{ℕ, ◌+◌, ◌++◌, ◌∷◌, [], drop, length, ap, ◌∙◌, arith}
use Rattle.std.proofs.lemmas.List.{length_push}
use Rattle.std.proofs.lemmas.Result.{err_from_is_err_and}
use Rattle.rp_semantics.specs.Walk.{pass}
use Rattle.rp_reports.specs.Check.{line_tester}
use Rattle.rp_oracle.proofs.Left.{stop_left, stops_on}
use Rattle.rp_check_queries.proofs.Judged.{within_at, met_with, met_from, pair_left, rest_left, none_left}
use Rattle.rp_check_queries.proofs.turn.meet_in_turn.Goals as goal

pub loop-i-preserved : goal.loop-i-preserved
loop-i-preserved c =
    let forms = c.args.forms.now in
    let pairs = c.args.pairs.now in
    let i = c.loop-i.i in
    let met = c.loop-i.met.items in
    let f = c.index-forms-pair.result in
    let g = c.index-forms-pair-in-loop-i.result in
    let meets = c.in_ok-meets.meets in
    let more = c.put.new.met.items in
    let left = pair_left line_tester c.args.reach (λ a. a.items) forms met pairs i f g c.requires c.loop-i-test.true c.index-forms-pair.is c.index-forms-pair-in-loop-i.is c.loop-i.invariant.0 in (
      rest_left line_tester c.args.reach (λ a. a.items) forms met more (drop (i + 1) pairs) f g meets left c.in_ok-meets.ensures c.in_ok-put.ensures,
      ap length c.in_ok-put.ensures ∙ length_push met meets ∙ ap (λ (n : ℕ). n + 1) c.loop-i.invariant.1,
    )

pub returns-in_err-meets-clause-comes : goal.returns-in_err-meets-clause-comes
returns-in_err-meets-clause-comes c =
    let p = err_from_is_err_and c.from_residual.result c.from_residual.ensures.1 in
    let forms = c.args.forms.now in
    let pairs = c.args.pairs.now in
    let i = c.loop-i.i in
    let met = c.loop-i.met.items in
    let f = c.index-forms-pair.result in
    let g = c.index-forms-pair-in-loop-i.result in
    let e = c.in_err-meets.field-0.0 in
    let new = c.do_meet.new.trail in
    let left = pair_left line_tester c.args.reach (λ a. a.items) forms met pairs i f g c.requires c.loop-i-test.true c.index-forms-pair.is c.index-forms-pair-in-loop-i.is c.loop-i.invariant.0 in
    rw (p.1, p.2)
    (stop_left (met_with line_tester c.args.reach (λ a. a.items) forms met f g) (met_from line_tester c.args.reach (λ a. a.items) forms (drop (i + 1) pairs)) left e new
    (stops_on (λ meets. pass (met ++ meets ∷ [])) e new _ c.in_err-meets.ensures))

pub bounds-forms-pair : goal.bounds-forms-pair
bounds-forms-pair c = (within_at c.args.forms.now c.args.pairs.now c.loop-i.i c.requires c.loop-i-test.true).0

pub bounds-forms-pair-in-loop-i : goal.bounds-forms-pair-in-loop-i
bounds-forms-pair-in-loop-i c = (within_at c.args.forms.now c.args.pairs.now c.loop-i.i c.requires c.loop-i-test.true).1

pub returns-clause-comes : goal.returns-clause-comes
returns-clause-comes c = none_left line_tester c.args.reach (λ a. a.items) c.args.forms.now c.loop-i.met.items c.args.pairs.now c.loop-i.i c.loop-i-test.false c.loop-i.invariant.0

pub returns-clause-each : goal.returns-clause-each
returns-clause-each c = let all = c.loop-i.invariant.1 in omega (arith, all, c.loop-i-test.false, c.loop-i.auto.i-end)
