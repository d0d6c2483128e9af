use Rattle.std.proofs.Common.{true, [], ◌++◌, sym, ap, ◌∙◌}
use Rattle.std.proofs.lemmas.Result.{err_from_is_err_and}
use Rattle.rp_reports.specs.Check.{line_tester}
use Rattle.rp_semantics.specs.Walk.{done}
use Rattle.rp_semantics.specs.Form.{carve}
use Rattle.rp_oracle.proofs.Left.{left_as, comes_left}
use Rattle.rp_trail.proofs.Steps.{pair_uncounted, pair_untested, pair_tested}
use Rattle.rp_trail.proofs.difference.subtract_pair.Goals as goal

pub returns-in_err-count_test : goal.returns-in_err-count_test
returns-in_err-count_test c =
    let p = err_from_is_err_and c.from_residual-in_err-count_test.result c.from_residual-in_err-count_test.ensures.1 in
    rw (p.1, p.2) (pair_uncounted c.args.left.now.items c.args.part c.args.other.now c.args.trail.now c.count_test.new.trail (sym c.if-not-may_be.ensures) c.in_err-count_test.field-0.0 c.in_err-count_test.ensures)

pub returns-in_err-meets : goal.returns-in_err-meets
returns-in_err-meets c =
    let p = err_from_is_err_and c.from_residual-in_err-meets.result c.from_residual-in_err-meets.ensures.1 in
    rw (p.1, p.2)
    (pair_untested c.args.left.now.items c.args.part c.args.other.now (c.cell-cell.result.now ++ c.cell-halves.result.now) c.args.trail.now c.count_test.new.trail c.strict.new.self c.in_err-meets.field-0.0
    (λ i. c.cell-cell.ensures.value i ++ c.cell-halves.ensures.value i) (sym c.if-not-may_be.ensures) c.in_ok-count_test.ensures c.in_err-meets.ensures.comes)

pub returns-then-meets : goal.returns-then-meets
returns-then-meets c =
    let made = c.args.left.now.items in
    comes_left _ c.carve.result c.carve.new.trail
    (left_as (λ i. carve line_tester made (sym c.cell-cell.ensures.value i) [] (sym c.cell-halves.ensures.value i))
    (pair_tested made c.args.part c.args.other.now (c.cell-cell.result.now ++ c.cell-halves.result.now) {found = true} (λ i. c.cell-cell.ensures.value i ++ c.cell-halves.ensures.value i) (sym c.if-not-may_be.ensures) c.in_ok-count_test.ensures
    (c.in_ok-meets.ensures.comes ∙ ap (λ b. done b c.strict.new.self) c.if-meets.true)))
    c.carve.ensures
