use Rattle.std.proofs.Common.{◌+◌, ◌∷◌, [], ◌++◌, take, drop, sym, ap, ◌∙◌}
use Rattle.std.proofs.lemmas.Result.{err_from_is_err_and}
use Rattle.std.proofs.lemmas.List.{take_more}
use Rattle.rp_algebra.proofs.Lists.{drop_item}
use Rattle.rp_reports.specs.Check.{line_tester}
use Rattle.rp_semantics.specs.Form.{carve_one, carve}
use Rattle.rp_oracle.proofs.Left.{left_as, next_left, stop_left}
use Rattle.rp_trail.proofs.difference.carve.Goals as goal

pub returns-in_err-carve_one : goal.returns-in_err-carve_one
returns-in_err-carve_one c =
    let p = err_from_is_err_and c.from_residual.result c.from_residual.ensures.1 in
    let cell = c.args.cell.now in
    let halves = c.args.halves.now in
    let before = take c.loop-i.i halves in
    let half = c.index-halves-i.result in
    let rest = drop (c.loop-i.i + 1) halves in
    rw (p.1, p.2)
    (stop_left (carve_one line_tester c.loop-i.left.items cell before half) (λ longer. carve line_tester longer cell (before ++ half ∷ []) rest)
    (left_as (ap (carve line_tester c.loop-i.left.items cell before) (drop_item halves c.loop-i.i half c.loop-i-test.true c.index-halves-i.is)) c.loop-i.invariant)
    c.in_err-carve_one.field-0.0 c.carve_one.new.trail c.in_err-carve_one.ensures)

pub loop-i-preserved : goal.loop-i-preserved
loop-i-preserved c =
    let cell = c.args.cell.now in
    let halves = c.args.halves.now in
    let before = take c.loop-i.i halves in
    let half = c.index-halves-i.result in
    let rest = drop (c.loop-i.i + 1) halves in
    left_as (ap (λ hs. carve line_tester c.carve_one.new.left.items cell hs rest) (ap (λ h. before ++ h ∷ []) c.index-halves-i.is ∙ sym (take_more halves c.loop-i.i half c.loop-i-test.true)))
    (next_left (carve_one line_tester c.loop-i.left.items cell before half) (λ longer. carve line_tester longer cell (before ++ half ∷ []) rest)
    (left_as (ap (carve line_tester c.loop-i.left.items cell before) (drop_item halves c.loop-i.i half c.loop-i-test.true c.index-halves-i.is)) c.loop-i.invariant)
    c.in_ok-carve_one.ensures)
