use Rattle.std.proofs.Common.{◌≡◌, ◌+◌, ◌<◌, ◌≤◌, length, get_or, arith, drop, refl, sym, ap, ◌∙◌, subst, List}
use Rattle.std.proofs.lemmas.List.{drop_more}
use Rattle.std.proofs.lemmas.Result.{err_from_is_err_and}
use Rattle.std.proofs.Math.ListN.{drop_of_length-le}
use Rattle.rp_geometry.specs.Geometry.{HalfSpace}
use Rattle.rp_semantics.specs.Walk.{done}
use Rattle.rp_reports.specs.Check.{follow_side, follow_sides}
use Rattle.rp_oracle.specs.Refines.{StopsBy}
use Rattle.rp_oracle.proofs.Left.{left_as, next_left, stop_left, end_left}
use Rattle.rp_trail.proofs.sides.follow_sides.Goals as goal

pub returns-in_err-follow_side : goal.returns-in_err-follow_side
returns-in_err-follow_side c =
    let p = err_from_is_err_and c.from_residual.result c.from_residual.ensures.1 in
    let kept = c.args.kept.now in
    let sides = c.box_halves-sides.result in
    let rest = drop (c.loop-side.side-index + 1) sides in
    let side = get_or sides c.loop-side.side-index c.side-item.result in
    let six : length sides ≡ 6 = ap length c.box_halves-sides.ensures in
    let below : c.loop-side.side-index < length sides = omega (arith, six, c.loop-side-test.true) in
    let e = c.in_err-follow_side.field-0.0 in
    let new = c.follow_side.new.trail in
    rw (p.1, p.2)
    (subst (λ (hs : List HalfSpace). StopsBy e new (follow_sides kept hs c.args.trail.now)) c.box_halves-sides.ensures
    (stop_left (follow_side kept side) (λ _. follow_sides kept rest)
    (left_as (ap (follow_sides kept) (drop_more sides c.loop-side.side-index c.side-item.result below)) c.loop-side.invariant)
    e new c.in_err-follow_side.ensures))

pub loop-side-preserved : goal.loop-side-preserved
loop-side-preserved c =
    let kept = c.args.kept.now in
    let sides = c.box_halves-sides.result in
    let rest = drop (c.loop-side.side-index + 1) sides in
    let side = get_or sides c.loop-side.side-index c.side-item.result in
    let six : length sides ≡ 6 = ap length c.box_halves-sides.ensures in
    let below : c.loop-side.side-index < length sides = omega (arith, six, c.loop-side-test.true) in
    next_left (follow_side kept side) (λ _. follow_sides kept rest)
    (left_as (ap (follow_sides kept) (drop_more sides c.loop-side.side-index c.side-item.result below)) c.loop-side.invariant)
    c.in_ok-follow_side.ensures

pub returns : goal.returns
returns c =
    let kept = c.args.kept.now in
    let sides = c.box_halves-sides.result in
    let six : length sides ≡ 6 = ap length c.box_halves-sides.ensures in
    let past : length sides ≤ c.loop-side.side-index = omega (arith, six, c.loop-side-test.false) in
    (λ i. follow_sides kept (sym c.box_halves-sides.ensures i) c.args.trail.now)
    ∙ end_left (done tt c.loop-side.trail) (left_as (ap (follow_sides kept) (drop_of_length-le sides past)) c.loop-side.invariant) refl
