use Rattle.std.proofs.Common.{List, [], ◌∷◌, ◌++◌, length, sym, ap, ◌∙◌, arith}
use Rattle.rp_algebra.proofs.Numbers.{above_zero}
use Rattle.rp_geometry.specs.Geometry.{RationalPoint}
use Rattle.rp_convex.proofs.Progress.{room_for_next}
use Rattle.rp_convex.proofs.Rounds.{far_first, far_next, found_next, flat_later, fewer_later}
use Rattle.rp_vertex.proofs.certificate.points_on_few.Goals as goal

pub loop-way-init : goal.loop-way-init
loop-way-init c =
    far_first c.args.system.now c.args.first c.flat_at-flat.result.items c.push.new.self c.requires.first c.flat_at-flat.ensures
    (c.push.ensures ∙ ap (λ (ps : List RationalPoint). ps ++ c.args.first ∷ []) c.new-taken.ensures)

pub push-requires-in-loop-way : goal.push-requires-in-loop-way
push-requires-in-loop-way c = (
  omega arith,
  room_for_next c.args.system.now c.loop-way.flat.items c.loop-way.taken c.in_ok-next.next c.loop-way.invariant.progress
      (found_next c.args.system.now c.loop-way.flat.items c.as_slice.result.now c.in_ok-next.next c.as_slice.ensures.value (sym c.in_ok-next.ensures)),
)

pub loop-way-smaller : goal.loop-way-smaller
loop-way-smaller c =
    fewer_later c.args.system.now c.loop-way.flat.items c.flat_at-flat-in-loop-way.result.items c.in_ok-next.next
    (above_zero (length c.loop-way.flat.items) c.loop-way-test.ensures)
    (found_next c.args.system.now c.loop-way.flat.items c.as_slice.result.now c.in_ok-next.next c.as_slice.ensures.value (sym c.in_ok-next.ensures))
    (flat_later c.loop-way.flat.items c.as_slice-in-loop-way.result.now c.flat_at-flat-in-loop-way.result.items c.in_ok-next.next c.as_slice-in-loop-way.ensures.value c.flat_at-flat-in-loop-way.ensures)

pub loop-way-preserved : goal.loop-way-preserved
loop-way-preserved c =
    far_next c.args.system.now c.args.first c.loop-way.flat.items c.flat_at-flat-in-loop-way.result.items c.loop-way.taken c.push-in-loop-way.new.self c.in_ok-next.next
    c.loop-way.invariant
    (above_zero (length c.loop-way.flat.items) c.loop-way-test.ensures)
    (found_next c.args.system.now c.loop-way.flat.items c.as_slice.result.now c.in_ok-next.next c.as_slice.ensures.value (sym c.in_ok-next.ensures))
    (flat_later c.loop-way.flat.items c.as_slice-in-loop-way.result.now c.flat_at-flat-in-loop-way.result.items c.in_ok-next.next c.as_slice-in-loop-way.ensures.value c.flat_at-flat-in-loop-way.ensures)
    c.push-in-loop-way.ensures
