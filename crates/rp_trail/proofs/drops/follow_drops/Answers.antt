use Rattle.std.proofs.Common.{◌<◌, length, ap, sym, ◌∙◌, subst, arith}
use Rattle.rp_reports.specs.Check.{Trail, next_proof, dropped_by, follow_drops}
use Rattle.rp_trail.proofs.Tested.{drop_is_left, drop_step, drop_stop, fewer_left}
use Rattle.rp_trail.proofs.drops.follow_drops.Goals as goal

pub take-requires : goal.take-requires
take-requires g c =
    let t = c.loop-half.trail in
    let kept = c.loop-half.kept.items in
    let e =
    ap (λ hs. dropped_by hs (next_proof t.lines)) (sym c.as_slice.ensures.value) ∙ ap (dropped_by c.as_slice.result.now) (sym c.loop-half.invariant.next)
    ∙ sym c.dropped.ensures
    ∙ c.in-Some.is in
    drop_is_left kept t.lines c.in-Some.half e

pub loop-half-preserved : goal.loop-half-preserved
loop-half-preserved g c =
    let t = c.loop-half.trail in
    let kept = c.loop-half.kept.items in
    let e =
    ap (λ hs. dropped_by hs (next_proof t.lines)) (sym c.as_slice.ensures.value) ∙ ap (dropped_by c.as_slice.result.now) (sym c.loop-half.invariant.next)
    ∙ sym c.dropped.ensures
    ∙ c.in-Some.is in
    record {
      left = (λ i. follow_drops (c.take.ensures i).lines (c.remove.ensures.items i) (c.take.ensures i)) ∙ sym (drop_step t.lines kept t c.in-Some.half e) ∙ c.loop-half.invariant.left;
      few = omega (arith, c.remove.ensures.fewer, c.loop-half.invariant.few);
      next = c.next_proof-next-in-Some.ensures;
    }

pub loop-half-smaller : goal.loop-half-smaller
loop-half-smaller g c =
    let t = c.loop-half.trail in
    let kept = c.loop-half.kept.items in
    let e =
    ap (λ hs. dropped_by hs (next_proof t.lines)) (sym c.as_slice.ensures.value) ∙ ap (dropped_by c.as_slice.result.now) (sym c.loop-half.invariant.next)
    ∙ sym c.dropped.ensures
    ∙ c.in-Some.is in
    subst (λ (u : Trail). length u.lines < length t.lines) (sym c.take.ensures) (fewer_left t.lines (drop_is_left kept t.lines c.in-Some.half e))

pub returns-clause-value : goal.returns-clause-value
returns-clause-value g c =
    let t = c.loop-half.trail in
    let kept = c.loop-half.kept.items in
    sym c.loop-half.invariant.left
    ∙ drop_stop t.lines kept t
    (ap (λ hs. dropped_by hs (next_proof t.lines)) (sym c.as_slice.ensures.value) ∙ ap (dropped_by c.as_slice.result.now) (sym c.loop-half.invariant.next) ∙ sym c.dropped.ensures ∙ c.in_default.is)
