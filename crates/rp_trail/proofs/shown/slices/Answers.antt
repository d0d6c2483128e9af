use Rattle.std.proofs.Common.{◌≡◌, ◌<◌, ◌≤◌, ◌++◌, List, length, get_or, map, refl, ap, subst}
use Rattle.std.proofs.lemmas.Int.{to_z-of_z}
use Rattle.std.proofs.lemmas.List.{drop_all}
use Rattle.std.proofs.lemmas.Result.{err_from_is_err_and}
use Rattle.rp_geometry.specs.sets.Shape.{Part}
use Rattle.rp_reports.specs.Check.{slices_told}
use Rattle.rp_cert.specs.Section.{slice_shown}
use Rattle.rp_cert.specs.declared.slice.Slice.{Slice as CodeSlice}
use mir.Syntax.{w32}
use Rattle.std.proofs.Common.{to_z, of_z}
use Rattle.rp_oracle.specs.Refines.{StopsBy}
use Rattle.rp_semantics.specs.Walk.{done}
use Rattle.rp_checker_completeness.proofs.Shown.{follow_each}
use Rattle.rp_oracle.proofs.Left.{left_as, end_left}
use Rattle.rp_trail.specs.Slices.{follow_slice_lines}
use Rattle.rp_trail.proofs.SliceLines.{each_left, slice_taken, slice_stops, told_more, all_told}
use Rattle.rp_trail.proofs.shown.slices.Goals as goal

pub loop-part-init : goal.loop-part-init
loop-part-init c =
    let z = to_z w32 (of_z w32 c.args.z) in (
      each_left z c.args.form.now.items c.args.trail.now,
      ap (λ (xs : List CodeSlice). map slice_shown xs ++ slices_told z c.args.form.now.items c.args.trail.now.lines) c.new-slices.ensures,
    )

pub returns-in_err-follow_slice-clause-comes : goal.returns-in_err-follow_slice-clause-comes
returns-in_err-follow_slice-clause-comes c =
    let p = err_from_is_err_and c.from_residual.result c.from_residual.ensures.1 in
    let e = c.in_err-follow_slice.field-0.0 in
    let new = c.follow_slice.new.trail in
    let ps = c.args.form.now.items in
    let i = c.loop-part.part-index in
    let part = c.part-item.result in
    let same = c.items-part-items.ensures in
    rw (p.1, p.2)
    (subst (λ z. StopsBy e new (follow_slice_lines z ps c.args.trail.now)) (to_z-of_z w32 c.args.z c.ranges.z)
    (slice_stops (to_z w32 (of_z w32 c.args.z)) ps i part (subst (λ (qs : List Part). i < length qs) same c.loop-part-test.true) (subst (λ (qs : List Part). part ≡ get_or qs i part) same c.part-item.is) c.loop-part.invariant.0 e new c.in_err-follow_slice.ensures.comes))

pub loop-part-preserved : goal.loop-part-preserved
loop-part-preserved c =
    let z = to_z w32 (of_z w32 c.args.z) in
    let ps = c.args.form.now.items in
    let i = c.loop-part.part-index in
    let part = c.part-item.result in
    let same = c.items-part-items.ensures in
    let here = subst (λ (qs : List Part). i < length qs) same c.loop-part-test.true in
    let is = subst (λ (qs : List Part). part ≡ get_or qs i part) same c.part-item.is in (
      slice_taken z ps i part here is c.loop-part.invariant.0 c.in_ok-follow_slice.ensures.comes,
      told_more z ps i part here is c.loop-part.slices.items c.push.new.self.items c.in_ok-follow_slice.field-0 c.loop-part.trail c.follow_slice.new.trail (slices_told z ps c.args.trail.now.lines)
          c.in_ok-follow_slice.ensures.told c.in_ok-follow_slice.ensures.takes c.in_ok-push.ensures.ok c.loop-part.invariant.1,
    )

pub returns-clause-comes : goal.returns-clause-comes
returns-clause-comes c =
    let ps = c.args.form.now.items in
    let over = subst (λ (qs : List Part). length qs ≤ c.loop-part.part-index) c.items-part-items.ensures c.loop-part-test.false in
    subst (λ z. follow_slice_lines z ps c.args.trail.now ≡ done tt c.loop-part.trail) (to_z-of_z w32 c.args.z c.ranges.z)
    (end_left (done tt c.loop-part.trail) (left_as (ap (follow_each (to_z w32 (of_z w32 c.args.z))) (drop_all c.loop-part.part-index ps over)) c.loop-part.invariant.0) refl)

pub returns-clause-told : goal.returns-clause-told
returns-clause-told c =
    let ps = c.args.form.now.items in
    let over = subst (λ (qs : List Part). length qs ≤ c.loop-part.part-index) c.items-part-items.ensures c.loop-part-test.false in
    let slices = c.loop-part.slices.items in
    subst (λ z. map slice_shown slices ≡ slices_told z ps c.args.trail.now.lines) (to_z-of_z w32 c.args.z c.ranges.z)
    (all_told (to_z w32 (of_z w32 c.args.z)) ps c.loop-part.part-index slices c.loop-part.trail (slices_told (to_z w32 (of_z w32 c.args.z)) ps c.args.trail.now.lines) over c.loop-part.invariant.1)
