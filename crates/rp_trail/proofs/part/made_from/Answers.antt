use Rattle.std.proofs.Common.{◌<◌, ◌≤◌, List, sym, ap, ◌∙◌, subst}
use Rattle.std.specs.Prelude.{Some}
use Rattle.std.proofs.lemmas.Result.{err_from_is_err_and}
use Rattle.rp_geometry.specs.Geometry.{HalfSpace, box_half_spaces}
use Rattle.rp_geometry.specs.parts.Parts.{most_half_spaces, IsCheckedPart}
use Rattle.rp_semantics.specs.Walk.{done}
use Rattle.rp_reports.specs.Check.{follow_drops, follow_sides}
use Rattle.rp_space.specs.Boxes.{integer_box}
use Rattle.rp_oracle.specs.Refines.{StopsBy}
use Rattle.rp_trail.proofs.Tested.{boxed, too_many, few_kept, box_followed, sides_stop, sides_followed, made_checked}
use Rattle.rp_trail.proofs.part.made_from.Goals as goal

pub returns-then-len-gt-MAX_HALVES : goal.returns-then-len-gt-MAX_HALVES
returns-then-len-gt-MAX_HALVES g c =
    let cell = c.args.cell.now in
    let t = c.args.trail.now in
    let kept = c.follow_drops-next.new.kept.items in
    let u = c.follow_drops-next.new.trail in
    let drops = ap (λ hs. follow_drops t.lines hs t) (sym c.requires.same) ∙ c.follow_drops-next.ensures.value in
    too_many cell kept t u drops (subst (λ n. most_half_spaces < n) c.len.ensures.value c.if-len-gt-MAX_HALVES.true)

pub returns-in_err-follow_sides : goal.returns-in_err-follow_sides
returns-in_err-follow_sides g c =
    let p = err_from_is_err_and c.from_residual-in_err-follow_sides.result c.from_residual-in_err-follow_sides.ensures.1 in
    let cell = c.args.cell.now in
    let t = c.args.trail.now in
    let kept = c.follow_drops-next.new.kept.items in
    let u = c.follow_drops-next.new.trail in
    let v = c.follow_box.new.trail in
    let x = c.follow_sides.new.trail in
    let e = c.in_err-follow_sides.field-0.0 in
    let b = integer_box c.in_ok-bounds.bounds in
    let drops = ap (λ hs. follow_drops t.lines hs t) (sym c.requires.same) ∙ c.follow_drops-next.ensures.value in
    let few = few_kept cell kept t u drops (subst (λ n. n ≤ most_half_spaces) c.len.ensures.value c.if-len-gt-MAX_HALVES.false) in
    rw (p.1, p.2)
    (sides_stop cell kept b t v x e (box_followed cell kept b t u v few c.in_ok-bounds.ensures.comes)
    (subst (λ (hs : List HalfSpace). StopsBy e x (follow_sides hs (box_half_spaces b) v)) c.as_slice-slim.ensures.value c.in_err-follow_sides.ensures))

pub invariant_of-result : goal.invariant_of-result
invariant_of-result g c =
    let cell = c.args.cell.now in
    let t = c.args.trail.now in
    let kept = c.follow_drops-next.new.kept.items in
    let u = c.follow_drops-next.new.trail in
    let v = c.follow_box.new.trail in
    let x = c.follow_sides.new.trail in
    let b = integer_box c.in_ok-bounds.bounds in
    let drops = ap (λ hs. follow_drops t.lines hs t) (sym c.requires.same) ∙ c.follow_drops-next.ensures.value in
    let few = few_kept cell kept t u drops (subst (λ n. n ≤ most_half_spaces) c.len.ensures.value c.if-len-gt-MAX_HALVES.false) in
    let made = sides_followed cell kept b t v x (box_followed cell kept b t u v few c.in_ok-bounds.ensures.comes) (ap (λ (hs : List HalfSpace). follow_sides hs (box_half_spaces b) v) (sym c.as_slice-slim.ensures.value) ∙ c.in_ok-follow_sides.ensures) in
    subst (λ (hs : List HalfSpace). IsCheckedPart (boxed hs b)) (sym (c.in_ok-halves.ensures ∙ c.as_slice-slim.ensures.value))
    (made_checked cell (boxed kept b) t x c.keep_halves.ensures c.requires.shown made)

pub returns : goal.returns
returns g c =
    let cell = c.args.cell.now in
    let t = c.args.trail.now in
    let kept = c.follow_drops-next.new.kept.items in
    let u = c.follow_drops-next.new.trail in
    let v = c.follow_box.new.trail in
    let x = c.follow_sides.new.trail in
    let b = integer_box c.in_ok-bounds.bounds in
    let drops = ap (λ hs. follow_drops t.lines hs t) (sym c.requires.same) ∙ c.follow_drops-next.ensures.value in
    let few = few_kept cell kept t u drops (subst (λ n. n ≤ most_half_spaces) c.len.ensures.value c.if-len-gt-MAX_HALVES.false) in
    let made = sides_followed cell kept b t v x (box_followed cell kept b t u v few c.in_ok-bounds.ensures.comes) (ap (λ (hs : List HalfSpace). follow_sides hs (box_half_spaces b) v) (sym c.as_slice-slim.ensures.value) ∙ c.in_ok-follow_sides.ensures) in
    made ∙ ap (λ (hs : List HalfSpace). done (Some (boxed hs b)) x) (sym (c.in_ok-halves.ensures ∙ c.as_slice-slim.ensures.value))
