use Rattle.std.proofs.Common.{◌≡◌, ◌+◌, ◌-◌, ◌∷◌, ◌++◌, true, List, length, take, drop, sym, ap, ◌∙◌, subst}
use Rattle.rp_algebra.proofs.Listed.{all_append}
use Rattle.rp_geometry.specs.Geometry.{RationalPoint, HalfSpace, IsHalfSpace}
use Rattle.rp_geometry.specs.laws.CellLaws.{AreHalfSpaces, IsSolution}
use Rattle.rp_convex.proofs.Inside.{member_moves_inside_spec}
use Rattle.rp_cell.proofs.Refuted.{IsFound, found_through, front_at, split_behind}
use Rattle.rp_cell.proofs.held.Held.refute_through.Goals as goal

pub first_outside_through-requires-clause-others : goal.first_outside_through-requires-clause-others
first_outside_through-requires-clause-others c =
    let first = c.args.first.now in
    let more = c.args.more.now in
    let after = take (length more - (c.args.place + 1)) (drop (c.args.place + 1) more) in
    let held : c.extend.new.self ≡ (first ++ take c.args.place more) ++ after = c.extend.ensures ∙ ap (λ (hs : List HalfSpace). hs ++ after) c.hold_behind.ensures in
    let before : take (length c.halves-4.result.now + c.args.place) c.halves-3.result.now ≡ first ++ take c.args.place more =
    (λ i. take (length (c.halves-4.ensures.value i) + c.args.place) ((c.halves-3.ensures.value ∙ held) i)) ∙ front_at first more after c.args.place c.requires.place in
    subst (λ (hs : List HalfSpace). (p : RationalPoint) × IsSolution true hs p) (held ∙ ap (λ (hs : List HalfSpace). hs ++ after) (sym before))
    (member_moves_inside_spec c.extend.new.self (subst AreHalfSpaces c.halves.ensures.value c.keep_bounds.ensures) (c.has_point.ensures c.if-not-has_point.false))

-- what the search has found
found : (c : goal.After-first_outside_through) → IsFound (c.args.first.now ++ c.args.more.now) c.first_outside_through.result
found c =
    let first = c.args.first.now in
    let more = c.args.more.now in
    let place = c.args.place in
    let half = c.index-more-place.result in
    let after = take (length more - (place + 1)) (drop (place + 1) more) in
    let held : c.extend.new.self ≡ (first ++ take place more) ++ after = c.extend.ensures ∙ ap (λ (hs : List HalfSpace). hs ++ after) c.hold_behind.ensures in
    let front = take (length c.halves-4.result.now + place) c.halves-3.result.now in
    let before : front ≡ first ++ take place more = (λ i. take (length (c.halves-4.ensures.value i) + place) ((c.halves-3.ensures.value ∙ held) i)) ∙ front_at first more after place c.requires.place in
    let bounds = all_append IsHalfSpace first more (subst AreHalfSpaces c.halves-2.ensures.value c.keep_bounds-2.ensures) c.keep_bounds-3.ensures in
    let list : front ++ half ∷ after ≡ first ++ more = ap (λ (hs : List HalfSpace). hs ++ half ∷ after) before ∙ split_behind first more place half c.requires.place c.index-more-place.is in
    found_through (first ++ more) (front ++ half ∷ after) c.first_outside_through.result bounds list c.first_outside_through.ensures.first c.first_outside_through.ensures.passes c.first_outside_through.ensures.none

pub returns-clause-first : goal.returns-clause-first
returns-clause-first c = (found c).first

pub returns-clause-passes : goal.returns-clause-passes
returns-clause-passes c = (found c).passes

pub returns-clause-empty : goal.returns-clause-empty
returns-clause-empty c = (found c).empty

pub returns-clause-line : goal.returns-clause-line
returns-clause-line c = (found c).line
