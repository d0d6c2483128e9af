-- The search for a flat certificate: what it finds is one, and where it finds none there is a point at which all traces are above 0.
use Rattle.std.proofs.Common.{◌≡◌, ℤ, pos, negsuc, neg_ℤ, ◌+ℤ◌, ◌*ℤ◌, ◌≤ℤ◌, ◌<ℤ◌, Bool, true, false, ◌&&◌, ◌||◌, List, [], ◌∷◌, length, ◌⊎◌, inl, inr, ⊎_elim, Option, Some, None, refl, sym, ap, ◌∙◌, subst, arith}
use Rattle.std.specs.Prelude.{IsTrue, IsSome, IsNone}
use Rattle.std.specs.List.{AllByRecursion}
use Rattle.std.proofs.lemmas.Bool.{or_left, or_right}
use Rattle.rp_algebra.specs.Integer.{is_zero}
use Rattle.rp_algebra.proofs.IntLaws.{linear}
use Rattle.rp_algebra.proofs.Reify.{by_ring_at, lt_by_multiple, reify}
use Rattle.rp_algebra.proofs.Tests.{and_true, is_zero_true, false_not_true}
use Rattle.rp_algebra.proofs.Options.{none_not_some, same_some, if_some, or_else, or_else_found}
use Rattle.rp_algebra.proofs.Listed.{Listed, first, later, all_of, all_append}
use Rattle.rp_geometry.specs.Geometry.{RationalPoint, HalfSpace, IsHalfSpace, point_of, side_value}
use Rattle.rp_geometry.specs.searches.Certificate.{Multiple, weighted_sum}
use Rattle.rp_geometry.specs.searches.Search.{first_of, first_of_pairs, first_of_triples}
use Rattle.rp_geometry.specs.searches.Elimination.{multiple_of, half_spaces_of, normal_terms, minors_of_two, minors_on_axes, first_refutation}
use Rattle.rp_geometry.specs.laws.CellLaws.{AreHalfSpaces}
use Rattle.rp_geometry.specs.sections.Trace.{IsHeight, Trace, has_trace, offset_at, trace_value, holds_level, cube_sides, with_sides}
use Rattle.rp_geometry.specs.laws.SectionLaws.{HasMemberAt, MemberOrFlat, FindsFlat, FlatIsFound}
use Rattle.rp_geometry.specs.sections.Flat.{is_one_to_three, is_level_kind, is_trace_kind, is_flat, is_flat_refutation, flat_terms_if, flat_of_one, flat_of_two, flat_of_three, first_flat}
use Rattle.rp_geometry.proofs.Bounds.{cube_bounds}
use Rattle.rp_convex.proofs.Combination.{Among, IsSmall}
use Rattle.rp_convex.proofs.Sums.{length-half_spaces}
use Rattle.rp_convex.proofs.LowestMultiples.{AreFactorsSmall, half_spaces_of-normal}
use Rattle.rp_convex.proofs.Searched.{found_one, found_two, found_three}
use Rattle.rp_convex.proofs.OutsideFound.{passed, missed, not_missed, refuting}
use Rattle.rp_convex.proofs.Weak.{Point, offset_side, point_or_refutation}
use Rattle.rp_convex.proofs.Alternative.{great, strict_offset, terms-from, strict_side, greater}
use Rattle.rp_convex.proofs.Tests.{listed-from}
use Rattle.rp_slice.proofs.Traces.{traces, trace_in, value_of_factor}
use Rattle.rp_slice.proofs.Rings.{LevelsHold}
use Rattle.rp_slice.proofs.Never.{never_flat}
use Rattle.rp_slice.proofs.Center.{IsWithinAll, within_is_member}
use Rattle.rp_slice.proofs.Planar.{plane_by, plane, planes, planar, planar_of, plane_is, RefutesFlat, flat_refutation-to}
use Rattle.rp_slice.proofs.Hand.{search_is, two_by-of}

-- ---- bounds
-- the half-spaces of the flat list are within the bounds
pub with_sides_bounds : (cell : List HalfSpace) → AreHalfSpaces cell → AreHalfSpaces (with_sides cell)
with_sides_bounds cell k = let c = cube_bounds in all_append IsHalfSpace cell cube_sides k (c.0, (c.1.0, (c.1.1.0, (c.1.1.1.0, tt))))

-- on the plane the coefficients are small
plane_small : (b l : Bool) (z : ℤ) (h : HalfSpace) → IsHalfSpace h → IsSmall (plane_by b l z h)
plane_small true l z h k = record { a = record { abs_le = k.a }; b = record { abs_le = k.b }; c = record { abs_le = omega arith } }
plane_small false true z h k = record { a = record { abs_le = omega arith }; b = record { abs_le = omega arith }; c = record { abs_le = omega arith } }
plane_small false false z h k = record { a = record { abs_le = omega arith }; b = record { abs_le = omega arith }; c = record { abs_le = omega arith } }

-- the same of all of a list
planes_small : (z : ℤ) (hs : List HalfSpace) → AreHalfSpaces hs → AllByRecursion IsSmall (planes z hs)
planes_small z [] k = tt
planes_small z (h ∷ hs) k = (plane_small (has_trace h) (holds_level z h) z h k.0, planes_small z hs k.1)

-- so of the flat list
pub small_planes : (z : ℤ) (cell : List HalfSpace) → AreHalfSpaces cell → AllByRecursion IsSmall (planes z (with_sides cell))
small_planes z cell k = planes_small z (with_sides cell) (with_sides_bounds cell k)

-- ---- what is found
-- terms that are given refute
pub given_is : (z : ℤ) (ts us : List Multiple) → flat_terms_if z ts ≡ Some us → (ts ≡ us) × (is_flat_refutation z ts ≡ true)
given_is z ts us e =
    elim (is_flat_refutation z ts) as (λ b. is_flat_refutation z ts ≡ b → elim b [ true ↦ Some ts | false ↦ None ] ≡ Some us → (ts ≡ us) × (is_flat_refutation z ts ≡ true)) [
      | true ↦ λ t s. (same_some ts us s, t)
      | false ↦ λ t s. absurd (none_not_some us s)
    ] refl e

-- terms of half-spaces of the list that refute flatly
pub record FlatPassed (z : ℤ) (hs : List HalfSpace) (ts : List Multiple) : Type 0 where
  pub among : Among (half_spaces_of ts) hs
  pub many : is_one_to_three (length ts) ≡ true
  pub refutes : RefutesFlat z ts

-- terms in normal form
flat_normal : (z : ℤ) (hs ks : List HalfSpace) (ms us : List Multiple) → Among ks hs → half_spaces_of ms ≡ ks → is_one_to_three (length ks) ≡ true → flat_terms_if z (normal_terms ms) ≡ Some us → FlatPassed z hs us
flat_normal z hs ks ms us m same n e =
    let r = given_is z (normal_terms ms) us e in
    let spaces = half_spaces_of-normal ms ∙ same in
    subst (λ vs. FlatPassed z hs vs) r.0 (record {
      among = subst (λ gs. Among gs hs) (sym spaces) m;
      many = ap is_one_to_three (sym (length-half_spaces (normal_terms ms)) ∙ ap length spaces) ∙ n;
      refutes = flat_refutation-to z (normal_terms ms) r.1;
    })

module _ (z : ℤ) (hs : List HalfSpace) (us : List Multiple) where
  -- a find of one half-space
  found_flat_one : (h : HalfSpace) → Among (h ∷ []) hs → flat_of_one z h ≡ Some us → FlatPassed z hs us
  unfolding flat_of_one
  found_flat_one h m e =
      let r = given_is z (multiple_of (pos 1) h ∷ []) us e in
      subst (λ vs. FlatPassed z hs vs) r.0 (record { among = m; many = refl; refutes = flat_refutation-to z (multiple_of (pos 1) h ∷ []) r.1 })

  -- a find of two
  found_flat_two : (g h : HalfSpace) → Among (g ∷ h ∷ []) hs → flat_of_two z g h ≡ Some us → FlatPassed z hs us
  unfolding flat_of_two
  found_flat_two g h m e = flat_normal z hs (g ∷ h ∷ []) (minors_of_two g h) us m (two_by-of z (is_zero g.a) (is_zero g.b) g h) refl e

  -- a find of three
  found_flat_three : (f g h : HalfSpace) → Among (f ∷ g ∷ h ∷ []) hs → flat_of_three z f g h ≡ Some us → FlatPassed z hs us
  unfolding flat_of_three
  found_flat_three f g h m e = flat_normal z hs (f ∷ g ∷ h ∷ []) (minors_on_axes f g h (λ k. k.a) (λ k. k.b)) us m refl refl e

-- what the search finds
pub found_flat : (z : ℤ) (cell : List HalfSpace) (us : List Multiple) → first_flat z cell ≡ Some us → FlatPassed z (with_sides cell) us
unfolding first_flat
found_flat z cell us e =
    let hs = with_sides cell in
    ⊎_elim
    (λ s. let r = found_one (flat_of_one z) hs us s in found_flat_one z hs us r.0 r.1 r.2)
    (λ l. ⊎_elim
    (λ s. let r = found_two (flat_of_two z) hs us s in found_flat_two z hs us r.0 r.1 r.2 r.3)
    (λ s. let r = found_three (flat_of_three z) hs us s.1 in found_flat_three z hs us r.0 r.1 r.2 r.3 r.4)
    (or_else_found (first_of_pairs (flat_of_two z) hs) (first_of_triples (flat_of_three z) hs) us l.1))
    (or_else_found (first_of (flat_of_one z) hs) (or_else (first_of_pairs (flat_of_two z) hs) (first_of_triples (flat_of_three z) hs)) us e)

-- small factors on the plane are small
small_factors : (z : ℤ) (ts : List Multiple) → AreFactorsSmall (planar z ts) → AreFactorsSmall ts
small_factors z [] h = tt
small_factors z (t ∷ ts) h = (h.0, small_factors z ts h.1)

-- the search on the plane finds the same
pub planar_found : (z : ℤ) (cell : List HalfSpace) (o : Option (List Multiple)) → first_flat z cell ≡ o → first_refutation true (planes z (with_sides cell)) ≡ planar_of z o
planar_found z cell o e = search_is z cell ∙ ap (planar_of z) e

-- so what the search finds is a flat certificate
pub found_is_flat : (z : ℤ) (cell : List HalfSpace) → AreHalfSpaces cell → (us : List Multiple) → first_flat z cell ≡ Some us → is_flat z cell us ≡ true
found_is_flat z cell k us e =
    let p = found_flat z cell us e in
    let s = small_factors z us (passed true (planes z (with_sides cell)) (small_planes z cell k) (planar z us) (planar_found z cell (Some us) e)).small in
    and_true _ (is_level_kind z us || is_trace_kind z us)
    (and_true _ (is_zero (weighted_sum (λ h. h.a) us) && is_zero (weighted_sum (λ h. h.b) us))
    (and_true (is_one_to_three (length us)) _ p.many (terms-from (with_sides cell) us p.refutes.positive s (listed-from p.among)))
    (and_true _ _ (is_zero_true _ p.refutes.a) (is_zero_true _ p.refutes.b)))
    (⊎_elim (λ k. or_left (is_level_kind z us) (is_trace_kind z us) k) (λ k. or_right (is_level_kind z us) (is_trace_kind z us) k) p.refutes.kind)

-- ---- what is not missed

-- a half-space of the list on the plane
plane_listed : (z : ℤ) (hs : List HalfSpace) (h : HalfSpace) → Listed h hs → Listed (plane z h) (planes z hs)
plane_listed z [] h l = elim l [ ]
plane_listed z (g ∷ hs) h first = first
plane_listed z (g ∷ hs) h (later l) = later (plane_listed z hs h l)

-- a point of the height
abbrev raised : ℤ → RationalPoint → RationalPoint
raised z q = point_of q.x q.y (z *ℤ (great *ℤ q.w)) (great *ℤ q.w)

-- the value of an upright half-space does not depend on z
upright_side : (a b d x y u v w : ℤ) → a *ℤ x +ℤ b *ℤ y +ℤ pos 0 *ℤ u +ℤ d *ℤ w ≡ a *ℤ x +ℤ b *ℤ y +ℤ d *ℤ w
upright_side a b d x y u v w = by_ring_at (a ∷ b ∷ d ∷ x ∷ y ∷ u ∷ w ∷ []) (search reify depth 40 fits 100000) tt

-- a factor above 0 of a number above 0
factor_above : (g v u : ℤ) → pos 0 <ℤ g → u ≡ g *ℤ v → pos 0 <ℤ u → pos 0 <ℤ v
factor_above g v u hg e h =
    let n : pos 0 ≤ℤ g = omega (arith, linear, hg) in
    let k : pos 0 <ℤ (g *ℤ v) = subst (λ (x : ℤ). pos 0 <ℤ x) e h in
    lt_by_multiple (g ∷ v ∷ []) {k = g} n k (search reify depth 40 fits 100000) tt

module _ (z : ℤ) (cell : List HalfSpace) (q : Point strict_offset (planes z (with_sides cell))) where
  -- at the point, a half-space on the plane is above 0
  plane_above : (h : HalfSpace) → Listed h (with_sides cell) → pos 0 <ℤ side_value (plane z h) (point_of q.at.x q.at.y q.at.z (great *ℤ q.at.w))
  plane_above h l = strict_side (plane z h) q.at q.weight (all_of (λ k. pos 0 ≤ℤ offset_side strict_offset q.at k) (planes z (with_sides cell)) q.all (plane z h) (plane_listed z (with_sides cell) h l))

  -- so the traces are
  trace_above : (t : Trace) → Listed t (traces z (with_sides cell)) → pos 0 <ℤ trace_value t (raised z q.at)
  trace_above t l =
      let c = trace_in z (with_sides cell) t l in
      factor_above c.is.factor (trace_value t (raised z q.at)) (side_value (plane z c.of) (point_of q.at.x q.at.y q.at.z (great *ℤ q.at.w))) c.is.positive
      ((λ i. side_value (plane_is z c.of c.has i) (point_of q.at.x q.at.y q.at.z (great *ℤ q.at.w)))
      ∙ upright_side c.of.a c.of.b (offset_at z c.of) q.at.x q.at.y q.at.z q.at.z (great *ℤ q.at.w)
      ∙ (λ i. sym c.is.a i *ℤ q.at.x +ℤ sym c.is.b i *ℤ q.at.y +ℤ sym c.is.d i *ℤ (great *ℤ q.at.w))
      ∙ value_of_factor c.is.factor t.a t.b t.d q.at.x q.at.y (great *ℤ q.at.w))
      (plane_above c.of c.listed)

  -- and the half-spaces without a trace hold the height
  pub levels_from : LevelsHold z (with_sides cell)
  levels_from h l e = by_test (holds_level z h) refl (subst (λ (b : Bool). pos 0 <ℤ side_value (plane_by b (holds_level z h) z h) (point_of q.at.x q.at.y q.at.z (great *ℤ q.at.w))) e (plane_above h l))
    where
      below : (x y u w : ℤ) → pos 0 <ℤ w → pos 0 <ℤ (pos 0 *ℤ x +ℤ pos 0 *ℤ y +ℤ pos 0 *ℤ u +ℤ negsuc 0 *ℤ w) → ⊥
      below x y u w hw n =
          let m : pos 0 *ℤ x +ℤ pos 0 *ℤ y +ℤ pos 0 *ℤ u +ℤ negsuc 0 *ℤ w ≡ neg_ℤ w = by_ring_at (x ∷ y ∷ u ∷ w ∷ []) (search reify depth 40 fits 100000) tt in
          omega (arith, linear, m, n, hw)

      by_test : (b : Bool) → holds_level z h ≡ b → pos 0 <ℤ side_value (plane_by false b z h) (point_of q.at.x q.at.y q.at.z (great *ℤ q.at.w)) → b ≡ true
      by_test true f n = refl
      by_test false f n = absurd (below q.at.x q.at.y q.at.z (great *ℤ q.at.w) (greater q.at.w q.weight) n)

  -- so all traces are above 0 at the raised point
  pub within_from : IsWithinAll z (traces z (with_sides cell)) (raised z q.at)
  within_from = record { point = greater q.at.w q.weight; height = refl; above = trace_above }

-- a point at which all traces are above 0, where the half-spaces without a trace hold the height
pub record IsOpen (z : ℤ) (cell : List HalfSpace) : Type 0 where
  pub at : RationalPoint
  pub within : IsWithinAll z (traces z (with_sides cell)) at
  pub levels : LevelsHold z (with_sides cell)

-- where the search finds none there is such a point
pub none_is_open : (z : ℤ) (cell : List HalfSpace) → AreHalfSpaces cell → first_flat z cell ≡ None → IsOpen z cell
none_is_open z cell k e =
    let gs = planes z (with_sides cell) in
    ⊎_elim
    (λ q. record { at = raised z q.at; within = within_from z cell q; levels = levels_from z cell q })
    (λ r. absurd (not_missed true gs r.of.terms (missed true gs (planar_found z cell None e)) r.candidate r.of.among (refuting true gs r)))
    (point_or_refutation strict_offset gs (small_planes z cell k))

-- ---- the laws
module _ (z : ℤ) (cell : List HalfSpace) (hz : IsHeight z) (k : AreHalfSpaces cell) where
  -- an open cell has a member
  open_has : IsOpen z cell → HasMemberAt z cell
  open_has o = (o.at, within_is_member z cell o.at hz o.within o.levels)

  -- a member or a certificate, by what the search finds
  member_or : (o : Option (List Multiple)) → first_flat z cell ≡ o → HasMemberAt z cell ⊎ ((terms : List Multiple) × IsTrue (is_flat z cell terms))
  member_or (Some us) e = inr (us, found_is_flat z cell k us e)
  member_or None e = inl (open_has (none_is_open z cell k e))

  -- where the search finds one there is no member
  some_none : (o : Option (List Multiple)) → first_flat z cell ≡ o → IsSome o → ¬ HasMemberAt z cell
  some_none (Some us) e s m = never_flat z cell m.0 us m.1 (found_is_flat z cell k us e)
  some_none None e s m = absurd (false_not_true false s refl)

  -- where there is no member it finds one
  none_some : (o : Option (List Multiple)) → first_flat z cell ≡ o → (¬ HasMemberAt z cell) → IsSome o
  none_some (Some us) e n = refl
  none_some None e n = absurd (n (open_has (none_is_open z cell k e)))

  -- where it finds none there is a member
  none_has : (o : Option (List Multiple)) → first_flat z cell ≡ o → IsNone o → HasMemberAt z cell
  none_has (Some us) e s = absurd (false_not_true true refl s)
  none_has None e s = open_has (none_is_open z cell k e)

  -- where there is a member it finds none
  has_none : (o : Option (List Multiple)) → first_flat z cell ≡ o → HasMemberAt z cell → IsNone o
  has_none (Some us) e m = absurd (never_flat z cell m.0 us m.1 (found_is_flat z cell k us e))
  has_none None e m = refl

  -- a cell with a member is open
  pub member_is_open : HasMemberAt z cell → IsOpen z cell
  member_is_open m = by_found (first_flat z cell) refl
    where
      by_found : (o : Option (List Multiple)) → first_flat z cell ≡ o → IsOpen z cell
      by_found (Some us) e = absurd (never_flat z cell m.0 us m.1 (found_is_flat z cell k us e))
      by_found None e = none_is_open z cell k e

  -- all of it, of one cell
  pub finds_flat : FindsFlat z cell
  finds_flat = record {
    passes = if_some (λ us. IsTrue (is_flat z cell us)) (first_flat z cell) (found_is_flat z cell k);
    some = (some_none (first_flat z cell) refl, none_some (first_flat z cell) refl);
    none = (none_has (first_flat z cell) refl, has_none (first_flat z cell) refl);
  }

-- the law
pub member_or_flat_spec : MemberOrFlat
member_or_flat_spec z cell hz k = (member_or z cell hz k (first_flat z cell) refl, λ m c. never_flat z cell m.0 c.0 m.1 c.1)

-- the law
pub flat_is_found_spec : FlatIsFound
flat_is_found_spec z cell hz k = finds_flat z cell hz k
