-- From a point of a weak system along the line of two of its planes, to where a third plane stops it.
use Rattle.std.proofs.Common.{◌≡◌, ℤ, pos, neg_ℤ, ◌*ℤ◌, ◌≤ℤ◌, ◌<ℤ◌, ◌⊎◌, inl, inr, ⊎_elim, List, [], ◌∷◌, sym, ◌∙◌, subst, arith}
use Rattle.std.proofs.lemmas.Int.{ints}
use Rattle.rp_algebra.proofs.IntLaws.{linear, signs, le_or_lt_ℤ}
use Rattle.rp_algebra.proofs.Listed.{Listed}
use Rattle.rp_algebra.proofs.Numbers.{not_both, below_not_zero, zero_over, positive_over, negative_over, zero_between}
use Rattle.rp_algebra.proofs.Reify.{by_ring_at, reify}
use Rattle.rp_geometry.specs.Geometry.{RationalPoint, HalfSpace, side_value, reduced_point}
use Rattle.rp_geometry.specs.searches.Vertex.{meeting_weight}
use Rattle.rp_convex.proofs.Ratio.{ComesFirst, comes_first, left_at}
use Rattle.rp_convex.proofs.Move.{Direction, along, IsMoving, IsWeak, gone, side_gone, weight_gone, own_left, none_left}
use Rattle.rp_convex.proofs.Corner.{IsBounded, cube_falls}
use Rattle.rp_convex.proofs.Lowest.{reduced_is}
use Rattle.rp_convex.proofs.Places.{same_side, nonnegative_same}
use Rattle.rp_convex.proofs.Reduced.{same_reduced}
use Rattle.rp_convex.proofs.Corners.{IsCornerOf, IsLowest, reduced_lowest}

-- the corner at which the way along a direction ends, where it leaves the point
pub record EndsAt (hs : List HalfSpace) (f g : HalfSpace) (p : RationalPoint) (d : Direction) : Type 0 where
  pub at : RationalPoint
  pub corner : IsCornerOf hs at
  pub first : side_value f at ≡ pos 0
  pub second : side_value g at ≡ pos 0
  pub rises : (h : HalfSpace) → side_value h p ≡ pos 0 → pos 0 <ℤ along h d → pos 0 <ℤ side_value h at
  pub falls : (h : HalfSpace) → side_value h p ≡ pos 0 → along h d <ℤ pos 0 → side_value h at <ℤ pos 0

-- from 0 the value is a multiple of the change
from_zero : (u c v e : ℤ) → v ≡ pos 0 → left_at u c v e ≡ u *ℤ e
from_zero u c v e hv = rw hv (by_ring_at (u ∷ c ∷ e ∷ []) (search reify depth 40 fits 100000) tt)

-- from 0 a value that rises is above 0
rises_left : (u c v e : ℤ) → pos 0 <ℤ u → v ≡ pos 0 → pos 0 <ℤ e → pos 0 <ℤ left_at u c v e
rises_left u c v e hu hv he =
    let m : pos 0 <ℤ (u *ℤ e) = search signs in
    subst (λ (k : ℤ). pos 0 <ℤ k) (sym (from_zero u c v e hv)) m

-- a product of a number above 0 and one below 0
product_below : (u e : ℤ) → pos 0 <ℤ u → e <ℤ pos 0 → (u *ℤ e) <ℤ pos 0
product_below u e hu he =
    let n : pos 0 <ℤ neg_ℤ e = omega (arith, ints) in
    let m : pos 0 <ℤ (u *ℤ neg_ℤ e) = search signs in
    let x : u *ℤ neg_ℤ e ≡ neg_ℤ (u *ℤ e) = by_ring_at (u ∷ e ∷ []) (search reify depth 40 fits 100000) tt in
    omega (arith, linear, m, x)

-- from 0 a value that falls is below 0
falls_left : (u c v e : ℤ) → pos 0 <ℤ u → v ≡ pos 0 → e <ℤ pos 0 → left_at u c v e <ℤ pos 0
falls_left u c v e hu hv he = subst (λ (k : ℤ). k <ℤ pos 0) (sym (from_zero u c v e hv)) (product_below u e hu he)

-- two planes of the list through a point of its weak system, and a direction along both, which no third plane is along that meets them in a point
pub record IsWay (hs : List HalfSpace) (f g : HalfSpace) (p : RationalPoint) (d : Direction) : Type 0 where
  pub bounded : IsBounded hs
  pub weak : IsWeak hs p
  pub lowest : IsLowest p
  pub first_listed : Listed f hs
  pub second_listed : Listed g hs
  pub on_first : side_value f p ≡ pos 0
  pub on_second : side_value g p ≡ pos 0
  pub moving : IsMoving d
  pub along_first : along f d ≡ pos 0
  pub along_second : along g d ≡ pos 0
  pub crosses : (k : HalfSpace) → (along k d ≡ pos 0 → ⊥) → meeting_weight f g k ≡ pos 0 → ⊥

-- the point is a corner itself, or the way ends at a corner
pub ends : (hs : List HalfSpace) (f g : HalfSpace) (p : RationalPoint) (d : Direction) → IsWay hs f g p d → IsCornerOf hs p ⊎ EndsAt hs f g p d
ends hs f g p d way =
    let fall = cube_falls d way.moving in
    ⊎_elim
    (λ (none : (x : HalfSpace) → Listed x hs → pos 0 ≤ℤ along x d). absurd (not_both (along fall.plane d) fall.falls (none fall.plane (way.bounded fall.plane fall.listed))))
    (λ (c : ComesFirst (λ h. side_value h p) (λ h. along h d) hs). reached c)
    (comes_first (λ h. side_value h p) (λ h. along h d) hs way.weak.sides)
  where
    stopped : (c : ComesFirst (λ h. side_value h p) (λ h. along h d) hs) → side_value c.item p ≡ pos 0 → IsCornerOf hs p
    stopped c e = record {
      weak = way.weak;
      lowest = way.lowest;
      one = f;
      two = g;
      three = c.item;
      one_listed = way.first_listed;
      two_listed = way.second_listed;
      three_listed = c.listed;
      tight = record { independent = way.crosses c.item (below_not_zero (along c.item d) c.falls); first = way.on_first; second = way.on_second; third = e };
    }

    gone_weak : (c : ComesFirst (λ h. side_value h p) (λ h. along h d) hs) → IsWeak hs (gone (side_value c.item p) (along c.item d) p d)
    gone_weak c = record {
      point = weight_gone (along c.item d) p.w c.falls way.weak.point;
      sides = λ h l. subst (λ (v : ℤ). pos 0 ≤ℤ v) (sym (side_gone h p d (side_value c.item p) (along c.item d))) (c.stays h l);
    }

    left : (c : ComesFirst (λ h. side_value h p) (λ h. along h d) hs) → pos 0 <ℤ side_value c.item p → EndsAt hs f g p d
    left c up =
        let k = c.item in
        let u = side_value k p in
        let e = along k d in
        let q = gone u e p d in
        let weak = gone_weak c in
        let at = reduced_point q in
        let point = (reduced_is q weak.point).point in
        let same = same_reduced q weak.point in
        let first = zero_over (side_value f q) (side_value f at) q.w at.w weak.point (same_side f q at same) (side_gone f p d u e ∙ none_left u e (side_value f p) (along f d) way.on_first way.along_first) in
        let second = zero_over (side_value g q) (side_value g at) q.w at.w weak.point (same_side g q at same) (side_gone g p d u e ∙ none_left u e (side_value g p) (along g d) way.on_second way.along_second) in
        let third = zero_over (side_value k q) (side_value k at) q.w at.w weak.point (same_side k q at same) (side_gone k p d u e ∙ own_left u e) in
        record {
          at = at;
          corner = record {
            weak = record { point = point; sides = λ h l. nonnegative_same h q at same weak.point point (weak.sides h l) };
            lowest = reduced_lowest q weak.point;
            one = f;
            two = g;
            three = k;
            one_listed = way.first_listed;
            two_listed = way.second_listed;
            three_listed = c.listed;
            tight = record { independent = way.crosses k (below_not_zero e c.falls); first = first; second = second; third = third };
          };
          first = first;
          second = second;
          rises = λ h z r. positive_over (side_value h q) (side_value h at) q.w at.w weak.point point (same_side h q at same)
              (subst (λ (v : ℤ). pos 0 <ℤ v) (sym (side_gone h p d u e)) (rises_left u e (side_value h p) (along h d) up z r));
          falls = λ h z r. negative_over (side_value h q) (side_value h at) q.w at.w weak.point point (same_side h q at same)
              (subst (λ (v : ℤ). v <ℤ pos 0) (sym (side_gone h p d u e)) (falls_left u e (side_value h p) (along h d) up z r));
        }

    reached : ComesFirst (λ h. side_value h p) (λ h. along h d) hs → IsCornerOf hs p ⊎ EndsAt hs f g p d
    reached c =
        ⊎_elim
        (λ (l : side_value c.item p ≤ℤ pos 0). inl (stopped c (zero_between (side_value c.item p) l (way.weak.sides c.item c.listed))))
        (λ (u : pos 0 <ℤ side_value c.item p). inr (left c u))
        (le_or_lt_ℤ (side_value c.item p) (pos 0))
