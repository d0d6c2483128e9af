-- Points of rational coordinates: when two are the same, points of a segment, and points that are close by.
use Rattle.std.proofs.Common.{◌≡◌, true, refl, ℤ, ◌+ℤ◌, ◌*ℤ◌, [], ◌∷◌, ◌-ℤ◌, pos, ◌≤ℤ◌, ◌<ℤ◌, arith, ℕ, ◌*◌, ◌≤◌, nat_abs, sym, subst, ◌+◌, negsuc}
use Rattle.std.proofs.lemmas.Bool.Decides.{Decides-int_eq}
use Rattle.std.proofs.lemmas.Int.{ints}
use Rattle.rp_algebra.specs.Integer.{int_eq}
use Rattle.rp_algebra.proofs.Tests.{and_first, and_second, and_true}
use Rattle.rp_algebra.proofs.Reify.{by_ring_at, reify, le_by_ring}
use Rattle.rp_algebra.proofs.IntLaws.{linear, signs, nat_nonneg_ℤ}
use Rattle.rp_geometry.specs.Geometry.{RationalPoint, point_eq, point_of, HalfSpace, side_value}
use Rattle.rp_geometry.specs.sets.Contact.{IsCloseBy}

-- points with the same numbers are one
pub point_eq-to : (p q : RationalPoint) → point_eq p q ≡ true → p ≡ q
point_eq-to p q e =
    let yzw = and_second (int_eq p.x q.x) _ e in
    let zw = and_second (int_eq p.y q.y) _ yzw in
    let ex = (Decides-int_eq p.x q.x).0 (and_first (int_eq p.x q.x) _ e) in
    let ey = (Decides-int_eq p.y q.y).0 (and_first (int_eq p.y q.y) _ yzw) in
    let ez = (Decides-int_eq p.z q.z).0 (and_first (int_eq p.z q.z) _ zw) in
    let ew = (Decides-int_eq p.w q.w).0 (and_second (int_eq p.z q.z) _ zw) in
    λ i. record { x = ex i; y = ey i; z = ez i; w = ew i }

-- a point has its own numbers
pub point_eq-same : (p : RationalPoint) → point_eq p p ≡ true
point_eq-same p =
    and_true _ _ ((Decides-int_eq p.x p.x).1 refl)
    (and_true _ _ ((Decides-int_eq p.y p.y).1 refl) (and_true _ _ ((Decides-int_eq p.z p.z).1 refl) ((Decides-int_eq p.w p.w).1 refl)))

-- the point of the segment from p to q whose weights are v and u
abbrev pub mixed : ℤ → ℤ → RationalPoint → RationalPoint → RationalPoint
mixed v u p q = point_of (v *ℤ p.x +ℤ u *ℤ q.x) (v *ℤ p.y +ℤ u *ℤ q.y) (v *ℤ p.z +ℤ u *ℤ q.z) (v *ℤ p.w +ℤ u *ℤ q.w)

-- the value of a half-space there
pub side_mixed : (h : HalfSpace) (v u : ℤ) (p q : RationalPoint) → side_value h (mixed v u p q) ≡ v *ℤ side_value h p +ℤ u *ℤ side_value h q
side_mixed h v u p q = by_ring_at (h.a ∷ h.b ∷ h.c ∷ h.d ∷ p.x ∷ p.y ∷ p.z ∷ p.w ∷ q.x ∷ q.y ∷ q.z ∷ q.w ∷ u ∷ v ∷ []) (search reify depth 40 fits 100000) tt

-- the difference of the coordinates x/w and s/v, times both weights
abbrev pub apart : ℤ → ℤ → ℤ → ℤ → ℤ
apart x w s v = x *ℤ v -ℤ s *ℤ w

-- a difference of coordinates at most k is at most the product of the weights, where the second weight has k times the first in it
close_enough : (t k w s : ℤ) → t ≤ℤ k → pos 0 ≤ℤ k → pos 0 <ℤ w → pos 0 <ℤ s → t ≤ℤ (w *ℤ (s +ℤ k *ℤ w))
close_enough t k w s h hk hw hs =
    let d : pos 0 ≤ℤ (k -ℤ t) = omega (arith, linear) in
    let e : pos 0 ≤ℤ (w -ℤ pos 1) = omega (arith, ints) in
    let c : pos 0 ≤ℤ (w *ℤ s +ℤ (k -ℤ t) +ℤ k *ℤ ((w -ℤ pos 1) *ℤ (w +ℤ pos 1))) = search signs depth 12 fits 5000 in
    le_by_ring (t ∷ k ∷ w ∷ s ∷ []) c (search reify depth 40 fits 100000) tt

-- the difference to the point on the way is the difference to its start
apart_near : (x w s v k : ℤ) → apart x w (s +ℤ k *ℤ x) (v +ℤ k *ℤ w) ≡ apart x w s v
apart_near x w s v k = by_ring_at (x ∷ w ∷ s ∷ v ∷ k ∷ []) (search reify depth 40 fits 100000) tt

-- the coordinate of the point near p is close by, where k is large
pub near_close : (n k : ℕ) (x w s v : ℤ) → n * nat_abs (apart x w s v) ≤ k → pos 0 <ℤ w → pos 0 <ℤ v → IsCloseBy n x w (s +ℤ pos k *ℤ x) (v +ℤ pos k *ℤ w)
near_close n k x w s v h hw hv =
    subst (λ (t : ℤ). (pos n *ℤ pos (nat_abs t)) ≤ℤ (w *ℤ (v +ℤ pos k *ℤ w))) (sym (apart_near x w s v (pos k)))
    (close_enough (pos (n * nat_abs (apart x w s v))) (pos k) w v (naturals (n * nat_abs (apart x w s v)) k h) (nat_nonneg_ℤ k) hw hv)
  where
    naturals : (m k : ℕ) → m ≤ k → pos m ≤ℤ pos k
    naturals m k h = omega (arith, ints)

-- how close a member has to be: a natural number, by how many differences are added up and by their factor
pub record Closeness (n m : ℕ) (w : ℤ) : Type 0 where
  pub number : ℕ
  pub is : pos number ≡ pos 1 +ℤ pos n *ℤ pos m *ℤ w
  pub positive : 1 ≤ number

-- such a number for each positive weight
pub closeness : (n m : ℕ) (w : ℤ) → pos 0 <ℤ w → Closeness n m w
closeness n m (pos w) h = record { number = 1 + n * m * w; is = refl; positive = omega arith }
closeness n m (negsuc w) h = absurd (omega (arith, ints))
