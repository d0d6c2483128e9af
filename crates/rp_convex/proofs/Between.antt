-- The point at which the segment between two points crosses a plane.
use Rattle.std.proofs.Common.{◌≡◌, ℤ, pos, neg_ℤ, ◌+ℤ◌, ◌*ℤ◌, ◌≤ℤ◌, ◌<ℤ◌, ⊎_elim, List, [], ◌∷◌, sym, ◌∙◌, subst, arith}
use Rattle.std.specs.Prelude.{Some}
use Rattle.std.proofs.lemmas.Int.{ints}
use Rattle.rp_algebra.proofs.IntLaws.{signs, le_or_lt_ℤ}
use Rattle.rp_algebra.proofs.Listed.{Listed}
use Rattle.rp_algebra.proofs.Numbers.{above_not_zero, opposite_multiples}
use Rattle.rp_algebra.proofs.Options.{same_some}
use Rattle.rp_algebra.proofs.Reify.{by_ring_at, reify}
use Rattle.rp_geometry.specs.Geometry.{RationalPoint, HalfSpace, IsPoint, SamePlace, point_of, side_value}
use Rattle.rp_geometry.specs.searches.Vertex.{meeting_point}
use Rattle.rp_convex.proofs.Meeting.{meets}
use Rattle.rp_convex.proofs.Move.{IsWeak}
use Rattle.rp_convex.proofs.Corners.{meeting_is}

-- the point between p and q at which a half-space is 0 whose value is s at p and t at q
abbrev pub between : ℤ → ℤ → RationalPoint → RationalPoint → RationalPoint
between s t p q = point_of (neg_ℤ t *ℤ p.x +ℤ s *ℤ q.x) (neg_ℤ t *ℤ p.y +ℤ s *ℤ q.y) (neg_ℤ t *ℤ p.z +ℤ s *ℤ q.z) (neg_ℤ t *ℤ p.w +ℤ s *ℤ q.w)

-- the value of a half-space there, over plain numbers
side_between_of : (a b c d x y z w l m n r s t : ℤ) →
    a *ℤ (neg_ℤ t *ℤ x +ℤ s *ℤ l) +ℤ b *ℤ (neg_ℤ t *ℤ y +ℤ s *ℤ m) +ℤ c *ℤ (neg_ℤ t *ℤ z +ℤ s *ℤ n) +ℤ d *ℤ (neg_ℤ t *ℤ w +ℤ s *ℤ r)
    ≡ neg_ℤ t *ℤ (a *ℤ x +ℤ b *ℤ y +ℤ c *ℤ z +ℤ d *ℤ w) +ℤ s *ℤ (a *ℤ l +ℤ b *ℤ m +ℤ c *ℤ n +ℤ d *ℤ r)
side_between_of a b c d x y z w l m n r s t = by_ring_at (a ∷ b ∷ c ∷ d ∷ x ∷ y ∷ z ∷ w ∷ l ∷ m ∷ n ∷ r ∷ s ∷ t ∷ []) (search reify depth 40 fits 100000) tt

-- the value of a half-space there
pub side_between : (k : HalfSpace) (s t : ℤ) (p q : RationalPoint) → side_value k (between s t p q) ≡ neg_ℤ t *ℤ side_value k p +ℤ s *ℤ side_value k q
side_between k s t p q = side_between_of k.a k.b k.c k.d p.x p.y p.z p.w q.x q.y q.z q.w s t

-- a sum of two multiples by numbers above 0 of numbers above 0
above_zero : (s t u v : ℤ) → pos 0 <ℤ s → t <ℤ pos 0 → pos 0 <ℤ u → pos 0 <ℤ v → pos 0 <ℤ (neg_ℤ t *ℤ u +ℤ s *ℤ v)
above_zero s t u v hs ht hu hv =
    let n : pos 0 <ℤ neg_ℤ t = omega (arith, ints) in
    search signs

-- the same of numbers that are not negative
not_below : (s t u v : ℤ) → pos 0 <ℤ s → t <ℤ pos 0 → pos 0 ≤ℤ u → pos 0 ≤ℤ v → pos 0 ≤ℤ (neg_ℤ t *ℤ u +ℤ s *ℤ v)
not_below s t u v hs ht hu hv =
    let n : pos 0 <ℤ neg_ℤ t = omega (arith, ints) in
    search signs

-- a half-space that is 0 at both is 0 there
none_between : (s t u v : ℤ) → u ≡ pos 0 → v ≡ pos 0 → neg_ℤ t *ℤ u +ℤ s *ℤ v ≡ pos 0
none_between s t u v eu ev = rw (eu, ev) (by_ring_at (s ∷ t ∷ []) (search reify depth 40 fits 100000) tt)

-- two numbers that are not negative, of which the sum of multiples is 0, are 0: the first
first_zero : (s t u v : ℤ) → pos 0 <ℤ s → t <ℤ pos 0 → pos 0 ≤ℤ u → pos 0 ≤ℤ v → neg_ℤ t *ℤ u +ℤ s *ℤ v ≡ pos 0 → u ≡ pos 0
first_zero s t u v hs ht hu hv e =
    ⊎_elim
    (λ (l : u ≤ℤ pos 0). omega (arith, ints))
    (λ (g : pos 0 <ℤ u).
    let n : pos 0 <ℤ neg_ℤ t = omega (arith, ints) in
    let m : pos 0 <ℤ (neg_ℤ t *ℤ u +ℤ s *ℤ v) = search signs in
    absurd (above_not_zero (neg_ℤ t *ℤ u +ℤ s *ℤ v) m e))
    (le_or_lt_ℤ u (pos 0))

-- and the second
second_zero : (s t u v : ℤ) → pos 0 <ℤ s → t <ℤ pos 0 → pos 0 ≤ℤ u → pos 0 ≤ℤ v → neg_ℤ t *ℤ u +ℤ s *ℤ v ≡ pos 0 → v ≡ pos 0
second_zero s t u v hs ht hu hv e =
    ⊎_elim
    (λ (l : v ≤ℤ pos 0). omega (arith, ints))
    (λ (g : pos 0 <ℤ v).
    let n : pos 0 <ℤ neg_ℤ t = omega (arith, ints) in
    let m : pos 0 <ℤ (neg_ℤ t *ℤ u +ℤ s *ℤ v) = search signs in
    absurd (above_not_zero (neg_ℤ t *ℤ u +ℤ s *ℤ v) m e))
    (le_or_lt_ℤ v (pos 0))

-- ---- a segment that crosses a plane

-- two points of a weak system, of which a half-space is positive at the one and negative at the other
pub record AreApart (hs : List HalfSpace) (h : HalfSpace) (p q : RationalPoint) : Type 0 where
  pub first : IsWeak hs p
  pub second : IsWeak hs q
  pub positive : pos 0 <ℤ side_value h p
  pub negative : side_value h q <ℤ pos 0

-- where the segment crosses the plane
abbrev pub crossing : HalfSpace → RationalPoint → RationalPoint → RationalPoint
crossing h p q = between (side_value h p) (side_value h q) p q

-- it is a point of the weak system
pub crossing_weak : (hs : List HalfSpace) (h : HalfSpace) (p q : RationalPoint) → AreApart hs h p q → IsWeak hs (crossing h p q)
crossing_weak hs h p q k = record {
  point = above_zero (side_value h p) (side_value h q) p.w q.w k.positive k.negative k.first.point k.second.point;
  sides = λ g l. subst (λ (v : ℤ). pos 0 ≤ℤ v) (sym (side_between g (side_value h p) (side_value h q) p q))
      (not_below (side_value h p) (side_value h q) (side_value g p) (side_value g q) k.positive k.negative (k.first.sides g l) (k.second.sides g l));
}

-- the half-space is 0 there
pub crossing_on : (h : HalfSpace) (p q : RationalPoint) → side_value h (crossing h p q) ≡ pos 0
crossing_on h p q = side_between h (side_value h p) (side_value h q) p q ∙ opposite_multiples (side_value h p) (side_value h q)

-- a plane through both points passes through it
pub crossing_through : (h k : HalfSpace) (p q : RationalPoint) → side_value k p ≡ pos 0 → side_value k q ≡ pos 0 → side_value k (crossing h p q) ≡ pos 0
crossing_through h k p q ep eq = side_between k (side_value h p) (side_value h q) p q ∙ none_between (side_value h p) (side_value h q) (side_value k p) (side_value k q) ep eq

-- a plane of the list through it passes through the first point
pub crossing_first : (hs : List HalfSpace) (h k : HalfSpace) (p q : RationalPoint) → AreApart hs h p q → Listed k hs → side_value k (crossing h p q) ≡ pos 0 → side_value k p ≡ pos 0
crossing_first hs h k p q a l e =
    first_zero (side_value h p) (side_value h q) (side_value k p) (side_value k q) a.positive a.negative (a.first.sides k l) (a.second.sides k l) (sym (side_between k (side_value h p) (side_value h q) p q) ∙ e)

-- and through the second
pub crossing_second : (hs : List HalfSpace) (h k : HalfSpace) (p q : RationalPoint) → AreApart hs h p q → Listed k hs → side_value k (crossing h p q) ≡ pos 0 → side_value k q ≡ pos 0
crossing_second hs h k p q a l e =
    second_zero (side_value h p) (side_value h q) (side_value k p) (side_value k q) a.positive a.negative (a.first.sides k l) (a.second.sides k l) (sym (side_between k (side_value h p) (side_value h q) p q) ∙ e)

-- two planes through both points, and the half-space's, meet there, if they meet in one point
pub meeting_at_crossing : (h f g : HalfSpace) (p q v : RationalPoint) → IsPoint (crossing h p q) → side_value f p ≡ pos 0 → side_value f q ≡ pos 0 → side_value g p ≡ pos 0 → side_value g q ≡ pos 0
    → meeting_point f g h ≡ Some v → SamePlace (crossing h p q) v
meeting_at_crossing h f g p q v w fp fq gp gq e =
    let k = meeting_is f g h v e in
    let m = meets f g h k.tight.independent in
    let same : m.at ≡ v = same_some m.at v (sym m.is ∙ e) in
    subst (λ (u : RationalPoint). SamePlace (crossing h p q) u) same
    (m.only.1 (crossing h p q) (record { point = w; on_first = crossing_through h f p q fp fq; on_second = crossing_through h g p q gp gq; on_third = crossing_on h p q }))
