-- The part of a line between two points, where half-spaces cut it.
use Rattle.std.proofs.Common.{◌≡◌, ℤ, pos, neg_ℤ, ◌+ℤ◌, ◌-ℤ◌, ◌*ℤ◌, ◌≤ℤ◌, ◌<ℤ◌, ⊎_elim, List, [], ◌∷◌, sym, ◌∙◌, subst, arith}
use Rattle.std.specs.List.{Contains}
use Rattle.std.proofs.lemmas.Int.{ints}
use Rattle.rp_algebra.proofs.IntLaws.{linear, signs, le_or_lt_ℤ, pos_of_mul_pos_ℤ, mul_eq_zero_ℤ}
use Rattle.rp_algebra.proofs.Numbers.{above_not_zero, nonneg_of_zero, nonneg_over, not_both, zero_over, opposite_multiples, less_exchanged}
use Rattle.rp_algebra.proofs.Reify.{by_ring_at, eq_by_ring, le_by_ring, le_by_multiple, lt_by_ring, zeros, reify}
use Rattle.rp_geometry.specs.Geometry.{RationalPoint, HalfSpace, IsPoint, SamePlace, complement, half_space_of, side_value, reduced_point}
use Rattle.rp_geometry.specs.searches.Vertex.{meeting_weight}
use Rattle.rp_geometry.proofs.Points.{mixed, side_mixed}
use Rattle.rp_convex.proofs.Lowest.{reduced_is}
use Rattle.rp_convex.proofs.Meeting.{meets}
use Rattle.rp_convex.proofs.Places.{same_side, nonnegative_same}
use Rattle.rp_convex.proofs.Reduced.{same_reduced}
use Rattle.rp_convex.proofs.Between.{crossing, meeting_at_crossing, side_between}
use Rattle.rp_convex.proofs.Corners.{meeting_is}
use Rattle.rp_space.specs.TwoHalfSpaces.{TwoHalfSpaces}
use Rattle.rp_vertex.specs.Line.{IsBetween, IsLeft, IsNothingLeft, IsSpan, MeetAt}
use Rattle.rp_vertex.specs.declared.line.Span.{Span}

-- ---- a sign at both ends

-- a multiple of a half-space, less the weight
abbrev less_weight : ℤ → HalfSpace → HalfSpace
less_weight n h = half_space_of (n *ℤ h.a) (n *ℤ h.b) (n *ℤ h.c) (n *ℤ h.d -ℤ pos 1)

-- its value, over plain numbers
side_less_of : (n a b c d x y z w : ℤ) → (n *ℤ a) *ℤ x +ℤ (n *ℤ b) *ℤ y +ℤ (n *ℤ c) *ℤ z +ℤ (n *ℤ d -ℤ pos 1) *ℤ w ≡ n *ℤ (a *ℤ x +ℤ b *ℤ y +ℤ c *ℤ z +ℤ d *ℤ w) -ℤ w
side_less_of n a b c d x y z w = by_ring_at (n ∷ a ∷ b ∷ c ∷ d ∷ x ∷ y ∷ z ∷ w ∷ []) (search reify depth 40 fits 100000) tt

-- its value
side_less : (n : ℤ) (h : HalfSpace) (p : RationalPoint) → side_value (less_weight n h) p ≡ n *ℤ side_value h p -ℤ p.w
side_less n h p = side_less_of n h.a h.b h.c h.d p.x p.y p.z p.w

-- a multiple by the sum of two numbers above 0 is at least the first
first_over : (m k s : ℤ) → pos 0 <ℤ m → pos 0 <ℤ k → pos 0 <ℤ s → pos 0 ≤ℤ ((m +ℤ k) *ℤ s -ℤ m)
first_over m k s hm hk hs =
    let r : pos 0 ≤ℤ (s -ℤ pos 1) = omega (arith, ints) in
    le_by_ring (m ∷ k ∷ s ∷ []) {c = m *ℤ (s -ℤ pos 1) +ℤ k *ℤ s} (search signs) (search reify depth 40 fits 100000) tt

-- and the second
second_over : (m k s : ℤ) → pos 0 <ℤ m → pos 0 <ℤ k → pos 0 <ℤ s → pos 0 ≤ℤ ((m +ℤ k) *ℤ s -ℤ k)
second_over m k s hm hk hs =
    let r : pos 0 ≤ℤ (s -ℤ pos 1) = omega (arith, ints) in
    le_by_ring (m ∷ k ∷ s ∷ []) {c = k *ℤ (s -ℤ pos 1) +ℤ m *ℤ s} (search signs) (search reify depth 40 fits 100000) tt

-- a number of which a multiple is at least a number above 0
above_by : (n s w : ℤ) → pos 0 ≤ℤ n → pos 0 <ℤ w → pos 0 ≤ℤ (n *ℤ s -ℤ w) → pos 0 <ℤ s
above_by n s w hn hw h =
    let m : pos 0 <ℤ (n *ℤ s) = omega (arith, linear, hw, h) in
    pos_of_mul_pos_ℤ n s hn m

-- a half-space that is positive at both ends is positive at what is left
pub positive_left : (system : List HalfSpace) (pair : TwoHalfSpaces) (span : Span) → IsSpan system pair span → (h : HalfSpace) → pos 0 <ℤ side_value h span.one → pos 0 <ℤ side_value h span.two
    → (p : RationalPoint) → IsLeft system pair p → pos 0 <ℤ side_value h p
positive_left system pair span k h h1 h2 p l =
    let w1 = k.one.point in
    let w2 = k.two.point in
    let n = span.one.w +ℤ span.two.w in
    let hn : pos 0 ≤ℤ n = search signs in
    let v = k.holds (less_weight n h)
    (subst (λ (t : ℤ). pos 0 ≤ℤ t) (sym (side_less n h span.one)) (first_over span.one.w span.two.w (side_value h span.one) w1 w2 h1))
    (subst (λ (t : ℤ). pos 0 ≤ℤ t) (sym (side_less n h span.two)) (second_over span.one.w span.two.w (side_value h span.two) w1 w2 h2)) p l in
    above_by n (side_value h p) p.w hn l.on.point (subst (λ (t : ℤ). pos 0 ≤ℤ t) (side_less n h p) v)

-- the value of the complement, over plain numbers
pub side_complement_of : (a b c d x y z w : ℤ) → neg_ℤ a *ℤ x +ℤ neg_ℤ b *ℤ y +ℤ neg_ℤ c *ℤ z +ℤ neg_ℤ d *ℤ w ≡ neg_ℤ (a *ℤ x +ℤ b *ℤ y +ℤ c *ℤ z +ℤ d *ℤ w)
side_complement_of a b c d x y z w = by_ring_at (a ∷ b ∷ c ∷ d ∷ x ∷ y ∷ z ∷ w ∷ []) (search reify depth 40 fits 100000) tt

-- the complement is positive where the half-space is negative
complement_positive : (h : HalfSpace) (p : RationalPoint) → side_value h p <ℤ pos 0 → pos 0 <ℤ side_value (complement h) p
complement_positive h p l =
    let e = side_complement_of h.a h.b h.c h.d p.x p.y p.z p.w in
    subst (λ (t : ℤ). pos 0 <ℤ t) (sym e) (opposite (side_value h p) l)
  where
    opposite : (v : ℤ) → v <ℤ pos 0 → pos 0 <ℤ neg_ℤ v
    opposite v h = omega (arith, ints)

-- and the half-space negative where the complement is positive
complement_negative : (h : HalfSpace) (p : RationalPoint) → pos 0 <ℤ side_value (complement h) p → side_value h p <ℤ pos 0
complement_negative h p l = opposite (side_value h p) (subst (λ (t : ℤ). pos 0 <ℤ t) (side_complement_of h.a h.b h.c h.d p.x p.y p.z p.w) l)
  where
    opposite : (v : ℤ) → pos 0 <ℤ neg_ℤ v → v <ℤ pos 0
    opposite v h = omega (arith, ints)

-- a half-space that is negative at both ends is negative at what is left
pub negative_left : (system : List HalfSpace) (pair : TwoHalfSpaces) (span : Span) → IsSpan system pair span → (h : HalfSpace) → side_value h span.one <ℤ pos 0 → side_value h span.two <ℤ pos 0
    → (p : RationalPoint) → IsLeft system pair p → side_value h p <ℤ pos 0
negative_left system pair span k h h1 h2 p l =
    complement_negative h p (positive_left system pair span k (complement h) (complement_positive h span.one h1) (complement_positive h span.two h2) p l)

-- nothing is left where a half-space of the list is negative at both ends
pub nothing_left : (system : List HalfSpace) (pair : TwoHalfSpaces) (span : Span) (h : HalfSpace) → Contains system h → IsSpan system pair span → side_value h span.one <ℤ pos 0 → side_value h span.two <ℤ pos 0 → IsNothingLeft system pair
nothing_left system pair span h c k h1 h2 p l = not_both (side_value h p) (negative_left system pair span k h h1 h2 p l) (l.sides h c)

-- ---- the plane of a half-space as an end

-- a point where planes meet, and its lowest terms
record Met (f g h : HalfSpace) (p : RationalPoint) : Type 0 where
  point : IsPoint (reduced_point p)
  same : SamePlace p (reduced_point p)
  independent : meeting_weight f g h ≡ pos 0 → ⊥
  first : side_value f p ≡ pos 0
  second : side_value g p ≡ pos 0
  third : side_value h p ≡ pos 0

-- a plane through the lowest terms goes through the point
on_unreduced : (h : HalfSpace) (p : RationalPoint) → IsPoint p → side_value h (reduced_point p) ≡ pos 0 → side_value h p ≡ pos 0
on_unreduced h p k e =
    let r = reduced_point p in
    zero_over (side_value h r) (side_value h p) r.w p.w (reduced_is p k).point (sym (same_side h p r (same_reduced p k))) e

-- what is known of a point where three planes meet
met : (f g h : HalfSpace) (p : RationalPoint) → MeetAt f g h p → Met f g h p
met f g h p k =
    let m = meeting_is f g h (reduced_point p) (sym k.is) in
    record {
      point = m.point;
      same = same_reduced p k.point;
      independent = m.tight.independent;
      first = on_unreduced f p k.point m.tight.first;
      second = on_unreduced g p k.point m.tight.second;
      third = on_unreduced h p k.point m.tight.third;
    }

-- a half-space that is not negative at a place is not negative at another point of it
nonnegative_back : (u : HalfSpace) (p q : RationalPoint) → SamePlace p q → IsPoint p → IsPoint q → pos 0 ≤ℤ side_value u q → pos 0 ≤ℤ side_value u p
nonnegative_back u p q s hp hq n = nonneg_over (side_value u q) (side_value u p) q.w p.w hq hp (sym (same_side u p q s)) n

-- a multiple of a half-space and one of another
abbrev sum_of : ℤ → HalfSpace → ℤ → HalfSpace → HalfSpace
sum_of m u n h = half_space_of (m *ℤ u.a +ℤ n *ℤ h.a) (m *ℤ u.b +ℤ n *ℤ h.b) (m *ℤ u.c +ℤ n *ℤ h.c) (m *ℤ u.d +ℤ n *ℤ h.d)

-- the value of the sum, over plain numbers
side_sum_of : (m n a b c d e f g h x y z w : ℤ) →
    (m *ℤ a +ℤ n *ℤ e) *ℤ x +ℤ (m *ℤ b +ℤ n *ℤ f) *ℤ y +ℤ (m *ℤ c +ℤ n *ℤ g) *ℤ z +ℤ (m *ℤ d +ℤ n *ℤ h) *ℤ w
    ≡ m *ℤ (a *ℤ x +ℤ b *ℤ y +ℤ c *ℤ z +ℤ d *ℤ w) +ℤ n *ℤ (e *ℤ x +ℤ f *ℤ y +ℤ g *ℤ z +ℤ h *ℤ w)
side_sum_of m n a b c d e f g h x y z w = by_ring_at (m ∷ n ∷ a ∷ b ∷ c ∷ d ∷ e ∷ f ∷ g ∷ h ∷ x ∷ y ∷ z ∷ w ∷ []) (search reify depth 40 fits 100000) tt

-- the value of the sum
side_sum : (m n : ℤ) (u h : HalfSpace) (p : RationalPoint) → side_value (sum_of m u n h) p ≡ m *ℤ side_value u p +ℤ n *ℤ side_value h p
side_sum m n u h p = side_sum_of m n u.a u.b u.c u.d h.a h.b h.c h.d p.x p.y p.z p.w

-- where the second part is at most 0, the first is at least 0
lifted : (m n v g : ℤ) → pos 0 <ℤ m → n <ℤ pos 0 → pos 0 ≤ℤ g → pos 0 ≤ℤ (m *ℤ v +ℤ n *ℤ g) → pos 0 ≤ℤ v
lifted m n v g hm hn hg h =
    let k : pos 0 ≤ℤ neg_ℤ n = omega (arith, ints) in
    let r : pos 0 ≤ℤ (neg_ℤ n *ℤ g) = search signs in
    let s : pos 0 ≤ℤ ((m *ℤ v +ℤ n *ℤ g) +ℤ neg_ℤ n *ℤ g) = search signs in
    le_by_multiple (m ∷ n ∷ v ∷ g ∷ []) {k = m} hm s (search reify depth 40 fits 100000) tt

-- the weight of the point between the ends
weight_between : (s t v w : ℤ) → t <ℤ pos 0 → pos 0 ≤ℤ s → pos 0 <ℤ v → pos 0 <ℤ w → pos 0 <ℤ (neg_ℤ t *ℤ v +ℤ s *ℤ w)
weight_between s t v w ht hs hv hw =
    let n : pos 0 <ℤ neg_ℤ t = omega (arith, ints) in
    search signs

-- the two products of the second part in the other order
turned_part : (s t u v : ℤ) → neg_ℤ t *ℤ v +ℤ s *ℤ u ≡ neg_ℤ t *ℤ v +ℤ u *ℤ s
turned_part s t u v = by_ring_at (s ∷ t ∷ u ∷ v ∷ []) (search reify depth 40 fits 100000) tt

-- the plane of a half-space of the list that is negative at the one end is the new end
pub cut_one : (system : List HalfSpace) (pair : TwoHalfSpaces) (span : Span) (h : HalfSpace) (end : RationalPoint) → Contains system h → IsSpan system pair span → side_value h span.one <ℤ pos 0 → pos 0 ≤ℤ side_value h span.two
    → MeetAt pair.first pair.second h end → IsSpan system pair (record { one = end; two = span.two })
cut_one system pair span h end c k l g at =
    let e = met pair.first pair.second h end at in
    record {
      one = record { point = at.point; first = e.first; second = e.second };
      two = k.two;
      holds = λ u n1 n2 p left. ⊎_elim
          (λ (n : pos 0 ≤ℤ side_value u span.one). k.holds u n n2 p left)
          (λ (b : side_value u span.one <ℤ pos 0). beyond e u n1 n2 p left b)
          (le_or_lt_ℤ (pos 0) (side_value u span.one));
    }
  where
    between_weight : IsPoint (crossing h span.two span.one)
    between_weight = weight_between (side_value h span.two) (side_value h span.one) span.two.w span.one.w l g k.two.point k.one.point

    between_same : SamePlace (crossing h span.two span.one) (reduced_point end)
    between_same = meeting_at_crossing h pair.first pair.second span.two span.one (reduced_point end) between_weight k.two.first k.one.first k.two.second k.one.second (sym at.is)

    -- what is not negative at the new end is not negative between the old ones
    there : Met pair.first pair.second h end → (u : HalfSpace) → pos 0 ≤ℤ side_value u end → pos 0 ≤ℤ (neg_ℤ (side_value h span.one) *ℤ side_value u span.two +ℤ side_value h span.two *ℤ side_value u span.one)
    there e u n =
        subst (λ (t : ℤ). pos 0 ≤ℤ t) (side_between u (side_value h span.two) (side_value h span.one) span.two span.one)
        (nonnegative_back u (crossing h span.two span.one) (reduced_point end) between_same between_weight e.point (nonnegative_same u end (reduced_point end) e.same at.point e.point n))

    -- a function that is negative at the old end: with a multiple of the half-space it is 0 there
    beyond : Met pair.first pair.second h end → (u : HalfSpace) → pos 0 ≤ℤ side_value u end → pos 0 ≤ℤ side_value u span.two → (p : RationalPoint) → IsLeft system pair p → side_value u span.one <ℤ pos 0 → pos 0 ≤ℤ side_value u p
    beyond e u n1 n2 p left b =
        let m = neg_ℤ (side_value h span.one) in
        let n = side_value u span.one in
        let hm : pos 0 <ℤ m = omega (arith, ints) in
        let first = subst (λ (t : ℤ). pos 0 ≤ℤ t) (sym (side_sum m n u h span.one)) (nonneg_of_zero (m *ℤ side_value u span.one +ℤ n *ℤ side_value h span.one) (opposite_multiples (side_value u span.one) (side_value h span.one))) in
        let second = subst (λ (t : ℤ). pos 0 ≤ℤ t) (sym (side_sum m n u h span.two)) (subst (λ (t : ℤ). pos 0 ≤ℤ t) (turned_part (side_value h span.two) (side_value h span.one) (side_value u span.one) (side_value u span.two)) (there e u n1)) in
        let v = subst (λ (t : ℤ). pos 0 ≤ℤ t) (side_sum m n u h p) (k.holds (sum_of m u n h) first second p left) in
        lifted m n (side_value u p) (side_value h p) hm b (left.sides h c) v

-- the same ends the other way round
turned : (system : List HalfSpace) (pair : TwoHalfSpaces) (one two : RationalPoint) → IsSpan system pair (record { one = one; two = two }) → IsSpan system pair (record { one = two; two = one })
turned system pair one two k = record { one = k.two; two = k.one; holds = λ u n1 n2 p left. k.holds u n2 n1 p left }

-- the plane of a half-space of the list that is negative at the other end is the new end
pub cut_two : (system : List HalfSpace) (pair : TwoHalfSpaces) (span : Span) (h : HalfSpace) (end : RationalPoint) → Contains system h → IsSpan system pair span → pos 0 ≤ℤ side_value h span.one → side_value h span.two <ℤ pos 0
    → MeetAt pair.first pair.second h end → IsSpan system pair (record { one = span.one; two = end })
cut_two system pair span h end c k g l at =
    turned system pair end span.one (cut_one system pair (record { one = span.two; two = span.one }) h end c (turned system pair span.one span.two k) l g at)

-- ---- the sides of the cube as ends

-- multiples of 0
no_part : (m n u v : ℤ) → u ≡ pos 0 → v ≡ pos 0 → m *ℤ u +ℤ n *ℤ v ≡ pos 0
no_part m n u v eu ev = rw (eu, ev) (by_ring_at (m ∷ n ∷ []) (search reify depth 40 fits 100000) tt)

-- two opposite sides of a box about the origin have values of which the sum is a multiple of the weight
opposite_sum : (a b c m x y z w : ℤ) →
    (a *ℤ x +ℤ b *ℤ y +ℤ c *ℤ z +ℤ m *ℤ w) +ℤ (neg_ℤ a *ℤ x +ℤ neg_ℤ b *ℤ y +ℤ neg_ℤ c *ℤ z +ℤ m *ℤ w) ≡ (m +ℤ m) *ℤ w
opposite_sum a b c m x y z w = by_ring_at (a ∷ b ∷ c ∷ m ∷ x ∷ y ∷ z ∷ w ∷ []) (search reify depth 40 fits 100000) tt

-- the plane through a point that is parallel to another
abbrev parallel_of : HalfSpace → ℤ → ℤ → HalfSpace
parallel_of s w v = half_space_of (w *ℤ s.a) (w *ℤ s.b) (w *ℤ s.c) (w *ℤ s.d -ℤ v)

-- its value, over plain numbers
side_parallel_of : (k v a b c d x y z w : ℤ) → (k *ℤ a) *ℤ x +ℤ (k *ℤ b) *ℤ y +ℤ (k *ℤ c) *ℤ z +ℤ (k *ℤ d -ℤ v) *ℤ w ≡ k *ℤ (a *ℤ x +ℤ b *ℤ y +ℤ c *ℤ z +ℤ d *ℤ w) -ℤ v *ℤ w
side_parallel_of k v a b c d x y z w = by_ring_at (k ∷ v ∷ a ∷ b ∷ c ∷ d ∷ x ∷ y ∷ z ∷ w ∷ []) (search reify depth 40 fits 100000) tt

-- its value
side_parallel : (s : HalfSpace) (k v : ℤ) (p : RationalPoint) → side_value (parallel_of s k v) p ≡ k *ℤ side_value s p -ℤ v *ℤ p.w
side_parallel s k v p = side_parallel_of k v s.a s.b s.c s.d p.x p.y p.z p.w

-- its determinant with two planes is a multiple
weight_parallel : (f g s : HalfSpace) (k v : ℤ) → meeting_weight f g (parallel_of s k v) ≡ k *ℤ meeting_weight f g s
weight_parallel f g s k v = by_ring_at (k ∷ f.a ∷ f.b ∷ f.c ∷ g.a ∷ g.b ∷ g.c ∷ s.a ∷ s.b ∷ s.c ∷ []) (search reify depth 40 fits 100000) tt

-- a product of numbers other than 0
product_not_zero : (k v : ℤ) → pos 0 <ℤ k → (v ≡ pos 0 → ⊥) → k *ℤ v ≡ pos 0 → ⊥
product_not_zero k v hk n e = ⊎_elim (λ (z : k ≡ pos 0). above_not_zero k hk z) n (mul_eq_zero_ℤ k v e)

-- the weight of the point of the segment at which both values are as at the point
weight_mixed : (s t v w : ℤ) → pos 0 <ℤ (s +ℤ t) → pos 0 <ℤ v → pos 0 <ℤ w → pos 0 <ℤ ((t *ℤ w) *ℤ v +ℤ (s *ℤ v) *ℤ w)
weight_mixed s t v w h hv hw = lt_by_ring (s ∷ t ∷ v ∷ w ∷ []) {c = (s +ℤ t) *ℤ (v *ℤ w)} (search signs) (search reify depth 40 fits 100000) tt

-- the parallel plane passes through that point: s and t are the values at a point of weight k, s1 and s2 those of the first side at the ends
mixed_on : (k s t v w s1 s2 d : ℤ) → s1 ≡ pos 0 → s2 ≡ d *ℤ w → s +ℤ t ≡ d *ℤ k
    → k *ℤ ((t *ℤ w) *ℤ s1 +ℤ (s *ℤ v) *ℤ s2) -ℤ s *ℤ ((t *ℤ w) *ℤ v +ℤ (s *ℤ v) *ℤ w) ≡ pos 0
mixed_on k s t v w s1 s2 d e1 e2 e3 =
    let z : (k *ℤ (t *ℤ w)) *ℤ (s1 -ℤ pos 0) +ℤ (k *ℤ (s *ℤ v)) *ℤ (s2 -ℤ d *ℤ w) +ℤ neg_ℤ (s *ℤ (v *ℤ w)) *ℤ ((s +ℤ t) -ℤ d *ℤ k) ≡ pos 0 = search zeros in
    eq_by_ring (k ∷ s ∷ t ∷ v ∷ w ∷ s1 ∷ s2 ∷ d ∷ []) z (search reify depth 40 fits 100000) tt

-- a number of which the sum with 0 is another
sum_zero : (s t v : ℤ) → s +ℤ t ≡ v → t ≡ pos 0 → s ≡ v
sum_zero s t v e z = omega (arith, linear, e, z)

-- a sum of multiples of numbers that are not negative
both_parts : (s t v w u1 u2 : ℤ) → pos 0 ≤ℤ s → pos 0 ≤ℤ t → pos 0 <ℤ v → pos 0 <ℤ w → pos 0 ≤ℤ u1 → pos 0 ≤ℤ u2 → pos 0 ≤ℤ ((t *ℤ w) *ℤ u1 +ℤ (s *ℤ v) *ℤ u2)
both_parts s t v w u1 u2 hs ht hv hw h1 h2 = search signs

-- what is left of a line lies between two opposite sides of a box about the origin
pub between_sides : (system : List HalfSpace) (pair : TwoHalfSpaces) (a b c m : ℤ) (span : Span) → pos 0 <ℤ m
    → Contains system (half_space_of a b c m) → Contains system (half_space_of (neg_ℤ a) (neg_ℤ b) (neg_ℤ c) m)
    → IsBetween pair (half_space_of a b c m) (half_space_of (neg_ℤ a) (neg_ℤ b) (neg_ℤ c) m) span → IsSpan system pair span
between_sides system pair a b c m span hm cs ct k =
    record {
      one = record { point = k.one.point; first = one.first; second = one.second };
      two = record { point = k.two.point; first = two.first; second = two.second };
      holds = held;
    }
  where
    s : HalfSpace
    s = half_space_of a b c m

    t : HalfSpace
    t = half_space_of (neg_ℤ a) (neg_ℤ b) (neg_ℤ c) m

    one : Met pair.first pair.second s span.one
    one = met pair.first pair.second s span.one k.one

    two : Met pair.first pair.second t span.two
    two = met pair.first pair.second t span.two k.two

    held : (u : HalfSpace) → pos 0 ≤ℤ side_value u span.one → pos 0 ≤ℤ side_value u span.two → (p : RationalPoint) → IsLeft system pair p → pos 0 ≤ℤ side_value u p
    held u n1 n2 p left =
        let v = span.one.w in
        let w = span.two.w in
        let sp = side_value s p in
        let tp = side_value t p in
        let q = mixed (tp *ℤ w) (sp *ℤ v) span.one span.two in
        let h = parallel_of s p.w sp in
        let sum : sp +ℤ tp ≡ (m +ℤ m) *ℤ p.w = opposite_sum a b c m p.x p.y p.z p.w in
        let hp = left.on.point in
        let above : pos 0 <ℤ ((m +ℤ m) *ℤ p.w) = search signs in
        let hq : IsPoint q = weight_mixed sp tp v w (subst (λ (x : ℤ). pos 0 <ℤ x) (sym sum) above) k.one.point k.two.point in
        let s2 : side_value s span.two ≡ (m +ℤ m) *ℤ w = sum_zero (side_value s span.two) (side_value t span.two) _ (opposite_sum a b c m span.two.x span.two.y span.two.z w) two.third in
        let l = meets pair.first pair.second h (λ e. product_not_zero p.w (meeting_weight pair.first pair.second s) hp one.independent (sym (weight_parallel pair.first pair.second s p.w sp) ∙ e)) in
        let at = l.only.0.point in
        let p_same = l.only.1 p (record { point = hp; on_first = left.on.first; on_second = left.on.second; on_third = side_parallel s p.w sp p ∙ less_exchanged p.w sp }) in
        let q_same = l.only.1 q (record {
          point = hq;
          on_first = side_mixed pair.first (tp *ℤ w) (sp *ℤ v) span.one span.two ∙ no_part (tp *ℤ w) (sp *ℤ v) (side_value pair.first span.one) (side_value pair.first span.two) one.first two.first;
          on_second = side_mixed pair.second (tp *ℤ w) (sp *ℤ v) span.one span.two ∙ no_part (tp *ℤ w) (sp *ℤ v) (side_value pair.second span.one) (side_value pair.second span.two) one.second two.second;
          on_third = side_parallel s p.w sp q ∙ (λ i. p.w *ℤ side_mixed s (tp *ℤ w) (sp *ℤ v) span.one span.two i -ℤ sp *ℤ q.w)
              ∙ mixed_on p.w sp tp v w (side_value s span.one) (side_value s span.two) (m +ℤ m) one.third s2 sum;
        }) in
        let nq = subst (λ (x : ℤ). pos 0 ≤ℤ x) (sym (side_mixed u (tp *ℤ w) (sp *ℤ v) span.one span.two))
        (both_parts sp tp v w (side_value u span.one) (side_value u span.two) (left.sides s cs) (left.sides t ct) k.one.point k.two.point n1 n2) in
        nonnegative_back u p l.at p_same hp at (nonnegative_same u q l.at q_same hq at nq)
