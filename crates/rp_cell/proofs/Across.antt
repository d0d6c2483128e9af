-- Where a point of a half-space's plane lies strictly inside some others, a point of theirs lies on the other side of the plane.
use Rattle.std.proofs.Common.{◌≡◌, ℕ, ◌+◌, ◌*◌, ◌^◌, ◌≤◌, ℤ, pos, neg_ℤ, ◌+ℤ◌, ◌*ℤ◌, ◌≤ℤ◌, ◌<ℤ◌, ⊎_elim, Bool, true, false, ◌&&◌, [], ◌∷◌, sym, ap, ◌∙◌, subst, arith}
use Rattle.std.specs.Prelude.{unsigned_abs}
use Rattle.std.proofs.lemmas.Int.{ints}
use Rattle.rp_algebra.proofs.IntLaws.{signs, linear, mul_le_mul_left_ℤ, mul_eq_zero_ℤ, square_nonneg_ℤ, le_or_lt_ℤ, abs_add_le, abs_mul_le}
use Rattle.rp_algebra.proofs.Numbers.{zero_between, zero_or_not, above_not_zero, opposite_within}
use Rattle.rp_algebra.proofs.Reify.{by_ring_at, reify}
use Rattle.rp_algebra.proofs.Tests.{is_zero_true}
use Rattle.rp_geometry.specs.Geometry.{RationalPoint, HalfSpace, IsPoint, IsHalfSpace, is_zero_half_space, point_of, side_value, complement}
use Rattle.rp_geometry.proofs.Complement.{side_of_complement}
use Rattle.rp_convex.proofs.Approach.{near, side_near}

-- far along the normal of a half-space, towards its negative side
abbrev beyond : HalfSpace → RationalPoint
beyond h = point_of (neg_ℤ h.a) (neg_ℤ h.b) (neg_ℤ h.c) (pos 0)

-- how often a point is counted so that what is strictly inside stays so
abbrev often : ℕ
often = 3 * 2 ^ 48 + 1

-- a point of the plane, moved a little to the other side
abbrev pub across : HalfSpace → RationalPoint → RationalPoint
across h p = near (pos often) (beyond h) p

-- it is a point
pub across_point : (h : HalfSpace) (p : RationalPoint) → IsPoint p → IsPoint (across h p)
across_point h p w = search signs

-- ---- on the other side

-- a square is above 0 but for 0
square_above : (a : ℤ) → (a ≡ pos 0 → ⊥) → pos 0 <ℤ (a *ℤ a)
square_above a n = ⊎_elim
    (λ (l : (a *ℤ a) ≤ℤ pos 0). absurd (⊎_elim n n (mul_eq_zero_ℤ a a (zero_between (a *ℤ a) l (square_nonneg_ℤ a)))))
    (λ (l : pos 0 <ℤ (a *ℤ a)). l)
    (le_or_lt_ℤ (a *ℤ a) (pos 0))

-- where one of the numbers of a normal is not 0, so is not its square
normal_above : (a b c : ℤ) → ((a ≡ pos 0) → (b ≡ pos 0) → (c ≡ pos 0) → ⊥) → pos 0 <ℤ (a *ℤ a +ℤ b *ℤ b +ℤ c *ℤ c)
normal_above a b c n = ⊎_elim
    (λ (x : a ≡ pos 0). ⊎_elim
    (λ (y : b ≡ pos 0). by_third (square_nonneg_ℤ a) (square_nonneg_ℤ b) (square_above c (n x y)))
    (λ (y : b ≡ pos 0 → ⊥). by_second (square_nonneg_ℤ a) (square_above b y) (square_nonneg_ℤ c))
    (zero_or_not b))
    (λ (x : a ≡ pos 0 → ⊥). by_first (square_above a x) (square_nonneg_ℤ b) (square_nonneg_ℤ c))
    (zero_or_not a)
  where
    by_first : {s t u : ℤ} → pos 0 <ℤ s → pos 0 ≤ℤ t → pos 0 ≤ℤ u → pos 0 <ℤ (s +ℤ t +ℤ u)
    by_first h k l = omega (arith, linear, h, k, l)

    by_second : {s t u : ℤ} → pos 0 ≤ℤ s → pos 0 <ℤ t → pos 0 ≤ℤ u → pos 0 <ℤ (s +ℤ t +ℤ u)
    by_second h k l = omega (arith, linear, h, k, l)

    by_third : {s t u : ℤ} → pos 0 ≤ℤ s → pos 0 ≤ℤ t → pos 0 <ℤ u → pos 0 <ℤ (s +ℤ t +ℤ u)
    by_third h k l = omega (arith, linear, h, k, l)

-- a half-space whose plane has a point has a normal
has_normal : (h : HalfSpace) (p : RationalPoint) → IsHalfSpace h → IsPoint p → side_value h p ≡ pos 0 → (h.a ≡ pos 0) → (h.b ≡ pos 0) → (h.c ≡ pos 0) → ⊥
has_normal h p k w on x y z = ⊎_elim
    (λ (d : h.d ≡ pos 0). not_zero (is_zero_half_space h) k.nonzero (all_zero d))
    (λ (e : p.w ≡ pos 0). weight p.w w e)
    (mul_eq_zero_ℤ h.d p.w (sym (alone p.x p.y p.z (h.d *ℤ p.w)) ∙ sym (λ i. x i *ℤ p.x +ℤ y i *ℤ p.y +ℤ z i *ℤ p.z +ℤ h.d *ℤ p.w) ∙ on))
  where
    alone : (x y z v : ℤ) → pos 0 *ℤ x +ℤ pos 0 *ℤ y +ℤ pos 0 *ℤ z +ℤ v ≡ v
    alone x y z v = by_ring_at (x ∷ y ∷ z ∷ v ∷ []) (search reify depth 40 fits 100000) tt

    not_zero : (b : Bool) → b ≡ false → b ≡ true → ⊥
    not_zero b e f = cc

    weight : (w : ℤ) → pos 0 <ℤ w → w ≡ pos 0 → ⊥
    weight w h e = above_not_zero w h e

    all_zero : h.d ≡ pos 0 → is_zero_half_space h ≡ true
    all_zero d = λ i. is_zero_true h.a x i && is_zero_true h.b y i && is_zero_true h.c z i && is_zero_true h.d d i

-- the complement is positive there
pub complement_across : (h : HalfSpace) (p : RationalPoint) → IsHalfSpace h → IsPoint p → side_value h p ≡ pos 0 → pos 0 <ℤ side_value (complement h) (across h p)
complement_across h p k w on =
    let e : side_value (complement h) (across h p) ≡ (h.a *ℤ h.a +ℤ h.b *ℤ h.b +ℤ h.c *ℤ h.c) +ℤ pos often *ℤ pos 0 =
    side_near (complement h) (pos often) (beyond h) p ∙ (λ i. squares h.a h.b h.c h.d i +ℤ pos often *ℤ (side_of_complement h p ∙ ap neg_ℤ on) i) in
    subst (λ (v : ℤ). pos 0 <ℤ v) (sym (e ∙ plain (h.a *ℤ h.a +ℤ h.b *ℤ h.b +ℤ h.c *ℤ h.c))) (normal_above h.a h.b h.c (has_normal h p k w on))
  where
    squares : (a b c d : ℤ) → neg_ℤ a *ℤ neg_ℤ a +ℤ neg_ℤ b *ℤ neg_ℤ b +ℤ neg_ℤ c *ℤ neg_ℤ c +ℤ neg_ℤ d *ℤ pos 0 ≡ a *ℤ a +ℤ b *ℤ b +ℤ c *ℤ c
    squares a b c d = by_ring_at (a ∷ b ∷ c ∷ d ∷ []) (search reify depth 40 fits 100000) tt

    plain : (s : ℤ) → s +ℤ pos often *ℤ pos 0 ≡ s
    plain s = by_ring_at (s ∷ []) (search reify depth 40 fits 100000) tt

-- ---- still inside

-- along a normal no half-space falls by more than the bounds of the numbers allow
least_beyond : (g h : HalfSpace) → IsHalfSpace g → IsHalfSpace h → unsigned_abs (side_value g (beyond h)) ≤ 3 * 2 ^ 48
least_beyond g h k l = subst (λ (v : ℤ). unsigned_abs v ≤ 3 * 2 ^ 48) (sym (plain g.a g.b g.c g.d h.a h.b h.c))
    (abs_add_le (g.a *ℤ neg_ℤ h.a +ℤ g.b *ℤ neg_ℤ h.b) (g.c *ℤ neg_ℤ h.c) (2 * 2 ^ 48) (2 ^ 48)
    (abs_add_le (g.a *ℤ neg_ℤ h.a) (g.b *ℤ neg_ℤ h.b) (2 ^ 48) (2 ^ 48) (product g.a h.a k.a l.a) (product g.b h.b k.b l.b)) (product g.c h.c k.c l.c))
  where
    plain : (a b c d x y z : ℤ) → a *ℤ neg_ℤ x +ℤ b *ℤ neg_ℤ y +ℤ c *ℤ neg_ℤ z +ℤ d *ℤ pos 0 ≡ a *ℤ neg_ℤ x +ℤ b *ℤ neg_ℤ y +ℤ c *ℤ neg_ℤ z
    plain a b c d x y z = by_ring_at (a ∷ b ∷ c ∷ d ∷ x ∷ y ∷ z ∷ []) (search reify depth 40 fits 100000) tt

    negated : (x : ℤ) → unsigned_abs x ≤ 2 ^ 24 → unsigned_abs (neg_ℤ x) ≤ 2 ^ 24
    negated x h = (opposite_within (2 ^ 24) x (record { abs_le = h })).abs_le

    product : (a x : ℤ) → unsigned_abs a ≤ 2 ^ 24 → unsigned_abs x ≤ 2 ^ 24 → unsigned_abs (a *ℤ neg_ℤ x) ≤ 2 ^ 48
    product a x h k = abs_mul_le a (neg_ℤ x) (2 ^ 24) (2 ^ 24) h (negated x k)

-- a half-space that is positive at the point is so there
pub positive_across : (g h : HalfSpace) (p : RationalPoint) → IsHalfSpace g → IsHalfSpace h → pos 0 <ℤ side_value g p → pos 0 <ℤ side_value g (across h p)
positive_across g h p k l above =
    subst (λ (v : ℤ). pos 0 <ℤ v) (sym (side_near g (pos often) (beyond h) p)) (outweighs (side_value g (beyond h)) (side_value g p) (least_beyond g h k l) above)
  where
    at_least : (u : ℤ) → unsigned_abs u ≤ 3 * 2 ^ 48 → pos 0 <ℤ (u +ℤ pos often)
    at_least u h = omega (arith, ints, h)

    outweighs : (u s : ℤ) → unsigned_abs u ≤ 3 * 2 ^ 48 → pos 0 <ℤ s → pos 0 <ℤ (u +ℤ pos often *ℤ s)
    outweighs u s h k =
        let more : (pos often *ℤ pos 1) ≤ℤ (pos often *ℤ s) = mul_le_mul_left_ℤ (pos often) (pos 1) s (search signs) (one_at_most s k) in
        above_more u (pos often) (pos often *ℤ s) (at_least u h) more
      where
        one_at_most : (s : ℤ) → pos 0 <ℤ s → pos 1 ≤ℤ s
        one_at_most s k = omega (arith, ints, k)

        above_more : (u k v : ℤ) → pos 0 <ℤ (u +ℤ k) → k ≤ℤ v → pos 0 <ℤ (u +ℤ v)
        above_more u k v h l = omega (arith, linear, h, l)
