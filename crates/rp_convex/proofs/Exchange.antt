-- Of three planes that meet in one point, one is not parallel to a given plane, and one meets two given planes in one point.
use Rattle.std.proofs.Common.{◌≡◌, pos, neg_ℤ, ◌+ℤ◌, ◌-ℤ◌, ◌*ℤ◌, ◌⊎◌, inl, inr, ⊎_elim, Bool, true, false, ◌&&◌, [], ◌∷◌, refl}
use Rattle.rp_algebra.specs.Integer.{is_zero}
use Rattle.rp_algebra.proofs.Numbers.{zero_or_not}
use Rattle.rp_algebra.proofs.Reify.{by_ring_at, eq_by_ring, eq_by_multiple, zeros, reify}
use Rattle.rp_algebra.proofs.Tests.{and_first, and_second, and_true, zero_is, is_zero_true, false_not_true}
use Rattle.rp_geometry.specs.Geometry.{HalfSpace}
use Rattle.rp_geometry.specs.searches.Vertex.{det2, meeting_weight}
use Rattle.rp_convex.specs.Edges.{are_parallel}
use Rattle.rp_convex.proofs.Edges.{parallel_weight}

-- what it says that planes are parallel
pub record AreParallel (f g : HalfSpace) : Type 0 where
  pub x : det2 f.b f.c g.b g.c ≡ pos 0
  pub y : det2 f.a f.c g.a g.c ≡ pos 0
  pub z : det2 f.a f.b g.a g.b ≡ pos 0

-- planes that pass the test are parallel
pub parallel_is : (f g : HalfSpace) → are_parallel f g ≡ true → AreParallel f g
parallel_is f g e =
    let r = and_second (is_zero (det2 f.b f.c g.b g.c)) (is_zero (det2 f.a f.c g.a g.c) && is_zero (det2 f.a f.b g.a g.b)) e in
    record {
      x = zero_is (det2 f.b f.c g.b g.c) (and_first (is_zero (det2 f.b f.c g.b g.c)) (is_zero (det2 f.a f.c g.a g.c) && is_zero (det2 f.a f.b g.a g.b)) e);
      y = zero_is (det2 f.a f.c g.a g.c) (and_first (is_zero (det2 f.a f.c g.a g.c)) (is_zero (det2 f.a f.b g.a g.b)) r);
      z = zero_is (det2 f.a f.b g.a g.b) (and_second (is_zero (det2 f.a f.c g.a g.c)) (is_zero (det2 f.a f.b g.a g.b)) r);
    }

-- parallel planes pass the test
pub is_parallel : (f g : HalfSpace) → AreParallel f g → are_parallel f g ≡ true
is_parallel f g p =
    and_true (is_zero (det2 f.b f.c g.b g.c)) (is_zero (det2 f.a f.c g.a g.c) && is_zero (det2 f.a f.b g.a g.b)) (is_zero_true (det2 f.b f.c g.b g.c) p.x)
    (and_true (is_zero (det2 f.a f.c g.a g.c)) (is_zero (det2 f.a f.b g.a g.b)) (is_zero_true (det2 f.a f.c g.a g.c) p.y) (is_zero_true (det2 f.a f.b g.a g.b) p.z))

-- a plane is parallel to itself
pub parallel_itself : (f : HalfSpace) → AreParallel f f
parallel_itself f = record {
  x = by_ring_at (f.b ∷ f.c ∷ []) (search reify depth 40 fits 100000) tt;
  y = by_ring_at (f.a ∷ f.c ∷ []) (search reify depth 40 fits 100000) tt;
  z = by_ring_at (f.a ∷ f.b ∷ []) (search reify depth 40 fits 100000) tt;
}

-- a third plane parallel to the first gives no determinant
pub parallel_last : (f g h : HalfSpace) → AreParallel f h → meeting_weight f g h ≡ pos 0
parallel_last f g h p =
    let s : neg_ℤ g.a *ℤ (det2 f.b f.c h.b h.c -ℤ pos 0) +ℤ g.b *ℤ (det2 f.a f.c h.a h.c -ℤ pos 0) +ℤ neg_ℤ g.c *ℤ (det2 f.a f.b h.a h.b -ℤ pos 0) ≡ pos 0 = search zeros in
    eq_by_ring (f.a ∷ f.b ∷ f.c ∷ g.a ∷ g.b ∷ g.c ∷ h.a ∷ h.b ∷ h.c ∷ []) s (search reify depth 40 fits 100000) tt

-- the half-space has a normal
pub data HasNormal (f : HalfSpace) : Type 0 where
  in_x : (f.a ≡ pos 0 → ⊥) → HasNormal f
  in_y : (f.b ≡ pos 0 → ⊥) → HasNormal f
  in_z : (f.c ≡ pos 0 → ⊥) → HasNormal f

-- two planes that are parallel to one whose first coefficient is not 0 are parallel: the determinant x
both_a_x : (f g h : HalfSpace) → (f.a ≡ pos 0 → ⊥) → AreParallel f g → AreParallel f h → det2 g.b g.c h.b h.c ≡ pos 0
both_a_x f g h n p q =
    let qx : det2 f.b f.c h.b h.c ≡ pos 0 = q.x in
    let pz : det2 f.a f.b g.a g.b ≡ pos 0 = p.z in
    let py : det2 f.a f.c g.a g.c ≡ pos 0 = p.y in
    let z : g.a *ℤ (det2 f.b f.c h.b h.c -ℤ pos 0) +ℤ h.c *ℤ (det2 f.a f.b g.a g.b -ℤ pos 0) +ℤ neg_ℤ h.b *ℤ (det2 f.a f.c g.a g.c -ℤ pos 0) ≡ pos 0 = search zeros in
    eq_by_multiple (f.a ∷ f.b ∷ f.c ∷ g.a ∷ g.b ∷ g.c ∷ h.a ∷ h.b ∷ h.c ∷ []) {k = f.a} n z (search reify depth 40 fits 100000) tt

-- two planes that are parallel to one whose first coefficient is not 0 are parallel: the determinant y
both_a_y : (f g h : HalfSpace) → (f.a ≡ pos 0 → ⊥) → AreParallel f g → AreParallel f h → det2 g.a g.c h.a h.c ≡ pos 0
both_a_y f g h n p q =
    let qy : det2 f.a f.c h.a h.c ≡ pos 0 = q.y in
    let py : det2 f.a f.c g.a g.c ≡ pos 0 = p.y in
    let z : g.a *ℤ (det2 f.a f.c h.a h.c -ℤ pos 0) +ℤ neg_ℤ h.a *ℤ (det2 f.a f.c g.a g.c -ℤ pos 0) ≡ pos 0 = search zeros in
    eq_by_multiple (f.a ∷ f.b ∷ f.c ∷ g.a ∷ g.b ∷ g.c ∷ h.a ∷ h.b ∷ h.c ∷ []) {k = f.a} n z (search reify depth 40 fits 100000) tt

-- two planes that are parallel to one whose first coefficient is not 0 are parallel: the determinant z
both_a_z : (f g h : HalfSpace) → (f.a ≡ pos 0 → ⊥) → AreParallel f g → AreParallel f h → det2 g.a g.b h.a h.b ≡ pos 0
both_a_z f g h n p q =
    let qz : det2 f.a f.b h.a h.b ≡ pos 0 = q.z in
    let pz : det2 f.a f.b g.a g.b ≡ pos 0 = p.z in
    let z : g.a *ℤ (det2 f.a f.b h.a h.b -ℤ pos 0) +ℤ neg_ℤ h.a *ℤ (det2 f.a f.b g.a g.b -ℤ pos 0) ≡ pos 0 = search zeros in
    eq_by_multiple (f.a ∷ f.b ∷ f.c ∷ g.a ∷ g.b ∷ g.c ∷ h.a ∷ h.b ∷ h.c ∷ []) {k = f.a} n z (search reify depth 40 fits 100000) tt

-- two planes that are parallel to one whose second coefficient is not 0 are parallel: the determinant x
both_b_x : (f g h : HalfSpace) → (f.b ≡ pos 0 → ⊥) → AreParallel f g → AreParallel f h → det2 g.b g.c h.b h.c ≡ pos 0
both_b_x f g h n p q =
    let qx : det2 f.b f.c h.b h.c ≡ pos 0 = q.x in
    let px : det2 f.b f.c g.b g.c ≡ pos 0 = p.x in
    let z : g.b *ℤ (det2 f.b f.c h.b h.c -ℤ pos 0) +ℤ neg_ℤ h.b *ℤ (det2 f.b f.c g.b g.c -ℤ pos 0) ≡ pos 0 = search zeros in
    eq_by_multiple (f.a ∷ f.b ∷ f.c ∷ g.a ∷ g.b ∷ g.c ∷ h.a ∷ h.b ∷ h.c ∷ []) {k = f.b} n z (search reify depth 40 fits 100000) tt

-- two planes that are parallel to one whose second coefficient is not 0 are parallel: the determinant y
both_b_y : (f g h : HalfSpace) → (f.b ≡ pos 0 → ⊥) → AreParallel f g → AreParallel f h → det2 g.a g.c h.a h.c ≡ pos 0
both_b_y f g h n p q =
    let qx : det2 f.b f.c h.b h.c ≡ pos 0 = q.x in
    let py : det2 f.a f.c g.a g.c ≡ pos 0 = p.y in
    let qz : det2 f.a f.b h.a h.b ≡ pos 0 = q.z in
    let z : g.a *ℤ (det2 f.b f.c h.b h.c -ℤ pos 0) +ℤ neg_ℤ h.b *ℤ (det2 f.a f.c g.a g.c -ℤ pos 0) +ℤ g.c *ℤ (det2 f.a f.b h.a h.b -ℤ pos 0) ≡ pos 0 = search zeros in
    eq_by_multiple (f.a ∷ f.b ∷ f.c ∷ g.a ∷ g.b ∷ g.c ∷ h.a ∷ h.b ∷ h.c ∷ []) {k = f.b} n z (search reify depth 40 fits 100000) tt

-- two planes that are parallel to one whose second coefficient is not 0 are parallel: the determinant z
both_b_z : (f g h : HalfSpace) → (f.b ≡ pos 0 → ⊥) → AreParallel f g → AreParallel f h → det2 g.a g.b h.a h.b ≡ pos 0
both_b_z f g h n p q =
    let qz : det2 f.a f.b h.a h.b ≡ pos 0 = q.z in
    let pz : det2 f.a f.b g.a g.b ≡ pos 0 = p.z in
    let z : g.b *ℤ (det2 f.a f.b h.a h.b -ℤ pos 0) +ℤ neg_ℤ h.b *ℤ (det2 f.a f.b g.a g.b -ℤ pos 0) ≡ pos 0 = search zeros in
    eq_by_multiple (f.a ∷ f.b ∷ f.c ∷ g.a ∷ g.b ∷ g.c ∷ h.a ∷ h.b ∷ h.c ∷ []) {k = f.b} n z (search reify depth 40 fits 100000) tt

-- two planes that are parallel to one whose third coefficient is not 0 are parallel: the determinant x
both_c_x : (f g h : HalfSpace) → (f.c ≡ pos 0 → ⊥) → AreParallel f g → AreParallel f h → det2 g.b g.c h.b h.c ≡ pos 0
both_c_x f g h n p q =
    let qx : det2 f.b f.c h.b h.c ≡ pos 0 = q.x in
    let px : det2 f.b f.c g.b g.c ≡ pos 0 = p.x in
    let z : g.c *ℤ (det2 f.b f.c h.b h.c -ℤ pos 0) +ℤ neg_ℤ h.c *ℤ (det2 f.b f.c g.b g.c -ℤ pos 0) ≡ pos 0 = search zeros in
    eq_by_multiple (f.a ∷ f.b ∷ f.c ∷ g.a ∷ g.b ∷ g.c ∷ h.a ∷ h.b ∷ h.c ∷ []) {k = f.c} n z (search reify depth 40 fits 100000) tt

-- two planes that are parallel to one whose third coefficient is not 0 are parallel: the determinant y
both_c_y : (f g h : HalfSpace) → (f.c ≡ pos 0 → ⊥) → AreParallel f g → AreParallel f h → det2 g.a g.c h.a h.c ≡ pos 0
both_c_y f g h n p q =
    let qy : det2 f.a f.c h.a h.c ≡ pos 0 = q.y in
    let py : det2 f.a f.c g.a g.c ≡ pos 0 = p.y in
    let z : g.c *ℤ (det2 f.a f.c h.a h.c -ℤ pos 0) +ℤ neg_ℤ h.c *ℤ (det2 f.a f.c g.a g.c -ℤ pos 0) ≡ pos 0 = search zeros in
    eq_by_multiple (f.a ∷ f.b ∷ f.c ∷ g.a ∷ g.b ∷ g.c ∷ h.a ∷ h.b ∷ h.c ∷ []) {k = f.c} n z (search reify depth 40 fits 100000) tt

-- two planes that are parallel to one whose third coefficient is not 0 are parallel: the determinant z
both_c_z : (f g h : HalfSpace) → (f.c ≡ pos 0 → ⊥) → AreParallel f g → AreParallel f h → det2 g.a g.b h.a h.b ≡ pos 0
both_c_z f g h n p q =
    let qx : det2 f.b f.c h.b h.c ≡ pos 0 = q.x in
    let pz : det2 f.a f.b g.a g.b ≡ pos 0 = p.z in
    let qy : det2 f.a f.c h.a h.c ≡ pos 0 = q.y in
    let z : neg_ℤ g.a *ℤ (det2 f.b f.c h.b h.c -ℤ pos 0) +ℤ neg_ℤ h.c *ℤ (det2 f.a f.b g.a g.b -ℤ pos 0) +ℤ g.b *ℤ (det2 f.a f.c h.a h.c -ℤ pos 0) ≡ pos 0 = search zeros in
    eq_by_multiple (f.a ∷ f.b ∷ f.c ∷ g.a ∷ g.b ∷ g.c ∷ h.a ∷ h.b ∷ h.c ∷ []) {k = f.c} n z (search reify depth 40 fits 100000) tt

-- two planes that are parallel to one with a normal are parallel
pub both_parallel : (f g h : HalfSpace) → HasNormal f → AreParallel f g → AreParallel f h → AreParallel g h
both_parallel f g h (in_x n) p q = record { x = both_a_x f g h n p q; y = both_a_y f g h n p q; z = both_a_z f g h n p q }
both_parallel f g h (in_y n) p q = record { x = both_b_x f g h n p q; y = both_b_y f g h n p q; z = both_b_z f g h n p q }
both_parallel f g h (in_z n) p q = record { x = both_c_x f g h n p q; y = both_c_y f g h n p q; z = both_c_z f g h n p q }

-- of two planes that meet a third one in one point, one is not parallel to a given plane
pub one_not_parallel : (f a b c : HalfSpace) → HasNormal f → (meeting_weight a b c ≡ pos 0 → ⊥) → (are_parallel f a ≡ false) ⊎ (are_parallel f b ≡ false)
one_not_parallel f a b c n w = by_tests (are_parallel f a) (are_parallel f b) refl refl
  where
    by_tests : (s t : Bool) → are_parallel f a ≡ s → are_parallel f b ≡ t → (are_parallel f a ≡ false) ⊎ (are_parallel f b ≡ false)
    by_tests false t p q = inl p
    by_tests true false p q = inr q
    by_tests true true p q = absurd (w (parallel_weight a b c (is_parallel a b (both_parallel f a b n (parallel_is f a p) (parallel_is f b q)))))

-- three planes that have no determinant with two whose determinant x is not 0 have none
none_by_x : (f g a b c : HalfSpace) → (det2 f.b f.c g.b g.c ≡ pos 0 → ⊥) → meeting_weight f g a ≡ pos 0 → meeting_weight f g b ≡ pos 0 → meeting_weight f g c ≡ pos 0 → meeting_weight a b c ≡ pos 0
none_by_x f g a b c n ea eb ec =
    let z : (b.b *ℤ c.c -ℤ b.c *ℤ c.b) *ℤ (meeting_weight f g a -ℤ pos 0) +ℤ neg_ℤ (a.b *ℤ c.c -ℤ a.c *ℤ c.b) *ℤ (meeting_weight f g b -ℤ pos 0) +ℤ (a.b *ℤ b.c -ℤ a.c *ℤ b.b) *ℤ (meeting_weight f g c -ℤ pos 0) ≡ pos 0 = search zeros in
    eq_by_multiple (f.a ∷ f.b ∷ f.c ∷ g.a ∷ g.b ∷ g.c ∷ a.a ∷ a.b ∷ a.c ∷ b.a ∷ b.b ∷ b.c ∷ c.a ∷ c.b ∷ c.c ∷ []) {k = det2 f.b f.c g.b g.c} n z (search reify depth 40 fits 100000) tt

-- three planes that have no determinant with two whose determinant y is not 0 have none
none_by_y : (f g a b c : HalfSpace) → (det2 f.a f.c g.a g.c ≡ pos 0 → ⊥) → meeting_weight f g a ≡ pos 0 → meeting_weight f g b ≡ pos 0 → meeting_weight f g c ≡ pos 0 → meeting_weight a b c ≡ pos 0
none_by_y f g a b c n ea eb ec =
    let z : (b.a *ℤ c.c -ℤ b.c *ℤ c.a) *ℤ (meeting_weight f g a -ℤ pos 0) +ℤ neg_ℤ (a.a *ℤ c.c -ℤ a.c *ℤ c.a) *ℤ (meeting_weight f g b -ℤ pos 0) +ℤ (a.a *ℤ b.c -ℤ a.c *ℤ b.a) *ℤ (meeting_weight f g c -ℤ pos 0) ≡ pos 0 = search zeros in
    eq_by_multiple (f.a ∷ f.b ∷ f.c ∷ g.a ∷ g.b ∷ g.c ∷ a.a ∷ a.b ∷ a.c ∷ b.a ∷ b.b ∷ b.c ∷ c.a ∷ c.b ∷ c.c ∷ []) {k = det2 f.a f.c g.a g.c} n z (search reify depth 40 fits 100000) tt

-- three planes that have no determinant with two whose determinant z is not 0 have none
none_by_z : (f g a b c : HalfSpace) → (det2 f.a f.b g.a g.b ≡ pos 0 → ⊥) → meeting_weight f g a ≡ pos 0 → meeting_weight f g b ≡ pos 0 → meeting_weight f g c ≡ pos 0 → meeting_weight a b c ≡ pos 0
none_by_z f g a b c n ea eb ec =
    let z : (b.a *ℤ c.b -ℤ b.b *ℤ c.a) *ℤ (meeting_weight f g a -ℤ pos 0) +ℤ neg_ℤ (a.a *ℤ c.b -ℤ a.b *ℤ c.a) *ℤ (meeting_weight f g b -ℤ pos 0) +ℤ (a.a *ℤ b.b -ℤ a.b *ℤ b.a) *ℤ (meeting_weight f g c -ℤ pos 0) ≡ pos 0 = search zeros in
    eq_by_multiple (f.a ∷ f.b ∷ f.c ∷ g.a ∷ g.b ∷ g.c ∷ a.a ∷ a.b ∷ a.c ∷ b.a ∷ b.b ∷ b.c ∷ c.a ∷ c.b ∷ c.c ∷ []) {k = det2 f.a f.b g.a g.b} n z (search reify depth 40 fits 100000) tt

-- three planes that have no determinant with two that are not parallel have none
none_of_three : (f g a b c : HalfSpace) → are_parallel f g ≡ false → meeting_weight f g a ≡ pos 0 → meeting_weight f g b ≡ pos 0 → meeting_weight f g c ≡ pos 0 → meeting_weight a b c ≡ pos 0
none_of_three f g a b c n ea eb ec =
    ⊎_elim
    (λ (x : det2 f.b f.c g.b g.c ≡ pos 0). ⊎_elim
    (λ (y : det2 f.a f.c g.a g.c ≡ pos 0). ⊎_elim
    (λ (z : det2 f.a f.b g.a g.b ≡ pos 0). absurd (false_not_true (are_parallel f g) (is_parallel f g (record { x = x; y = y; z = z })) n))
    (λ (m : det2 f.a f.b g.a g.b ≡ pos 0 → ⊥). none_by_z f g a b c m ea eb ec)
    (zero_or_not (det2 f.a f.b g.a g.b)))
    (λ (m : det2 f.a f.c g.a g.c ≡ pos 0 → ⊥). none_by_y f g a b c m ea eb ec)
    (zero_or_not (det2 f.a f.c g.a g.c)))
    (λ (m : det2 f.b f.c g.b g.c ≡ pos 0 → ⊥). none_by_x f g a b c m ea eb ec)
    (zero_or_not (det2 f.b f.c g.b g.c))

-- one of three planes meets two others in one point
pub data OneMeets (f g a b c : HalfSpace) : Type 0 where
  by_first : (meeting_weight f g a ≡ pos 0 → ⊥) → OneMeets f g a b c
  by_second : (meeting_weight f g b ≡ pos 0 → ⊥) → OneMeets f g a b c
  by_third : (meeting_weight f g c ≡ pos 0 → ⊥) → OneMeets f g a b c

-- of three planes that meet in one point, one meets two that are not parallel in one point
pub one_meets : (f g a b c : HalfSpace) → are_parallel f g ≡ false → (meeting_weight a b c ≡ pos 0 → ⊥) → OneMeets f g a b c
one_meets f g a b c n w =
    ⊎_elim
    (λ (ea : meeting_weight f g a ≡ pos 0). ⊎_elim
    (λ (eb : meeting_weight f g b ≡ pos 0). ⊎_elim
    (λ (ec : meeting_weight f g c ≡ pos 0). absurd (w (none_of_three f g a b c n ea eb ec)))
    (λ (m : meeting_weight f g c ≡ pos 0 → ⊥). by_third m)
    (zero_or_not (meeting_weight f g c)))
    (λ (m : meeting_weight f g b ≡ pos 0 → ⊥). by_second m)
    (zero_or_not (meeting_weight f g b)))
    (λ (m : meeting_weight f g a ≡ pos 0 → ⊥). by_first m)
    (zero_or_not (meeting_weight f g a))
