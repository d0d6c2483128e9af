-- Four minors that are not of one sign do not refute.
use Rattle.std.proofs.Common.{◌≡◌, ℤ, pos, neg_ℤ, ◌+ℤ◌, ◌-ℤ◌, ◌*ℤ◌, true, [], ◌∷◌, arith}
use Rattle.std.proofs.lemmas.Int.{ints}
use Rattle.rp_algebra.specs.Integer.{is_positive, is_negative}
use Rattle.rp_algebra.proofs.Reify.{by_ring_at, reify}
use Rattle.rp_algebra.proofs.Tests.{positive_is, is_positive_true, negative_is, is_negative_true}
use Rattle.rp_geometry.specs.Geometry.{HalfSpace}
use Rattle.rp_geometry.specs.searches.Vertex.{det2, meeting_weight}

-- the determinant along the third half-space
pub weight_along_third : (f g h : HalfSpace) → h.a *ℤ det2 f.b f.c g.b g.c -ℤ h.b *ℤ det2 f.a f.c g.a g.c +ℤ h.c *ℤ det2 f.a f.b g.a g.b ≡ meeting_weight f g h
weight_along_third f g h = by_ring_at (f.a ∷ f.b ∷ f.c ∷ g.a ∷ g.b ∷ g.c ∷ h.a ∷ h.b ∷ h.c ∷ []) (search reify depth 40 fits 100000) tt

-- a number whose negative is above 0 is below 0
pub below_zero : (v : ℤ) → is_positive (neg_ℤ v) ≡ true → is_negative v ≡ true
below_zero v e = let h = positive_is (neg_ℤ v) e in is_negative_true v (omega (arith, ints, h))

-- a number whose negative's negative is above 0 is above 0
pub twice : (v : ℤ) → is_positive (neg_ℤ (neg_ℤ v)) ≡ true → is_positive v ≡ true
twice v e = let h = positive_is (neg_ℤ (neg_ℤ v)) e in is_positive_true v (omega (arith, ints, h))

-- no number is above 0 and below 0
pub not_two_signs : (v : ℤ) → is_positive v ≡ true → is_negative v ≡ true → ⊥
not_two_signs v e f = let h = positive_is v e in let k = negative_is v f in omega (arith, ints, h, k)

-- the negative of a number above 0 is below 0
pub opposite_of_positive : (v : ℤ) → is_positive v ≡ true → is_negative (neg_ℤ v) ≡ true
opposite_of_positive v e = let h = positive_is v e in is_negative_true (neg_ℤ v) (omega (arith, ints, h))

-- ---- the last minor is 0
-- the negative of 0 is not above 0
pub zero_not_positive : (w : ℤ) → w ≡ pos 0 → is_positive (neg_ℤ w) ≡ true → ⊥
zero_not_positive w e p = let h = positive_is (neg_ℤ w) p in omega (arith, ints, h, e)
