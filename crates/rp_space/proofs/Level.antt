-- Cramer's rule for two upright planes and a level one.
use Rattle.std.proofs.Common.{◌≡◌, false, ℤ, pos, neg_ℤ, ◌+ℤ◌, ◌-ℤ◌, ◌*ℤ◌, [], ◌∷◌, sym, ap, ◌∙◌, FitsSigned, to_z, of_z}
use Rattle.std.specs.Prelude.{Option}
use Rattle.std.proofs.lemmas.Int.{to_z-of_z}
use mir.Syntax.{w128}
use Rattle.rp_algebra.specs.Integer.{is_zero}
use Rattle.rp_algebra.proofs.Reify.{by_ring_at, reify}
use Rattle.rp_algebra.proofs.Tests.{is_zero_false}
use Rattle.rp_geometry.specs.Geometry.{HalfSpace, RationalPoint, point_of, side_value}
use Rattle.rp_geometry.specs.searches.Vertex.{det2, det3, cramer_point}
use Rattle.rp_space.specs.LevelAndUpright.{IsLevel, IsLevelWithUpright}
use Rattle.rp_space.specs.PositivePoint.{positive_point}

-- the first coordinate
pub level_x : (f g h : HalfSpace) → IsLevelWithUpright f g h → h.c *ℤ det2 f.b f.d g.b g.d ≡ (cramer_point f g h).x
level_x f g h k =
    by_ring_at (f.b ∷ f.d ∷ g.b ∷ g.d ∷ h.c ∷ h.d ∷ []) (search reify depth 40 fits 100000) tt ∙ sym (λ i. neg_ℤ (det3 f.d f.b (k.first i) g.d g.b (k.second i) h.d (k.level.b i) h.c))

-- the second coordinate
pub level_y : (f g h : HalfSpace) → IsLevelWithUpright f g h → h.c *ℤ det2 g.a g.d f.a f.d ≡ (cramer_point f g h).y
level_y f g h k =
    by_ring_at (f.a ∷ f.d ∷ g.a ∷ g.d ∷ h.c ∷ h.d ∷ []) (search reify depth 40 fits 100000) tt ∙ sym (λ i. neg_ℤ (det3 f.a f.d (k.first i) g.a g.d (k.second i) (k.level.a i) h.d h.c))

-- the third coordinate
pub level_z : (f g h : HalfSpace) → IsLevelWithUpright f g h → pos 0 -ℤ h.d *ℤ det2 f.a f.b g.a g.b ≡ (cramer_point f g h).z
level_z f g h k =
    by_ring_at (f.a ∷ f.b ∷ f.d ∷ g.a ∷ g.b ∷ g.d ∷ h.d ∷ []) (search reify depth 40 fits 100000) tt ∙ sym (λ i. neg_ℤ (det3 f.a f.b f.d g.a g.b g.d (k.level.a i) (k.level.b i) h.d))

-- the weight
pub level_weight : (f g h : HalfSpace) → IsLevelWithUpright f g h → h.c *ℤ det2 f.a f.b g.a g.b ≡ (cramer_point f g h).w
level_weight f g h k =
    by_ring_at (f.a ∷ f.b ∷ g.a ∷ g.b ∷ h.c ∷ []) (search reify depth 40 fits 100000) tt ∙ sym (λ i. det3 f.a f.b (k.first i) g.a g.b (k.second i) (k.level.a i) (k.level.b i) h.c)

-- three planes that are equal to others are level and upright as they are
pub equally_level : {f g h p q r : HalfSpace} → p ≡ f → q ≡ g → r ≡ h → IsLevelWithUpright f g h → IsLevelWithUpright p q r
equally_level ep eq er k = record { first = (λ i. (ep i).c) ∙ k.first; second = (λ i. (eq i).c) ∙ k.second; level = record { a = (λ i. (er i).a) ∙ k.level.a; b = (λ i. (er i).b) ∙ k.level.b } }

-- the weight of planes that are equal to others
pub weight_of_equal : {f g h p q r : HalfSpace} → p ≡ f → q ≡ g → r ≡ h → IsLevelWithUpright f g h → r.c *ℤ det2 p.a p.b q.a q.b ≡ (cramer_point f g h).w
weight_of_equal {p = p} {q = q} {r = r} ep eq er k = level_weight p q r (equally_level ep eq er k) ∙ (λ i. (cramer_point (ep i) (eq i) (er i)).w)

-- the point of planes that are equal to others
pub point_of_equal : {f g h p q r : HalfSpace} → p ≡ f → q ≡ g → r ≡ h → IsLevelWithUpright f g h
    → point_of (r.c *ℤ det2 p.b p.d q.b q.d) (r.c *ℤ det2 q.a q.d p.a p.d) (pos 0 -ℤ r.d *ℤ det2 p.a p.b q.a q.b) (r.c *ℤ det2 p.a p.b q.a q.b) ≡ cramer_point f g h
point_of_equal {p = p} {q = q} {r = r} ep eq er k =
    let l = equally_level ep eq er k in
    (λ i. point_of (level_x p q r l i) (level_y p q r l i) (level_z p q r l i) (level_weight p q r l i)) ∙ (λ i. cramer_point (ep i) (eq i) (er i))

-- a point of four numbers, made of four that are equal
pub point_by : {o : Option RationalPoint} (x y z w : ℤ) {p q r s : ℤ} → o ≡ positive_point (point_of x y z w) → x ≡ p → y ≡ q → z ≡ r → w ≡ s → o ≡ positive_point (point_of p q r s)
point_by x y z w e ex ey ez ew = e ∙ (λ i. positive_point (point_of (ex i) (ey i) (ez i) (ew i)))

-- a number that is known to be 0 by what it is equal to
pub zero_by : {t v : ℤ} → t ≡ pos 0 → t ≡ v → v ≡ pos 0
zero_by z e = sym e ∙ z

-- a number whose bits are not 0 fails the test of 0
pub not_zero : (v : ℤ) → (of_z w128 v ≡ 0 → ⊥) → FitsSigned w128 v → is_zero (to_z w128 (of_z w128 v)) ≡ false
not_zero v n fits = is_zero_false _ (λ e. n (ap (of_z w128) (sym (to_z-of_z w128 v fits) ∙ e)))

-- ---- side values

-- that of a level plane, by the numbers of one that is equal
pub level_side : {h r : HalfSpace} → r ≡ h → (p : RationalPoint) → IsLevel h → r.c *ℤ p.z +ℤ r.d *ℤ p.w ≡ side_value h p
level_side {h = h} {r = r} e p k =
    (λ i. (e i).c *ℤ p.z +ℤ (e i).d *ℤ p.w) ∙ by_ring_at (h.c ∷ h.d ∷ p.x ∷ p.y ∷ p.z ∷ p.w ∷ []) (search reify depth 40 fits 100000) tt
    ∙ sym (λ i. k.a i *ℤ p.x +ℤ k.b i *ℤ p.y +ℤ h.c *ℤ p.z +ℤ h.d *ℤ p.w)

-- that of an upright one
pub upright_side : {h r : HalfSpace} → r ≡ h → (p : RationalPoint) → h.c ≡ pos 0 → r.a *ℤ p.x +ℤ r.b *ℤ p.y +ℤ r.d *ℤ p.w ≡ side_value h p
upright_side {h = h} {r = r} e p k =
    (λ i. (e i).a *ℤ p.x +ℤ (e i).b *ℤ p.y +ℤ (e i).d *ℤ p.w)
    ∙ by_ring_at (h.a ∷ h.b ∷ h.d ∷ p.x ∷ p.y ∷ p.z ∷ p.w ∷ []) (search reify depth 40 fits 100000) tt
    ∙ sym (λ i. h.a *ℤ p.x +ℤ h.b *ℤ p.y +ℤ k i *ℤ p.z +ℤ h.d *ℤ p.w)

-- ---- the planes in another order

-- the first coordinate stays, where the planes are turned round
turned_x : (f g h : HalfSpace) → (cramer_point g h f).x ≡ (cramer_point f g h).x
turned_x f g h = by_ring_at (f.b ∷ f.c ∷ f.d ∷ g.b ∷ g.c ∷ g.d ∷ h.b ∷ h.c ∷ h.d ∷ []) (search reify depth 40 fits 100000) tt

-- the second one
turned_y : (f g h : HalfSpace) → (cramer_point g h f).y ≡ (cramer_point f g h).y
turned_y f g h = by_ring_at (f.a ∷ f.c ∷ f.d ∷ g.a ∷ g.c ∷ g.d ∷ h.a ∷ h.c ∷ h.d ∷ []) (search reify depth 40 fits 100000) tt

-- the third one
turned_z : (f g h : HalfSpace) → (cramer_point g h f).z ≡ (cramer_point f g h).z
turned_z f g h = by_ring_at (f.a ∷ f.b ∷ f.d ∷ g.a ∷ g.b ∷ g.d ∷ h.a ∷ h.b ∷ h.d ∷ []) (search reify depth 40 fits 100000) tt

-- the weight
turned_weight : (f g h : HalfSpace) → (cramer_point g h f).w ≡ (cramer_point f g h).w
turned_weight f g h = by_ring_at (f.a ∷ f.b ∷ f.c ∷ g.a ∷ g.b ∷ g.c ∷ h.a ∷ h.b ∷ h.c ∷ []) (search reify depth 40 fits 100000) tt

-- the point
pub turned : (f g h : HalfSpace) → cramer_point g h f ≡ cramer_point f g h
turned f g h = λ i. point_of (turned_x f g h i) (turned_y f g h i) (turned_z f g h i) (turned_weight f g h i)
