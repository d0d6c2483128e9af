-- Half-spaces whose normals are independent do not refute.
use Rattle.std.proofs.Common.{◌≡◌, ℤ, pos, neg_ℤ, ◌+ℤ◌, ◌-ℤ◌, ◌*ℤ◌, ◌<ℤ◌, Bool, true, false, ◌&&◌, List, [], ◌∷◌, Some, None, refl, sym, ap, ◌∙◌, arith}
use Rattle.std.specs.List.{list_all}
use Rattle.std.proofs.lemmas.Int.{ints}
use Rattle.rp_algebra.specs.Integer.{is_zero, is_positive}
use Rattle.rp_algebra.proofs.IntLaws.{cancel_mul_left_ℤ}
use Rattle.rp_algebra.proofs.Reify.{by_ring_at, reify}
use Rattle.rp_algebra.proofs.Tests.{and_first, and_second, and_true, false_unless, false_not_true, positive_is, is_zero_true}
use Rattle.rp_geometry.specs.Geometry.{HalfSpace}
use Rattle.rp_geometry.specs.searches.Certificate.{Multiple, is_balanced, is_contradiction}
use Rattle.rp_geometry.specs.searches.Vertex.{det2, meeting_weight}
use Rattle.rp_geometry.specs.searches.Elimination.{multiple_of, half_spaces_of, minors_of_two, minors_of_three, normal_terms, is_refutation, terms_if, refutation_of_one, refutation_of_two, refutation_of_three}
use Rattle.rp_geometry.proofs.Weights.{weight_exchanged, weight_turned}
use Rattle.rp_convex.proofs.LowestMultiples.{half_spaces_of-normal}
use Rattle.rp_convex.proofs.Tests.{Balanced, balanced-to}
use Rattle.rp_elim.specs.declared.placed.Placed.{Placed}
use Rattle.rp_elim.specs.Axes.{is_without_normal, are_parallel}
use Rattle.rp_elim.specs.HeldFast.{two_in_order, three_in_order}
use Rattle.rp_elim.proofs.Three.{three_minors}

-- terms that do not refute are not given
pub not_given : (strict : Bool) (us : List Multiple) → (is_refutation strict us ≡ true → ⊥) → terms_if strict us ≡ None
not_given strict us n = λ i. elim (false_unless (is_refutation strict us) n i) [ true ↦ Some us | false ↦ None ]

-- terms that refute are balanced
pub balance_of : (strict : Bool) (us : List Multiple) → is_refutation strict us ≡ true → Balanced us
balance_of strict us e =
    balanced-to us (and_second (list_all (λ (t : Multiple). is_positive t.factor) us) (is_balanced us) (and_first _ (is_contradiction strict us) e))

-- and the first one's factor is above 0
first_above : (strict : Bool) (u : Multiple) (us : List Multiple) → is_refutation strict (u ∷ us) ≡ true → pos 0 <ℤ u.factor
first_above strict u us e =
    positive_is u.factor (and_first (is_positive u.factor) (list_all (λ (t : Multiple). is_positive t.factor) us)
    (and_first _ (is_balanced (u ∷ us)) (and_first _ (is_contradiction strict (u ∷ us)) e)))

-- ---- one half-space
-- a coefficient that cancels is 0
alone : (v : ℤ) → pos 1 *ℤ v +ℤ pos 0 ≡ pos 0 → is_zero v ≡ true
alone v e = is_zero_true v (omega (arith, ints, e))

-- a half-space with a normal does not refute
pub one_with_normal : (strict : Bool) (h : HalfSpace) → is_without_normal h ≡ false → refutation_of_one strict h ≡ None
unfolding refutation_of_one
one_with_normal strict h n =
    not_given strict (multiple_of (pos 1) h ∷ []) (λ e.
    let b = balance_of strict (multiple_of (pos 1) h ∷ []) e in
    false_not_true (is_without_normal h) (and_true (is_zero h.a && is_zero h.b) (is_zero h.c) (and_true (is_zero h.a) (is_zero h.b) (alone h.a b.a) (alone h.b b.b)) (alone h.c b.c)) n)

-- ---- two half-spaces
-- a multiple of a 2 by 2 determinant, by the sums
minor_scaled : (l m f1 f2 g1 g2 : ℤ) → l *ℤ det2 f1 f2 g1 g2 ≡ (l *ℤ f1 +ℤ (m *ℤ g1 +ℤ pos 0)) *ℤ g2 -ℤ (l *ℤ f2 +ℤ (m *ℤ g2 +ℤ pos 0)) *ℤ g1
minor_scaled l m f1 f2 g1 g2 = by_ring_at (l ∷ m ∷ f1 ∷ f2 ∷ g1 ∷ g2 ∷ []) (search reify depth 40 fits 100000) tt

-- nothing by the sums
minor_none : (l g1 g2 : ℤ) → pos 0 *ℤ g2 -ℤ pos 0 *ℤ g1 ≡ l *ℤ pos 0
minor_none l g1 g2 = by_ring_at (l ∷ g1 ∷ g2 ∷ []) (search reify depth 40 fits 100000) tt

-- a 2 by 2 determinant of two half-spaces that cancel is 0
minor_zero : (l m f1 f2 g1 g2 : ℤ) → pos 0 <ℤ l → l *ℤ f1 +ℤ (m *ℤ g1 +ℤ pos 0) ≡ pos 0 → l *ℤ f2 +ℤ (m *ℤ g2 +ℤ pos 0) ≡ pos 0 → is_zero (det2 f1 f2 g1 g2) ≡ true
minor_zero l m f1 f2 g1 g2 p e1 e2 =
    is_zero_true (det2 f1 f2 g1 g2)
    (cancel_mul_left_ℤ l (det2 f1 f2 g1 g2) (pos 0) p (minor_scaled l m f1 f2 g1 g2 ∙ (λ i. e1 i *ℤ g2 -ℤ e2 i *ℤ g1) ∙ minor_none l g1 g2))

-- two terms that refute have dependent normals
parallel : (strict : Bool) (t u : Multiple) → is_refutation strict (t ∷ u ∷ []) ≡ true → are_parallel t.of u.of ≡ true
parallel strict t u e =
    let b = balance_of strict (t ∷ u ∷ []) e in
    let p = first_above strict t (u ∷ []) e in
    let ab = minor_zero t.factor u.factor t.of.a t.of.b u.of.a u.of.b p b.a b.b in
    let ac = minor_zero t.factor u.factor t.of.a t.of.c u.of.a u.of.c p b.a b.c in
    let bc = minor_zero t.factor u.factor t.of.b t.of.c u.of.b u.of.c p b.b b.c in
    and_true _ (is_zero (det2 t.of.b t.of.c u.of.b u.of.c)) (and_true (is_zero (det2 t.of.a t.of.b u.of.a u.of.b)) (is_zero (det2 t.of.a t.of.c u.of.a u.of.c)) ab ac) bc

-- so have terms of two half-spaces
parallel_of : (strict : Bool) (us : List Multiple) (f g : HalfSpace) → half_spaces_of us ≡ f ∷ g ∷ [] → is_refutation strict us ≡ true → are_parallel f g ≡ true
parallel_of strict [] f g same e = absurd (cc)
parallel_of strict (t ∷ []) f g same e = absurd (cc)
parallel_of strict (t ∷ u ∷ []) f g same e =
    let first : t.of ≡ f = cc in
    let second : u.of ≡ g = cc in
    (λ i. are_parallel (sym first i) (sym second i)) ∙ parallel strict t u e
parallel_of strict (t ∷ u ∷ v ∷ vs) f g same e = absurd (cc)

-- the multiples of two half-spaces are of these
pub two_halves : (f g : HalfSpace) → half_spaces_of (minors_of_two f g) ≡ f ∷ g ∷ []
two_halves f g =
    elim (is_zero f.a) as (λ b. half_spaces_of (elim b [
      | false ↦ multiple_of g.a f ∷ multiple_of (neg_ℤ f.a) g ∷ []
      | true ↦ elim (is_zero f.b) [ false ↦ multiple_of g.b f ∷ multiple_of (neg_ℤ f.b) g ∷ [] | true ↦ multiple_of g.c f ∷ multiple_of (neg_ℤ f.c) g ∷ [] ]
    ]) ≡ f ∷ g ∷ []) [
      | false ↦ refl
      | true ↦ elim (is_zero f.b) as (λ b. half_spaces_of (elim b [ false ↦ multiple_of g.b f ∷ multiple_of (neg_ℤ f.b) g ∷ [] | true ↦ multiple_of g.c f ∷ multiple_of (neg_ℤ f.c) g ∷ [] ]) ≡ f ∷ g ∷ []) [ false ↦ refl | true ↦ refl ]
    ]

-- two half-spaces with independent normals do not refute
pub two_not_parallel : (strict : Bool) (f g : HalfSpace) → are_parallel f g ≡ false → refutation_of_two strict f g ≡ None
unfolding refutation_of_two
two_not_parallel strict f g n =
    let us = normal_terms (minors_of_two f g) in
    not_given strict us (λ e. false_not_true (are_parallel f g) (parallel_of strict us f g (half_spaces_of-normal (minors_of_two f g) ∙ two_halves f g) e) n)

-- ---- three half-spaces
-- a multiple of a determinant, by the sums
weight_scaled : (l m n fa fb fc ga gb gc ha hb hc : ℤ) → l *ℤ (fa *ℤ (gb *ℤ hc -ℤ gc *ℤ hb) -ℤ ga *ℤ (fb *ℤ hc -ℤ fc *ℤ hb) +ℤ ha *ℤ (fb *ℤ gc -ℤ fc *ℤ gb))
    ≡ (l *ℤ fa +ℤ (m *ℤ ga +ℤ (n *ℤ ha +ℤ pos 0))) *ℤ (gb *ℤ hc -ℤ gc *ℤ hb) -ℤ (l *ℤ fb +ℤ (m *ℤ gb +ℤ (n *ℤ hb +ℤ pos 0))) *ℤ (ga *ℤ hc -ℤ gc *ℤ ha) +ℤ (l *ℤ fc +ℤ (m *ℤ gc +ℤ (n *ℤ hc +ℤ pos 0))) *ℤ (ga *ℤ hb -ℤ gb *ℤ ha)
weight_scaled l m n fa fb fc ga gb gc ha hb hc =
    by_ring_at (l ∷ m ∷ n ∷ fa ∷ fb ∷ fc ∷ ga ∷ gb ∷ gc ∷ ha ∷ hb ∷ hc ∷ []) (search reify depth 40 fits 100000) tt

-- nothing by the sums
weight_none : (l x y z : ℤ) → pos 0 *ℤ x -ℤ pos 0 *ℤ y +ℤ pos 0 *ℤ z ≡ l *ℤ pos 0
weight_none l x y z = by_ring_at (l ∷ x ∷ y ∷ z ∷ []) (search reify depth 40 fits 100000) tt

-- three terms that refute have dependent normals
dependent : (strict : Bool) (t u v : Multiple) → is_refutation strict (t ∷ u ∷ v ∷ []) ≡ true → meeting_weight t.of u.of v.of ≡ pos 0
dependent strict t u v e =
    let b = balance_of strict (t ∷ u ∷ v ∷ []) e in
    let p = first_above strict t (u ∷ v ∷ []) e in
    let x = det2 u.of.b u.of.c v.of.b v.of.c in
    let y = det2 u.of.a u.of.c v.of.a v.of.c in
    let z = det2 u.of.a u.of.b v.of.a v.of.b in
    cancel_mul_left_ℤ t.factor (meeting_weight t.of u.of v.of) (pos 0) p
    (weight_scaled t.factor u.factor v.factor t.of.a t.of.b t.of.c u.of.a u.of.b u.of.c v.of.a v.of.b v.of.c ∙ (λ i. b.a i *ℤ x -ℤ b.b i *ℤ y +ℤ b.c i *ℤ z) ∙ weight_none t.factor x y z)

-- so have terms of three half-spaces
dependent_of : (strict : Bool) (us : List Multiple) (f g h : HalfSpace) → half_spaces_of us ≡ f ∷ g ∷ h ∷ [] → is_refutation strict us ≡ true → meeting_weight f g h ≡ pos 0
dependent_of strict [] f g h same e = absurd (cc)
dependent_of strict (t ∷ []) f g h same e = absurd (cc)
dependent_of strict (t ∷ u ∷ []) f g h same e = absurd (cc)
dependent_of strict (t ∷ u ∷ v ∷ []) f g h same e =
    let first : t.of ≡ f = cc in
    let second : u.of ≡ g = cc in
    let third : v.of ≡ h = cc in
    (λ i. meeting_weight (sym first i) (sym second i) (sym third i)) ∙ dependent strict t u v e
dependent_of strict (t ∷ u ∷ v ∷ w ∷ ws) f g h same e = absurd (cc)

-- three half-spaces with independent normals do not refute
pub three_independent : (strict : Bool) (f g h : HalfSpace) → (meeting_weight f g h ≡ pos 0 → ⊥) → refutation_of_three strict f g h ≡ None
unfolding refutation_of_three
three_independent strict f g h n =
    let us = normal_terms (minors_of_three f g h) in
    not_given strict us (λ e. n (dependent_of strict us f g h (half_spaces_of-normal (minors_of_three f g h) ∙ sym (ap half_spaces_of (three_minors f g h))) e))

-- ---- in any order

-- the number is 0 where its negative is
opposite_zero : (v w : ℤ) → w ≡ neg_ℤ v → w ≡ pos 0 → v ≡ pos 0
opposite_zero v w e z = omega (arith, ints, e, z)

-- three half-spaces with independent normals do not refute in any order
pub none_of_three : (strict : Bool) (k : HalfSpace) (p q : Placed) → (meeting_weight k p.half q.half ≡ pos 0 → ⊥) → three_in_order (refutation_of_three strict) k p q ≡ None
none_of_three strict k p q n =
    elim (p.before) as (λ b. elim b [ true ↦ two_in_order (refutation_of_three strict p.half) k q | false ↦ refutation_of_three strict k p.half q.half ] ≡ None) [
      | true ↦ elim (q.before) as (λ b. elim b [ true ↦ refutation_of_three strict p.half q.half k | false ↦ refutation_of_three strict p.half k q.half ] ≡ None) [
        | true ↦ three_independent strict p.half q.half k (λ z. n (sym (weight_turned k p.half q.half) ∙ z))
        | false ↦ three_independent strict p.half k q.half (λ z. n (opposite_zero (meeting_weight k p.half q.half) (meeting_weight p.half k q.half) (weight_exchanged k p.half q.half) z))
      ]
      | false ↦ three_independent strict k p.half q.half n
    ]
