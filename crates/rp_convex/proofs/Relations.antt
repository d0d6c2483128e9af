-- Relations between the first three coefficients of two, three and four half-spaces: the signed minors.
use Rattle.std.proofs.Common.{◌≡◌, ℤ, pos, negsuc, neg_ℤ, ◌+ℤ◌, ◌-ℤ◌, ◌*ℤ◌, Bool, true, false, List, [], ◌∷◌, ◌⊎◌, inl, inr, ⊎_elim, refl}
use Rattle.rp_algebra.specs.Integer.{is_zero}
use Rattle.rp_geometry.specs.Geometry.{HalfSpace}
use Rattle.rp_geometry.specs.searches.Certificate.{Multiple}
use Rattle.rp_geometry.specs.searches.Vertex.{det2, det3, meeting_weight}
use Rattle.std.specs.List.{AllByRecursion}
use Rattle.rp_geometry.specs.searches.Elimination.{half_spaces_of, multiple_of, minors_on_axes, minors_of_two, minors_of_three, minors_of_four}
use Rattle.rp_algebra.specs.Within.{IsWithin}
use Rattle.rp_algebra.proofs.Reify.{by_ring_at, eq_by_ring, reify, zeros}
use Rattle.rp_algebra.proofs.Numbers.{zero_or_not, neg_not_zero, opposite_within}
use Rattle.rp_algebra.proofs.Tests.{is_zero_true, is_zero_false}
use Rattle.rp_algebra.proofs.Machine.{within_by, code}
use Rattle.rp_convex.proofs.Combination.{IsSmall, greatest_minor}

-- ---- which half-spaces depend on each other
-- the first three coefficients are 0
pub record IsFlat (f : HalfSpace) : Type 0 where
  pub a : f.a ≡ pos 0
  pub b : f.b ≡ pos 0
  pub c : f.c ≡ pos 0

-- the minors of second order vanish
pub record AreParallel (f g : HalfSpace) : Type 0 where
  pub ab : det2 f.a f.b g.a g.b ≡ pos 0
  pub ac : det2 f.a f.c g.a g.c ≡ pos 0
  pub bc : det2 f.b f.c g.b g.c ≡ pos 0

-- a half-space is flat or not
pub flat_or_not : (f : HalfSpace) → IsFlat f ⊎ (IsFlat f → ⊥)
flat_or_not f =
    ⊎_elim
    (λ a. ⊎_elim
    (λ b. ⊎_elim (λ c. inl (record { a = a; b = b; c = c })) (λ n. inr (λ h. n h.c)) (zero_or_not f.c))
    (λ n. inr (λ h. n h.b)) (zero_or_not f.b))
    (λ n. inr (λ h. n h.a)) (zero_or_not f.a)

-- two half-spaces are parallel or not
pub parallel_or_not : (f g : HalfSpace) → AreParallel f g ⊎ (AreParallel f g → ⊥)
parallel_or_not f g =
    ⊎_elim
    (λ ab. ⊎_elim
    (λ ac. ⊎_elim (λ bc. inl (record { ab = ab; ac = ac; bc = bc })) (λ n. inr (λ h. n h.bc)) (zero_or_not (det2 f.b f.c g.b g.c)))
    (λ n. inr (λ h. n h.ac)) (zero_or_not (det2 f.a f.c g.a g.c)))
    (λ n. inr (λ h. n h.ab)) (zero_or_not (det2 f.a f.b g.a g.b))

-- ---- two half-spaces
-- the two factors of `minors_of_two` cancel the coefficients
pub record Two (f g : HalfSpace) : Type 0 where
  pub m : ℤ
  pub n : ℤ
  pub is : minors_of_two f g ≡ multiple_of m f ∷ multiple_of n g ∷ []
  pub a : m *ℤ f.a +ℤ (n *ℤ g.a +ℤ pos 0) ≡ pos 0
  pub b : m *ℤ f.b +ℤ (n *ℤ g.b +ℤ pos 0) ≡ pos 0
  pub c : m *ℤ f.c +ℤ (n *ℤ g.c +ℤ pos 0) ≡ pos 0
  pub last : n ≡ pos 0 → ⊥
  pub m_small : IsWithin greatest_minor m
  pub n_small : IsWithin greatest_minor n

-- on its own axis the factors cancel
own_axis : (x y : ℤ) → y *ℤ x +ℤ (neg_ℤ x *ℤ y +ℤ pos 0) ≡ pos 0
own_axis x y = by_ring_at (x ∷ y ∷ []) (search reify depth 40 fits 100000) tt

-- on the next axis
next_axis : (x y u v : ℤ) → det2 x u y v ≡ pos 0 → y *ℤ u +ℤ (neg_ℤ x *ℤ v +ℤ pos 0) ≡ pos 0
next_axis x y u v e =
    let z : negsuc 0 *ℤ (det2 x u y v -ℤ pos 0) ≡ pos 0 = search zeros in
    eq_by_ring (x ∷ y ∷ u ∷ v ∷ []) z (search reify depth 40 fits 100000) tt

-- on the axis before
last_axis : (x y u v : ℤ) → det2 u x v y ≡ pos 0 → y *ℤ u +ℤ (neg_ℤ x *ℤ v +ℤ pos 0) ≡ pos 0
last_axis x y u v e =
    let z : pos 1 *ℤ (det2 u x v y -ℤ pos 0) ≡ pos 0 = search zeros in
    eq_by_ring (x ∷ y ∷ u ∷ v ∷ []) z (search reify depth 40 fits 100000) tt

-- a coefficient is small
small_coefficient : (x : ℤ) → IsWithin 16777216 x → IsWithin greatest_minor x
small_coefficient x h = within_by (search code depth 30 fits 100000) tt

-- so is its negative
small_negated : (x : ℤ) → IsWithin 16777216 x → IsWithin greatest_minor (neg_ℤ x)
small_negated x h = within_by (search code depth 30 fits 100000) tt

-- the choice of `minors_of_two` by its two tests
abbrev pub two_by : Bool → Bool → HalfSpace → HalfSpace → List Multiple
two_by s t f g =
    elim s [
      | false ↦ multiple_of g.a f ∷ multiple_of (neg_ℤ f.a) g ∷ []
      | true ↦ elim t [
        | false ↦ multiple_of g.b f ∷ multiple_of (neg_ℤ f.b) g ∷ []
        | true ↦ multiple_of g.c f ∷ multiple_of (neg_ℤ f.c) g ∷ []
      ]
    ]

-- two parallel half-spaces, of which the first is not flat
pub two : (f g : HalfSpace) → IsSmall f → IsSmall g → (IsFlat f → ⊥) → AreParallel f g → Two f g
two f g sf sg n p =
    ⊎_elim
    (λ a. ⊎_elim
    (λ b. ⊎_elim
    (λ c. absurd (n (record { a = a; b = b; c = c })))
    (λ nc. let ta = is_zero_true f.a a in let tb = is_zero_true f.b b in record {
      m = g.c;
      n = neg_ℤ f.c;
      is = λ i. two_by (ta i) (tb i) f g;
      a = last_axis f.c g.c f.a g.a p.ac;
      b = last_axis f.c g.c f.b g.b p.bc;
      c = own_axis f.c g.c;
      last = neg_not_zero f.c nc;
      m_small = small_coefficient g.c sg.c;
      n_small = small_negated f.c sf.c;
    })
    (zero_or_not f.c))
    (λ nb. let ta = is_zero_true f.a a in let tb = is_zero_false f.b nb in record {
      m = g.b;
      n = neg_ℤ f.b;
      is = λ i. two_by (ta i) (tb i) f g;
      a = last_axis f.b g.b f.a g.a p.ab;
      b = own_axis f.b g.b;
      c = next_axis f.b g.b f.c g.c p.bc;
      last = neg_not_zero f.b nb;
      m_small = small_coefficient g.b sg.b;
      n_small = small_negated f.b sf.b;
    })
    (zero_or_not f.b))
    (λ na. let ta = is_zero_false f.a na in record {
      m = g.a;
      n = neg_ℤ f.a;
      is = λ i. two_by (ta i) (is_zero f.b) f g;
      a = own_axis f.a g.a;
      b = next_axis f.a g.a f.b g.b p.ab;
      c = next_axis f.a g.a f.c g.c p.ac;
      last = neg_not_zero f.a na;
      m_small = small_coefficient g.a sg.a;
      n_small = small_negated f.a sf.a;
    })
    (zero_or_not f.a)

-- ---- three half-spaces
-- the three factors of `minors_of_three` cancel the coefficients
pub record Three (f g h : HalfSpace) : Type 0 where
  pub l : ℤ
  pub m : ℤ
  pub n : ℤ
  pub is : minors_of_three f g h ≡ multiple_of l f ∷ multiple_of m g ∷ multiple_of n h ∷ []
  pub a : l *ℤ f.a +ℤ (m *ℤ g.a +ℤ (n *ℤ h.a +ℤ pos 0)) ≡ pos 0
  pub b : l *ℤ f.b +ℤ (m *ℤ g.b +ℤ (n *ℤ h.b +ℤ pos 0)) ≡ pos 0
  pub c : l *ℤ f.c +ℤ (m *ℤ g.c +ℤ (n *ℤ h.c +ℤ pos 0)) ≡ pos 0
  pub last : n ≡ pos 0 → ⊥
  pub l_small : IsWithin greatest_minor l
  pub m_small : IsWithin greatest_minor m
  pub n_small : IsWithin greatest_minor n

-- the sum on the first of two axes
first_of_axes : (u v w s x y : ℤ) → det2 w s x y *ℤ u +ℤ (neg_ℤ (det2 u v x y) *ℤ w +ℤ (det2 u v w s *ℤ x +ℤ pos 0)) ≡ pos 0
first_of_axes u v w s x y = by_ring_at (u ∷ v ∷ w ∷ s ∷ x ∷ y ∷ []) (search reify depth 40 fits 100000) tt

-- the sum on the second
second_of_axes : (u v w s x y : ℤ) → det2 w s x y *ℤ v +ℤ (neg_ℤ (det2 u v x y) *ℤ s +ℤ (det2 u v w s *ℤ y +ℤ pos 0)) ≡ pos 0
second_of_axes u v w s x y = by_ring_at (u ∷ v ∷ w ∷ s ∷ x ∷ y ∷ []) (search reify depth 40 fits 100000) tt

-- the sum on the axis of x, by minors on the others
axis_a : (a b c d e f g h i : ℤ) → det3 a b c d e f g h i ≡ pos 0 → det2 e f h i *ℤ a +ℤ (neg_ℤ (det2 b c h i) *ℤ d +ℤ (det2 b c e f *ℤ g +ℤ pos 0)) ≡ pos 0
axis_a a b c d e f g h i z =
    let w : pos 1 *ℤ (det3 a b c d e f g h i -ℤ pos 0) ≡ pos 0 = search zeros in
    eq_by_ring (a ∷ b ∷ c ∷ d ∷ e ∷ f ∷ g ∷ h ∷ i ∷ []) w (search reify depth 40 fits 100000) tt

-- the sum on the axis of y
axis_b : (a b c d e f g h i : ℤ) → det3 a b c d e f g h i ≡ pos 0 → det2 d f g i *ℤ b +ℤ (neg_ℤ (det2 a c g i) *ℤ e +ℤ (det2 a c d f *ℤ h +ℤ pos 0)) ≡ pos 0
axis_b a b c d e f g h i z =
    let w : negsuc 0 *ℤ (det3 a b c d e f g h i -ℤ pos 0) ≡ pos 0 = search zeros in
    eq_by_ring (a ∷ b ∷ c ∷ d ∷ e ∷ f ∷ g ∷ h ∷ i ∷ []) w (search reify depth 40 fits 100000) tt

-- the sum on the axis of z
axis_c : (a b c d e f g h i : ℤ) → det3 a b c d e f g h i ≡ pos 0 → det2 d e g h *ℤ c +ℤ (neg_ℤ (det2 a b g h) *ℤ f +ℤ (det2 a b d e *ℤ i +ℤ pos 0)) ≡ pos 0
axis_c a b c d e f g h i z =
    let w : pos 1 *ℤ (det3 a b c d e f g h i -ℤ pos 0) ≡ pos 0 = search zeros in
    eq_by_ring (a ∷ b ∷ c ∷ d ∷ e ∷ f ∷ g ∷ h ∷ i ∷ []) w (search reify depth 40 fits 100000) tt

-- a minor of second order is small
small_det2 : (x y u v : ℤ) → IsWithin 16777216 x → IsWithin 16777216 y → IsWithin 16777216 u → IsWithin 16777216 v → IsWithin greatest_minor (det2 x y u v)
small_det2 x y u v hx hy hu hv = within_by (search code depth 30 fits 100000) tt

-- so is its negative
small_det2_negated : (x y u v : ℤ) → IsWithin 16777216 x → IsWithin 16777216 y → IsWithin 16777216 u → IsWithin 16777216 v → IsWithin greatest_minor (neg_ℤ (det2 x y u v))
small_det2_negated x y u v hx hy hu hv = within_by (search code depth 30 fits 100000) tt

-- the choice of `minors_of_three` by its two tests
abbrev pub three_by : Bool → Bool → HalfSpace → HalfSpace → HalfSpace → List Multiple
three_by s t f g h =
    elim s [
      | false ↦ minors_on_axes f g h (λ k. k.a) (λ k. k.b)
      | true ↦ elim t [
        | false ↦ minors_on_axes f g h (λ k. k.a) (λ k. k.c)
        | true ↦ minors_on_axes f g h (λ k. k.b) (λ k. k.c)
      ]
    ]

-- three half-spaces with the determinant 0, of which the first two are not parallel
pub three : (f g h : HalfSpace) → IsSmall f → IsSmall g → IsSmall h → (AreParallel f g → ⊥) → meeting_weight f g h ≡ pos 0 → Three f g h
three f g h sf sg sh p z =
    ⊎_elim
    (λ ab. ⊎_elim
    (λ ac. ⊎_elim
    (λ bc. absurd (p (record { ab = ab; ac = ac; bc = bc })))
    (λ nbc. let t = is_zero_true (det2 f.a f.b g.a g.b) ab in let u = is_zero_true (det2 f.a f.c g.a g.c) ac in record {
      l = det2 g.b g.c h.b h.c;
      m = neg_ℤ (det2 f.b f.c h.b h.c);
      n = det2 f.b f.c g.b g.c;
      is = λ i. three_by (t i) (u i) f g h;
      a = axis_a f.a f.b f.c g.a g.b g.c h.a h.b h.c z;
      b = first_of_axes f.b f.c g.b g.c h.b h.c;
      c = second_of_axes f.b f.c g.b g.c h.b h.c;
      last = nbc;
      l_small = small_det2 g.b g.c h.b h.c sg.b sg.c sh.b sh.c;
      m_small = small_det2_negated f.b f.c h.b h.c sf.b sf.c sh.b sh.c;
      n_small = small_det2 f.b f.c g.b g.c sf.b sf.c sg.b sg.c;
    })
    (zero_or_not (det2 f.b f.c g.b g.c)))
    (λ nac. let t = is_zero_true (det2 f.a f.b g.a g.b) ab in let u = is_zero_false (det2 f.a f.c g.a g.c) nac in record {
      l = det2 g.a g.c h.a h.c;
      m = neg_ℤ (det2 f.a f.c h.a h.c);
      n = det2 f.a f.c g.a g.c;
      is = λ i. three_by (t i) (u i) f g h;
      a = first_of_axes f.a f.c g.a g.c h.a h.c;
      b = axis_b f.a f.b f.c g.a g.b g.c h.a h.b h.c z;
      c = second_of_axes f.a f.c g.a g.c h.a h.c;
      last = nac;
      l_small = small_det2 g.a g.c h.a h.c sg.a sg.c sh.a sh.c;
      m_small = small_det2_negated f.a f.c h.a h.c sf.a sf.c sh.a sh.c;
      n_small = small_det2 f.a f.c g.a g.c sf.a sf.c sg.a sg.c;
    })
    (zero_or_not (det2 f.a f.c g.a g.c)))
    (λ nab. let t = is_zero_false (det2 f.a f.b g.a g.b) nab in record {
      l = det2 g.a g.b h.a h.b;
      m = neg_ℤ (det2 f.a f.b h.a h.b);
      n = det2 f.a f.b g.a g.b;
      is = λ i. three_by (t i) (is_zero (det2 f.a f.c g.a g.c)) f g h;
      a = first_of_axes f.a f.b g.a g.b h.a h.b;
      b = second_of_axes f.a f.b g.a g.b h.a h.b;
      c = axis_c f.a f.b f.c g.a g.b g.c h.a h.b h.c z;
      last = nab;
      l_small = small_det2 g.a g.b h.a h.b sg.a sg.b sh.a sh.b;
      m_small = small_det2_negated f.a f.b h.a h.b sf.a sf.b sh.a sh.b;
      n_small = small_det2 f.a f.b g.a g.b sf.a sf.b sg.a sg.b;
    })
    (zero_or_not (det2 f.a f.b g.a g.b))

-- ---- four half-spaces
-- the four factors of `minors_of_four` cancel the coefficients
pub record Four (e f g h : HalfSpace) : Type 0 where
  pub k : ℤ
  pub l : ℤ
  pub m : ℤ
  pub n : ℤ
  pub is : minors_of_four e f g h ≡ multiple_of k e ∷ multiple_of l f ∷ multiple_of m g ∷ multiple_of n h ∷ []
  pub a : k *ℤ e.a +ℤ (l *ℤ f.a +ℤ (m *ℤ g.a +ℤ (n *ℤ h.a +ℤ pos 0))) ≡ pos 0
  pub b : k *ℤ e.b +ℤ (l *ℤ f.b +ℤ (m *ℤ g.b +ℤ (n *ℤ h.b +ℤ pos 0))) ≡ pos 0
  pub c : k *ℤ e.c +ℤ (l *ℤ f.c +ℤ (m *ℤ g.c +ℤ (n *ℤ h.c +ℤ pos 0))) ≡ pos 0
  pub last : n ≡ pos 0 → ⊥
  pub k_small : IsWithin greatest_minor k
  pub l_small : IsWithin greatest_minor l
  pub m_small : IsWithin greatest_minor m
  pub n_small : IsWithin greatest_minor n

module _ (ea eb ec fa fb fc ga gb gc ha hb hc : ℤ) where
  -- the sum of the first coefficients
  first_sum : det3 fa fb fc ga gb gc ha hb hc *ℤ ea +ℤ (neg_ℤ (det3 ea eb ec ga gb gc ha hb hc) *ℤ fa +ℤ (det3 ea eb ec fa fb fc ha hb hc *ℤ ga +ℤ (neg_ℤ (det3 ea eb ec fa fb fc ga gb gc) *ℤ ha +ℤ pos 0))) ≡ pos 0
  first_sum = by_ring_at (ea ∷ eb ∷ ec ∷ fa ∷ fb ∷ fc ∷ ga ∷ gb ∷ gc ∷ ha ∷ hb ∷ hc ∷ []) (search reify depth 40 fits 100000) tt

  -- the sum of the second coefficients
  second_sum : det3 fa fb fc ga gb gc ha hb hc *ℤ eb +ℤ (neg_ℤ (det3 ea eb ec ga gb gc ha hb hc) *ℤ fb +ℤ (det3 ea eb ec fa fb fc ha hb hc *ℤ gb +ℤ (neg_ℤ (det3 ea eb ec fa fb fc ga gb gc) *ℤ hb +ℤ pos 0))) ≡ pos 0
  second_sum = by_ring_at (ea ∷ eb ∷ ec ∷ fa ∷ fb ∷ fc ∷ ga ∷ gb ∷ gc ∷ ha ∷ hb ∷ hc ∷ []) (search reify depth 40 fits 100000) tt

  -- the sum of the third coefficients
  third_sum : det3 fa fb fc ga gb gc ha hb hc *ℤ ec +ℤ (neg_ℤ (det3 ea eb ec ga gb gc ha hb hc) *ℤ fc +ℤ (det3 ea eb ec fa fb fc ha hb hc *ℤ gc +ℤ (neg_ℤ (det3 ea eb ec fa fb fc ga gb gc) *ℤ hc +ℤ pos 0))) ≡ pos 0
  third_sum = by_ring_at (ea ∷ eb ∷ ec ∷ fa ∷ fb ∷ fc ∷ ga ∷ gb ∷ gc ∷ ha ∷ hb ∷ hc ∷ []) (search reify depth 40 fits 100000) tt

-- a determinant is small
small_weight : (f g h : HalfSpace) → IsSmall f → IsSmall g → IsSmall h → IsWithin greatest_minor (meeting_weight f g h)
small_weight f g h sf sg sh = small_det3 f.a f.b f.c g.a g.b g.c h.a h.b h.c sf.a sf.b sf.c sg.a sg.b sg.c sh.a sh.b sh.c
  where
    small_det3 : (a b c d e f g h i : ℤ) → IsWithin 16777216 a → IsWithin 16777216 b → IsWithin 16777216 c → IsWithin 16777216 d → IsWithin 16777216 e → IsWithin 16777216 f → IsWithin 16777216 g → IsWithin 16777216 h → IsWithin 16777216 i → IsWithin greatest_minor (det3 a b c d e f g h i)
    small_det3 a b c d e f g h i ha hb hc hd he hf hg hh hi = within_by (search code depth 30 fits 100000) tt

-- four half-spaces, of which the first three are independent
pub four : (e f g h : HalfSpace) → IsSmall e → IsSmall f → IsSmall g → IsSmall h → (meeting_weight e f g ≡ pos 0 → ⊥) → Four e f g h
four e f g h se sf sg sh n = record {
  k = meeting_weight f g h;
  l = neg_ℤ (meeting_weight e g h);
  m = meeting_weight e f h;
  n = neg_ℤ (meeting_weight e f g);
  is = refl;
  a = first_sum e.a e.b e.c f.a f.b f.c g.a g.b g.c h.a h.b h.c;
  b = second_sum e.a e.b e.c f.a f.b f.c g.a g.b g.c h.a h.b h.c;
  c = third_sum e.a e.b e.c f.a f.b f.c g.a g.b g.c h.a h.b h.c;
  last = neg_not_zero (meeting_weight e f g) n;
  k_small = small_weight f g h sf sg sh;
  l_small = opposite_within greatest_minor (meeting_weight e g h) (small_weight e g h se sg sh);
  m_small = small_weight e f h se sf sh;
  n_small = opposite_within greatest_minor (meeting_weight e f g) (small_weight e f g se sf sg);
}

-- ---- the factors are small in any case, and their half-spaces are the given ones
-- 1 is small
pub small_unit : IsWithin greatest_minor (pos 1)
small_unit = within_by (search code depth 30 fits 100000) tt

-- terms of these half-spaces with small factors
abbrev pub AreSmallTermsOf : List HalfSpace → List Multiple → Type 0
AreSmallTermsOf hs ts = (half_spaces_of ts ≡ hs) × AllByRecursion (λ t. IsWithin greatest_minor t.factor) ts

-- the choice for two has small factors
two_by-small : (s t : Bool) (f g : HalfSpace) → IsSmall f → IsSmall g → AreSmallTermsOf (f ∷ g ∷ []) (two_by s t f g)
two_by-small false t f g sf sg = (refl, (small_coefficient g.a sg.a, (small_negated f.a sf.a, tt)))
two_by-small true false f g sf sg = (refl, (small_coefficient g.b sg.b, (small_negated f.b sf.b, tt)))
two_by-small true true f g sf sg = (refl, (small_coefficient g.c sg.c, (small_negated f.c sf.c, tt)))

-- so have the minors of two
pub minors_of_two-small : (f g : HalfSpace) → IsSmall f → IsSmall g → AreSmallTermsOf (f ∷ g ∷ []) (minors_of_two f g)
minors_of_two-small f g sf sg = two_by-small (is_zero f.a) (is_zero f.b) f g sf sg

-- the choice for three has small factors
three_by-small : (s t : Bool) (f g h : HalfSpace) → IsSmall f → IsSmall g → IsSmall h → AreSmallTermsOf (f ∷ g ∷ h ∷ []) (three_by s t f g h)
three_by-small false t f g h sf sg sh = (refl, (small_det2 g.a g.b h.a h.b sg.a sg.b sh.a sh.b, (small_det2_negated f.a f.b h.a h.b sf.a sf.b sh.a sh.b, (small_det2 f.a f.b g.a g.b sf.a sf.b sg.a sg.b, tt))))
three_by-small true false f g h sf sg sh = (refl, (small_det2 g.a g.c h.a h.c sg.a sg.c sh.a sh.c, (small_det2_negated f.a f.c h.a h.c sf.a sf.c sh.a sh.c, (small_det2 f.a f.c g.a g.c sf.a sf.c sg.a sg.c, tt))))
three_by-small true true f g h sf sg sh = (refl, (small_det2 g.b g.c h.b h.c sg.b sg.c sh.b sh.c, (small_det2_negated f.b f.c h.b h.c sf.b sf.c sh.b sh.c, (small_det2 f.b f.c g.b g.c sf.b sf.c sg.b sg.c, tt))))

-- so have the minors of three
pub minors_of_three-small : (f g h : HalfSpace) → IsSmall f → IsSmall g → IsSmall h → AreSmallTermsOf (f ∷ g ∷ h ∷ []) (minors_of_three f g h)
minors_of_three-small f g h sf sg sh = three_by-small (is_zero (det2 f.a f.b g.a g.b)) (is_zero (det2 f.a f.c g.a g.c)) f g h sf sg sh

-- so have the minors of four
pub minors_of_four-small : (e f g h : HalfSpace) → IsSmall e → IsSmall f → IsSmall g → IsSmall h → AllByRecursion (λ t. IsWithin greatest_minor t.factor) (minors_of_four e f g h)
minors_of_four-small e f g h se sf sg sh =
    (small_weight f g h sf sg sh, (opposite_within greatest_minor (meeting_weight e g h) (small_weight e g h se sg sh), (small_weight e f h se sf sh, (opposite_within greatest_minor (meeting_weight e f g) (small_weight e f g se sf sg), tt))))
