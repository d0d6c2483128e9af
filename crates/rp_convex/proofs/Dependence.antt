-- Each contradiction has a relation of its first half-spaces, by minors: of the first that depends on those before it.
use Rattle.std.proofs.Common.{◌≡◌, ℤ, pos, neg_ℤ, ◌+ℤ◌, ◌-ℤ◌, ◌*ℤ◌, ◌<ℤ◌, List, [], ◌∷◌, ⊎_elim, refl, sym, ap, ◌∙◌, arith}
use Rattle.std.specs.List.{AllByRecursion}
use Rattle.std.proofs.lemmas.Int.{ints}
use Rattle.rp_geometry.specs.Geometry.{HalfSpace}
use Rattle.rp_geometry.specs.searches.Certificate.{Multiple, weighted_sum}
use Rattle.rp_geometry.specs.searches.Vertex.{det2, det3, meeting_weight}
use Rattle.rp_geometry.specs.searches.Elimination.{multiple_of, half_spaces_of}
use Rattle.rp_algebra.specs.Within.{IsWithin}
use Rattle.rp_algebra.proofs.Reify.{by_ring_at, eq_by_multiple, reify, zeros}
use Rattle.rp_algebra.proofs.Numbers.{zero_or_not, one_not_zero, not_below_itself}
use Rattle.rp_algebra.proofs.Machine.{within_by, code}
use Rattle.rp_convex.proofs.Combination.{IsSmall, greatest_minor, ArePositive, IsCandidate}
use Rattle.rp_convex.proofs.Relations.{IsFlat, AreParallel, Two, Three, Four, two, three, four, flat_or_not, parallel_or_not, small_unit}
use Rattle.rp_convex.proofs.Leaning.{Leaning, kept, leaned, turned, KeepsPositive}
use Rattle.rp_convex.proofs.Settle.{LeansAllUp, LeansAllDown}

-- a half-space with its two factors
abbrev leaning : ℤ → ℤ → HalfSpace → Leaning
leaning k l h = record { keep = k; lean = l; of = h }

-- terms that are not in the relation
abbrev still : List Multiple → List Leaning
still [] = []
still (t ∷ ts) = leaning t.factor (pos 0) t.of ∷ still ts

-- their sum is that of the terms
kept-still : (ts : List Multiple) → kept (still ts) ≡ ts
kept-still [] = refl
kept-still (t ∷ ts) = ap (λ us. t ∷ us) (kept-still ts)

-- their factors in the sum are positive
keeps_still : (ts : List Multiple) → ArePositive ts → KeepsPositive (still ts)
keeps_still [] h = tt
keeps_still (t ∷ ts) h = (h.0, keeps_still ts h.1)

-- a multiple by 0 adds nothing
still_more : (f s : ℤ) → pos 0 *ℤ f +ℤ s ≡ s
still_more f s = by_ring_at (f ∷ s ∷ []) (search reify depth 40 fits 100000) tt

-- they add nothing to the relation
weighted_sum-still : (F : HalfSpace → ℤ) (ts : List Multiple) → pos 0 ≡ weighted_sum F (leaned (still ts))
weighted_sum-still F [] = refl
weighted_sum-still F (t ∷ ts) = weighted_sum-still F ts ∙ sym (still_more (F t.of) (weighted_sum F (leaned (still ts))))

-- every factor of the relation is small
abbrev pub AreLeansSmall : List Leaning → Type 0
AreLeansSmall es = AllByRecursion (λ e. IsWithin greatest_minor e.lean) es

-- 0 is small
small_zero : IsWithin greatest_minor (pos 0)
small_zero = within_by (search code depth 30 fits 100000) tt

-- their factors in the relation are small
small_still : (ts : List Multiple) → AreLeansSmall (still ts)
small_still [] = tt
small_still (t ∷ ts) = (small_zero, small_still ts)

-- a relation of the half-spaces of the terms, whose terms are candidates where they all have one sign
pub record Dependence (ts : List Multiple) : Type 0 where
  pub es : List Leaning
  pub same : kept es ≡ ts
  pub keeps : KeepsPositive es
  pub a : weighted_sum (λ h. h.a) (leaned es) ≡ pos 0
  pub b : weighted_sum (λ h. h.b) (leaned es) ≡ pos 0
  pub c : weighted_sum (λ h. h.c) (leaned es) ≡ pos 0
  pub some : AllByRecursion (λ e. e.lean ≡ pos 0) es → ⊥
  pub small : AreLeansSmall es
  pub up : LeansAllUp es → IsCandidate (leaned es)
  pub down : LeansAllDown es → IsCandidate (leaned (turned es))

-- a flat half-space is a candidate where no other term leans
one_up : (h : HalfSpace) (k : ℤ) (ts : List Multiple) → LeansAllUp (leaning k (pos 1) h ∷ still ts) → IsCandidate (multiple_of (pos 1) h ∷ leaned (still ts))
one_up h k [] u = IsCandidate.one h
one_up h k (t ∷ ts) u = absurd (not_below_itself (pos 0) u.1.0)

-- 1 is not below 0
one_not_down : pos 1 <ℤ pos 0 → ⊥
one_not_down h = omega (arith, ints, h)

-- a multiple of 0 and a sum that is 0
one_sum : (x z : ℤ) → x ≡ pos 0 → pos 0 ≡ z → pos 1 *ℤ x +ℤ z ≡ pos 0
one_sum x z e f = (λ i. pos 1 *ℤ e i +ℤ sym f i)

-- where the first half-space is flat
of_one : (t : Multiple) (ts : List Multiple) → ArePositive (t ∷ ts) → IsFlat t.of → Dependence (t ∷ ts)
of_one t ts p f = record {
  es = leaning t.factor (pos 1) t.of ∷ still ts;
  same = ap (λ us. t ∷ us) (kept-still ts);
  keeps = (p.0, keeps_still ts p.1);
  a = one_sum t.of.a _ f.a (weighted_sum-still (λ h. h.a) ts);
  b = one_sum t.of.b _ f.b (weighted_sum-still (λ h. h.b) ts);
  c = one_sum t.of.c _ f.c (weighted_sum-still (λ h. h.c) ts);
  some = λ z. one_not_zero z.0;
  small = (small_unit, small_still ts);
  up = λ u. one_up t.of t.factor ts u;
  down = λ d. absurd (one_not_down d.0);
}

module _ (t u : Multiple) (ts : List Multiple) (p : ArePositive (t ∷ u ∷ ts)) (r : Two t.of u.of) where
  -- the terms with the factors of the first two
  abbrev leans_two : List Multiple → List Leaning
  leans_two us = leaning t.factor r.m t.of ∷ leaning u.factor r.n u.of ∷ still us

  -- they are a candidate where all lean up
  two_up : (us : List Multiple) → LeansAllUp (leans_two us) → IsCandidate (leaned (leans_two us))
  two_up [] h = IsCandidate.two t.of u.of r.m r.n r.is
  two_up (v ∷ us) h = absurd (not_below_itself (pos 0) h.1.1.0)

  -- their negatives are one where all lean down
  two_down : (us : List Multiple) → LeansAllDown (leans_two us) → IsCandidate (leaned (turned (leans_two us)))
  two_down [] h = IsCandidate.two_negated t.of u.of r.m r.n r.is
  two_down (v ∷ us) h = absurd (not_below_itself (pos 0) h.1.1.0)

  -- where the first two half-spaces are parallel
  of_two : Dependence (t ∷ u ∷ ts)
  of_two = record {
    es = leans_two ts;
    same = ap (λ us. t ∷ u ∷ us) (kept-still ts);
    keeps = (p.0, (p.1.0, keeps_still ts p.1.1));
    a = sym (ap (λ z. r.m *ℤ t.of.a +ℤ (r.n *ℤ u.of.a +ℤ z)) (weighted_sum-still (λ h. h.a) ts)) ∙ r.a;
    b = sym (ap (λ z. r.m *ℤ t.of.b +ℤ (r.n *ℤ u.of.b +ℤ z)) (weighted_sum-still (λ h. h.b) ts)) ∙ r.b;
    c = sym (ap (λ z. r.m *ℤ t.of.c +ℤ (r.n *ℤ u.of.c +ℤ z)) (weighted_sum-still (λ h. h.c) ts)) ∙ r.c;
    some = λ z. r.last z.1.0;
    small = (r.m_small, (r.n_small, small_still ts));
    up = λ h. two_up ts h;
    down = λ h. two_down ts h;
  }

module _ (t u v : Multiple) (ts : List Multiple) (p : ArePositive (t ∷ u ∷ v ∷ ts)) (r : Three t.of u.of v.of) where
  -- the terms with the factors of the first three
  abbrev leans_three : List Multiple → List Leaning
  leans_three us = leaning t.factor r.l t.of ∷ leaning u.factor r.m u.of ∷ leaning v.factor r.n v.of ∷ still us

  -- they are a candidate where all lean up
  three_up : (us : List Multiple) → LeansAllUp (leans_three us) → IsCandidate (leaned (leans_three us))
  three_up [] h = IsCandidate.three t.of u.of v.of r.l r.m r.n r.is
  three_up (w ∷ us) h = absurd (not_below_itself (pos 0) h.1.1.1.0)

  -- their negatives are one where all lean down
  three_down : (us : List Multiple) → LeansAllDown (leans_three us) → IsCandidate (leaned (turned (leans_three us)))
  three_down [] h = IsCandidate.three_negated t.of u.of v.of r.l r.m r.n r.is
  three_down (w ∷ us) h = absurd (not_below_itself (pos 0) h.1.1.1.0)

  -- where the first three half-spaces have the determinant 0
  of_three : Dependence (t ∷ u ∷ v ∷ ts)
  of_three = record {
    es = leans_three ts;
    same = ap (λ us. t ∷ u ∷ v ∷ us) (kept-still ts);
    keeps = (p.0, (p.1.0, (p.1.1.0, keeps_still ts p.1.1.1)));
    a = sym (ap (λ z. r.l *ℤ t.of.a +ℤ (r.m *ℤ u.of.a +ℤ (r.n *ℤ v.of.a +ℤ z))) (weighted_sum-still (λ h. h.a) ts)) ∙ r.a;
    b = sym (ap (λ z. r.l *ℤ t.of.b +ℤ (r.m *ℤ u.of.b +ℤ (r.n *ℤ v.of.b +ℤ z))) (weighted_sum-still (λ h. h.b) ts)) ∙ r.b;
    c = sym (ap (λ z. r.l *ℤ t.of.c +ℤ (r.m *ℤ u.of.c +ℤ (r.n *ℤ v.of.c +ℤ z))) (weighted_sum-still (λ h. h.c) ts)) ∙ r.c;
    some = λ z. r.last z.1.1.0;
    small = (r.l_small, (r.m_small, (r.n_small, small_still ts)));
    up = λ h. three_up ts h;
    down = λ h. three_down ts h;
  }

module _ (t u v w : Multiple) (ts : List Multiple) (p : ArePositive (t ∷ u ∷ v ∷ w ∷ ts)) (r : Four t.of u.of v.of w.of) where
  -- the terms with the factors of the first four
  abbrev leans_four : List Multiple → List Leaning
  leans_four us = leaning t.factor r.k t.of ∷ leaning u.factor r.l u.of ∷ leaning v.factor r.m v.of ∷ leaning w.factor r.n w.of ∷ still us

  -- they are a candidate where all lean up
  four_up : (us : List Multiple) → LeansAllUp (leans_four us) → IsCandidate (leaned (leans_four us))
  four_up [] h = IsCandidate.four t.of u.of v.of w.of r.k r.l r.m r.n r.is
  four_up (x ∷ us) h = absurd (not_below_itself (pos 0) h.1.1.1.1.0)

  -- their negatives are one where all lean down
  four_down : (us : List Multiple) → LeansAllDown (leans_four us) → IsCandidate (leaned (turned (leans_four us)))
  four_down [] h = IsCandidate.four_negated t.of u.of v.of w.of r.k r.l r.m r.n r.is
  four_down (x ∷ us) h = absurd (not_below_itself (pos 0) h.1.1.1.1.0)

  -- where the first three have another determinant
  of_four : Dependence (t ∷ u ∷ v ∷ w ∷ ts)
  of_four = record {
    es = leans_four ts;
    same = ap (λ us. t ∷ u ∷ v ∷ w ∷ us) (kept-still ts);
    keeps = (p.0, (p.1.0, (p.1.1.0, (p.1.1.1.0, keeps_still ts p.1.1.1.1))));
    a = sym (ap (λ z. r.k *ℤ t.of.a +ℤ (r.l *ℤ u.of.a +ℤ (r.m *ℤ v.of.a +ℤ (r.n *ℤ w.of.a +ℤ z)))) (weighted_sum-still (λ h. h.a) ts)) ∙ r.a;
    b = sym (ap (λ z. r.k *ℤ t.of.b +ℤ (r.l *ℤ u.of.b +ℤ (r.m *ℤ v.of.b +ℤ (r.n *ℤ w.of.b +ℤ z)))) (weighted_sum-still (λ h. h.b) ts)) ∙ r.b;
    c = sym (ap (λ z. r.k *ℤ t.of.c +ℤ (r.l *ℤ u.of.c +ℤ (r.m *ℤ v.of.c +ℤ (r.n *ℤ w.of.c +ℤ z)))) (weighted_sum-still (λ h. h.c) ts)) ∙ r.c;
    some = λ z. r.last z.1.1.1.0;
    small = (r.k_small, (r.l_small, (r.m_small, (r.n_small, small_still ts))));
    up = λ h. four_up ts h;
    down = λ h. four_down ts h;
  }

-- ---- one to three terms that cancel are dependent
-- where one multiple is 0, so is the number
lone_zero : (l a : ℤ) → pos 0 <ℤ l → l *ℤ a +ℤ pos 0 ≡ pos 0 → a ≡ pos 0
lone_zero l a p e =
    let n : l ≡ pos 0 → ⊥ = λ z. not_below_itself (pos 0) (rw z at p) in
    let w : pos 1 *ℤ (l *ℤ a +ℤ pos 0 -ℤ pos 0) ≡ pos 0 = search zeros in
    eq_by_multiple (l ∷ a ∷ []) {k = l} n w (search reify depth 40 fits 100000) tt

-- where two multiples cancel on two axes, the minor is 0
pair_zero : (l m a b c d : ℤ) → pos 0 <ℤ m → l *ℤ a +ℤ (m *ℤ c +ℤ pos 0) ≡ pos 0 → l *ℤ b +ℤ (m *ℤ d +ℤ pos 0) ≡ pos 0 → det2 a b c d ≡ pos 0
pair_zero l m a b c d p e f =
    let n : m ≡ pos 0 → ⊥ = λ z. not_below_itself (pos 0) (rw z at p) in
    let w : a *ℤ (l *ℤ b +ℤ (m *ℤ d +ℤ pos 0) -ℤ pos 0) +ℤ neg_ℤ b *ℤ (l *ℤ a +ℤ (m *ℤ c +ℤ pos 0) -ℤ pos 0) ≡ pos 0 = search zeros in
    eq_by_multiple (l ∷ m ∷ a ∷ b ∷ c ∷ d ∷ []) {k = m} n w (search reify depth 40 fits 100000) tt

-- where three multiples cancel on three axes, the determinant is 0
triple_zero : (l m n a b c d e f g h i : ℤ) → pos 0 <ℤ n → l *ℤ a +ℤ (m *ℤ d +ℤ (n *ℤ g +ℤ pos 0)) ≡ pos 0 → l *ℤ b +ℤ (m *ℤ e +ℤ (n *ℤ h +ℤ pos 0)) ≡ pos 0 → l *ℤ c +ℤ (m *ℤ f +ℤ (n *ℤ i +ℤ pos 0)) ≡ pos 0 → det3 a b c d e f g h i ≡ pos 0
triple_zero l m n a b c d e f g h i p ea eb ec =
    let nonzero : n ≡ pos 0 → ⊥ = λ z. not_below_itself (pos 0) (rw z at p) in
    let w : (b *ℤ f -ℤ c *ℤ e) *ℤ (l *ℤ a +ℤ (m *ℤ d +ℤ (n *ℤ g +ℤ pos 0)) -ℤ pos 0) +ℤ ((c *ℤ d -ℤ a *ℤ f) *ℤ (l *ℤ b +ℤ (m *ℤ e +ℤ (n *ℤ h +ℤ pos 0)) -ℤ pos 0) +ℤ (a *ℤ e -ℤ b *ℤ d) *ℤ (l *ℤ c +ℤ (m *ℤ f +ℤ (n *ℤ i +ℤ pos 0)) -ℤ pos 0)) ≡ pos 0 = search zeros in
    eq_by_multiple (l ∷ m ∷ n ∷ a ∷ b ∷ c ∷ d ∷ e ∷ f ∷ g ∷ h ∷ i ∷ []) {k = n} nonzero w (search reify depth 40 fits 100000) tt

-- ---- the relation
-- what is known of the terms of a contradiction
pub record Cancel (ts : List Multiple) : Type 0 where
  pub positive : ArePositive ts
  pub small : AllByRecursion IsSmall (half_spaces_of ts)
  pub a : weighted_sum (λ h. h.a) ts ≡ pos 0
  pub b : weighted_sum (λ h. h.b) ts ≡ pos 0
  pub c : weighted_sum (λ h. h.c) ts ≡ pos 0

-- four terms or more, of which the first three are independent
from_four : (t u v : Multiple) (ts : List Multiple) → Cancel (t ∷ u ∷ v ∷ ts) → (meeting_weight t.of u.of v.of ≡ pos 0 → ⊥) → Dependence (t ∷ u ∷ v ∷ ts)
from_four t u v [] k n = absurd (n (triple_zero t.factor u.factor v.factor t.of.a t.of.b t.of.c u.of.a u.of.b u.of.c v.of.a v.of.b v.of.c k.positive.1.1.0 k.a k.b k.c))
from_four t u v (w ∷ ts) k n = of_four t u v w ts k.positive (four t.of u.of v.of w.of k.small.0 k.small.1.0 k.small.1.1.0 k.small.1.1.1.0 n)

-- three terms or more, of which the first two are independent
from_three : (t u : Multiple) (ts : List Multiple) → Cancel (t ∷ u ∷ ts) → (AreParallel t.of u.of → ⊥) → Dependence (t ∷ u ∷ ts)
from_three t u [] k n = absurd (n (record {
  ab = pair_zero t.factor u.factor t.of.a t.of.b u.of.a u.of.b k.positive.1.0 k.a k.b;
  ac = pair_zero t.factor u.factor t.of.a t.of.c u.of.a u.of.c k.positive.1.0 k.a k.c;
  bc = pair_zero t.factor u.factor t.of.b t.of.c u.of.b u.of.c k.positive.1.0 k.b k.c;
}))
from_three t u (v ∷ ts) k n =
    ⊎_elim
    (λ z. of_three t u v ts k.positive (three t.of u.of v.of k.small.0 k.small.1.0 k.small.1.1.0 n z))
    (λ m. from_four t u v ts k m)
    (zero_or_not (meeting_weight t.of u.of v.of))

-- two terms or more, of which the first is not flat
from_two : (t : Multiple) (ts : List Multiple) → Cancel (t ∷ ts) → (IsFlat t.of → ⊥) → Dependence (t ∷ ts)
from_two t [] k n = absurd (n (record { a = lone_zero t.factor t.of.a k.positive.0 k.a; b = lone_zero t.factor t.of.b k.positive.0 k.b; c = lone_zero t.factor t.of.c k.positive.0 k.c }))
from_two t (u ∷ ts) k n =
    ⊎_elim
    (λ z. of_two t u ts k.positive (two t.of u.of k.small.0 k.small.1.0 n z))
    (λ m. from_three t u ts k m)
    (parallel_or_not t.of u.of)

-- terms that cancel have a relation by minors
pub dependence : (t : Multiple) (ts : List Multiple) → Cancel (t ∷ ts) → Dependence (t ∷ ts)
dependence t ts k = ⊎_elim (λ f. of_one t ts k.positive f) (λ n. from_two t ts k n) (flat_or_not t.of)
