-- The plane of a height as a list of upright half-spaces: flat certificates are refutations of it, and the searches go hand in hand.
use Rattle.std.proofs.Common.{◌≡◌, ℕ, ℤ, pos, negsuc, neg_ℤ, ◌+ℤ◌, ◌*ℤ◌, ◌<ℤ◌, Bool, true, false, ◌&&◌, ◌||◌, not, List, [], ◌∷◌, length, map, ◌⊎◌, inr, ⊎_elim, Option, Some, None, refl, sym, ap, ◌∙◌, subst}
use Rattle.std.specs.Prelude.{int_le}
use Rattle.std.specs.List.{AllByRecursion, list_all}
use Rattle.std.proofs.lemmas.Bool.{or_cases, or_left, or_right}
use Rattle.rp_algebra.specs.Integer.{is_zero, is_positive, is_negative, gcd_of, reduced_by}
use Rattle.rp_algebra.proofs.Numbers.{above_not_zero, neg_zero}
use Rattle.rp_algebra.proofs.LowestTerms.{quotient_of_zero}
use Rattle.rp_algebra.proofs.Reify.{by_ring_at, reify}
use Rattle.rp_algebra.proofs.Tests.{and_first, and_second, and_true, zero_is, is_zero_true, positive_is, is_positive_true, false_not_true, false_unless, same_test}
use Rattle.rp_algebra.proofs.Listed.{Listed, first, later, list_all_is, list_all_true}
use Rattle.rp_geometry.specs.Geometry.{HalfSpace, half_space_of}
use Rattle.rp_geometry.specs.searches.Certificate.{Multiple, weighted_sum, is_balanced, is_contradiction}
use Rattle.rp_geometry.specs.searches.Elimination.{multiple_of, factors_of, half_spaces_of, reduced_terms, negated_terms, normal_terms, is_refutation, terms_if}
use Rattle.rp_geometry.specs.sections.Trace.{has_trace, offset_at, holds_level}
use Rattle.rp_geometry.specs.sections.Flat.{is_level_kind, is_trace_kind, is_flat_refutation, flat_terms_if}
use Rattle.rp_convex.proofs.Combination.{ArePositive}
use Rattle.rp_convex.proofs.LowestMultiples.{divided, Refutes, refutation-from, half_spaces_of-normal}
use Rattle.rp_convex.proofs.Tests.{balanced-to}

-- ---- the half-spaces on the plane

-- a half-space on the plane: upright with what c and d come to; one without a trace holds all or nothing
abbrev pub plane_by : Bool → Bool → ℤ → HalfSpace → HalfSpace
plane_by true l z h = half_space_of h.a h.b (pos 0) (offset_at z h)
plane_by false true z h = half_space_of (pos 0) (pos 0) (pos 0) (pos 1)
plane_by false false z h = half_space_of (pos 0) (pos 0) (pos 0) (negsuc 0)

-- the half-space on the plane of height z
abbrev pub plane : ℤ → HalfSpace → HalfSpace
plane z h = plane_by (has_trace h) (holds_level z h) z h

-- those of a list
abbrev pub planes : ℤ → List HalfSpace → List HalfSpace
planes z hs = map (λ h. plane z h) hs

-- multiples of them
abbrev pub planar : ℤ → List Multiple → List Multiple
planar z ts = map (λ t. multiple_of t.factor (plane z t.of)) ts

-- multiples of them, if there are some
abbrev pub planar_of : ℤ → Option (List Multiple) → Option (List Multiple)
planar_of z o = elim o [ Some ts ↦ Some (planar z ts) | None ↦ None ]

-- one with a trace on the plane
pub plane_is : (z : ℤ) (h : HalfSpace) → has_trace h ≡ true → plane z h ≡ half_space_of h.a h.b (pos 0) (offset_at z h)
plane_is z h e = ap (λ (b : Bool). plane_by b (holds_level z h) z h) e

-- the third coefficient on the plane is 0
pub third_by : (b l : Bool) (z : ℤ) (h : HalfSpace) → (plane_by b l z h).c ≡ pos 0
third_by true l z h = refl
third_by false true z h = refl
third_by false false z h = refl

-- the directions of one without a trace are 0
pub record IsNowhere (h : HalfSpace) : Type 0 where
  pub a : h.a ≡ pos 0
  pub b : h.b ≡ pos 0

-- so they are
pub nowhere_by : (b l : Bool) (z : ℤ) (h : HalfSpace) → b ≡ false → IsNowhere (plane_by b l z h)
nowhere_by true l z h e = absurd (false_not_true true refl e)
nowhere_by false true z h e = record { a = refl; b = refl }
nowhere_by false false z h e = record { a = refl; b = refl }

-- ---- tests that agree

-- the facts of a flat refutation
pub record RefutesFlat (z : ℤ) (ts : List Multiple) : Type 0 where
  pub positive : ArePositive ts
  pub a : weighted_sum (λ h. h.a) ts ≡ pos 0
  pub b : weighted_sum (λ h. h.b) ts ≡ pos 0
  pub kind : (is_level_kind z ts ≡ true) ⊎ (is_trace_kind z ts ≡ true)

-- terms that pass the test have them
pub flat_refutation-to : (z : ℤ) (ts : List Multiple) → is_flat_refutation z ts ≡ true → RefutesFlat z ts
flat_refutation-to z ts e =
    let ab = and_first _ (is_level_kind z ts || is_trace_kind z ts) e in
    let sums = and_second _ (is_zero (weighted_sum (λ h. h.a) ts) && is_zero (weighted_sum (λ h. h.b) ts)) ab in
    record {
      positive = list_all_is (λ t. is_positive t.factor) (λ t. pos 0 <ℤ t.factor) (λ t f. positive_is t.factor f) ts (and_first _ (is_zero (weighted_sum (λ h. h.a) ts) && is_zero (weighted_sum (λ h. h.b) ts)) ab);
      a = zero_is _ (and_first (is_zero (weighted_sum (λ h. h.a) ts)) _ sums);
      b = zero_is _ (and_second (is_zero (weighted_sum (λ h. h.a) ts)) _ sums);
      kind = or_cases _ _ (and_second _ (is_level_kind z ts || is_trace_kind z ts) e);
    }

-- terms with them pass
pub flat_refutation-from : (z : ℤ) (ts : List Multiple) → RefutesFlat z ts → is_flat_refutation z ts ≡ true
flat_refutation-from z ts r =
    and_true _ (is_level_kind z ts || is_trace_kind z ts)
    (and_true _ (is_zero (weighted_sum (λ h. h.a) ts) && is_zero (weighted_sum (λ h. h.b) ts))
    (list_all_true (λ t. is_positive t.factor) (λ t. pos 0 <ℤ t.factor) (λ t p. is_positive_true t.factor p) ts r.positive)
    (and_true _ _ (is_zero_true _ r.a) (is_zero_true _ r.b)))
    (⊎_elim (λ k. or_left (is_level_kind z ts) (is_trace_kind z ts) k) (λ k. or_right (is_level_kind z ts) (is_trace_kind z ts) k) r.kind)

-- terms that pass the test of a refutation have its facts
pub refutation_to : (ts : List Multiple) → is_refutation true ts ≡ true → Refutes true ts
refutation_to ts e =
    let pb = and_first _ (is_contradiction true ts) e in
    let b = balanced-to ts (and_second _ (is_balanced ts) pb) in
    record {
      positive = list_all_is (λ t. is_positive t.factor) (λ t. pos 0 <ℤ t.factor) (λ t f. positive_is t.factor f) ts (and_first _ (is_balanced ts) pb);
      a = b.a;
      b = b.b;
      c = b.c;
      contradiction = and_second _ (is_contradiction true ts) e;
    }

module _ (z : ℤ) where
  -- ---- sums over multiples on the plane
  -- the half-spaces of all terms have traces
  abbrev pub HaveTraces : List Multiple → Type 0
  HaveTraces ts = AllByRecursion (λ t. has_trace t.of ≡ true) ts

  -- the same as a test
  pub traces_to : (ts : List Multiple) → list_all (λ t. has_trace t.of) ts ≡ true → HaveTraces ts
  traces_to ts e = list_all_is (λ t. has_trace t.of) (λ t. has_trace t.of ≡ true) (λ t k. k) ts e

  -- the test of it
  pub traces_from : (ts : List Multiple) → HaveTraces ts → list_all (λ t. has_trace t.of) ts ≡ true
  traces_from ts h = list_all_true (λ t. has_trace t.of) (λ t. has_trace t.of ≡ true) (λ t k. k) ts h

  -- the sum of a
  pub planar_a : (ts : List Multiple) → HaveTraces ts → weighted_sum (λ h. h.a) (planar z ts) ≡ weighted_sum (λ h. h.a) ts
  planar_a [] h = refl
  planar_a (t ∷ ts) h = λ i. t.factor *ℤ (plane_is z t.of h.0 i).a +ℤ planar_a ts h.1 i

  -- the sum of b
  pub planar_b : (ts : List Multiple) → HaveTraces ts → weighted_sum (λ h. h.b) (planar z ts) ≡ weighted_sum (λ h. h.b) ts
  planar_b [] h = refl
  planar_b (t ∷ ts) h = λ i. t.factor *ℤ (plane_is z t.of h.0 i).b +ℤ planar_b ts h.1 i

  -- the sum of what c and d come to
  pub planar_d : (ts : List Multiple) → HaveTraces ts → weighted_sum (λ h. h.d) (planar z ts) ≡ weighted_sum (offset_at z) ts
  planar_d [] h = refl
  planar_d (t ∷ ts) h = λ i. t.factor *ℤ (plane_is z t.of h.0 i).d +ℤ planar_d ts h.1 i

  -- the sum of c is 0
  pub planar_c : (ts : List Multiple) → weighted_sum (λ h. h.c) (planar z ts) ≡ pos 0
  planar_c [] = refl
  planar_c (t ∷ ts) = (λ i. t.factor *ℤ third_by (has_trace t.of) (holds_level z t.of) z t.of i +ℤ planar_c ts i) ∙ by_ring_at (t.factor ∷ []) (search reify depth 40 fits 100000) tt

  -- the factors stay
  pub positive_planar : (ts : List Multiple) → ArePositive ts → ArePositive (planar z ts)
  positive_planar [] p = tt
  positive_planar (t ∷ ts) p = (p.0, positive_planar ts p.1)

  -- and the other way round
  pub planar_positive : (ts : List Multiple) → ArePositive (planar z ts) → ArePositive ts
  planar_positive [] p = tt
  planar_positive (t ∷ ts) p = (p.0, planar_positive ts p.1)

  -- ---- terms with traces
  -- of terms with traces the second kind alone is left
  not_level : (ts : List Multiple) → HaveTraces ts → is_level_kind z ts ≡ true → ⊥
  not_level [] h k = false_not_true false k refl
  not_level (t ∷ []) h k = no (has_trace t.of) h.0 (and_first _ _ k)
    where
      no : (b : Bool) → b ≡ true → not b ≡ true → ⊥
      no true e f = false_not_true false f refl
      no false e f = false_not_true false e refl
  not_level (t ∷ u ∷ ts) h k = false_not_true false k refl

  -- terms with traces refute on the plane exactly where they refute flatly
  pub tests_agree : (ts : List Multiple) → HaveTraces ts → is_refutation true (planar z ts) ≡ is_flat_refutation z ts
  tests_agree ts h = same_test _ _
      (λ e. let r = refutation_to (planar z ts) e in flat_refutation-from z ts (record {
        positive = planar_positive ts r.positive;
        a = sym (planar_a ts h) ∙ r.a;
        b = sym (planar_b ts h) ∙ r.b;
        kind = inr (and_true _ _ (traces_from ts h) (subst (λ (v : ℤ). int_le v (pos 0) ≡ true) (planar_d ts h) r.contradiction));
      }))
      (λ e. let r = flat_refutation-to z ts e in refutation-from true (planar z ts) (record {
        positive = positive_planar ts r.positive;
        a = planar_a ts h ∙ r.a;
        b = planar_b ts h ∙ r.b;
        c = planar_c ts;
        contradiction = ⊎_elim (λ k. absurd (not_level ts h k)) (λ k. subst (λ (v : ℤ). int_le v (pos 0) ≡ true) (sym (planar_d ts h)) (and_second (list_all (λ t. has_trace t.of) ts) _ k)) r.kind;
      }))

  -- terms for which the tests agree are given on the plane as they are flatly
  pub given : (ts : List Multiple) → is_refutation true (planar z ts) ≡ is_flat_refutation z ts → terms_if true (planar z ts) ≡ planar_of z (flat_terms_if z ts)
  given ts e = (λ i. elim (e i) [ true ↦ Some (planar z ts) | false ↦ None ]) ∙ by_test (is_flat_refutation z ts)
    where
      by_test : (b : Bool) → elim b [ true ↦ Some (planar z ts) | false ↦ None ] ≡ planar_of z (elim b [ true ↦ Some ts | false ↦ None ])
      by_test true = refl
      by_test false = refl

  -- ---- the normal form on the plane
  -- the factors stay
  pub factors_of-planar : (ts : List Multiple) → factors_of (planar z ts) ≡ factors_of ts
  factors_of-planar [] = refl
  factors_of-planar (t ∷ ts) = ap (λ (vs : List ℤ). t.factor ∷ vs) (factors_of-planar ts)

  -- divided terms
  divided-planar : (g : ℕ) (ts : List Multiple) → divided g (planar z ts) ≡ planar z (divided g ts)
  divided-planar g [] = refl
  divided-planar g (t ∷ ts) = ap (λ (us : List Multiple). multiple_of (reduced_by g t.factor) (plane z t.of) ∷ us) (divided-planar g ts)

  -- terms in lowest terms
  reduced-planar : (ts : List Multiple) → reduced_terms (planar z ts) ≡ planar z (reduced_terms ts)
  unfolding reduced_terms
  reduced-planar ts = ap (λ (vs : List ℤ). divided (gcd_of vs) (planar z ts)) (factors_of-planar ts) ∙ divided-planar (gcd_of (factors_of ts)) ts

  -- negated terms
  negated-planar : (ts : List Multiple) → negated_terms (planar z ts) ≡ planar z (negated_terms ts)
  negated-planar [] = refl
  negated-planar (t ∷ ts) = ap (λ (us : List Multiple). multiple_of (neg_ℤ t.factor) (plane z t.of) ∷ us) (negated-planar ts)

  -- the normal form
  pub normal-planar : (ts : List Multiple) → normal_terms (planar z ts) ≡ planar z (normal_terms ts)
  normal-planar [] = refl
  normal-planar (t ∷ ts) = by_test (is_negative t.factor)
    where
      by_test : (b : Bool) → elim b [ true ↦ reduced_terms (negated_terms (planar z (t ∷ ts))) | false ↦ reduced_terms (planar z (t ∷ ts)) ] ≡ planar z (elim b [ true ↦ reduced_terms (negated_terms (t ∷ ts)) | false ↦ reduced_terms (t ∷ ts) ])
      by_test true = ap reduced_terms (negated-planar (t ∷ ts)) ∙ reduced-planar (negated_terms (t ∷ ts))
      by_test false = reduced-planar (t ∷ ts)

-- ---- a factor 0

-- divided terms with a factor 0 are not all positive
divided_zero : (g : ℕ) (ts : List Multiple) (t : Multiple) → Listed t ts → t.factor ≡ pos 0 → ArePositive (divided g ts) → ⊥
divided_zero g [] t l e p = elim l [ ]
divided_zero g (u ∷ ts) t first e p = above_not_zero (reduced_by g u.factor) p.0 (ap (reduced_by g) e ∙ quotient_of_zero g)
divided_zero g (u ∷ ts) t (later l) e p = divided_zero g ts t l e p.1

-- the same of the lowest terms
reduced_zero : (ts : List Multiple) (t : Multiple) → Listed t ts → t.factor ≡ pos 0 → ArePositive (reduced_terms ts) → ⊥
unfolding reduced_terms
reduced_zero ts t l e p = divided_zero (gcd_of (factors_of ts)) ts t l e p

-- a term among the negated ones
negated_listed : (ts : List Multiple) (t : Multiple) → Listed t ts → Listed (multiple_of (neg_ℤ t.factor) t.of) (negated_terms ts)
negated_listed [] t l = elim l [ ]
negated_listed (u ∷ ts) t first = first
negated_listed (u ∷ ts) t (later l) = later (negated_listed ts t l)

-- the same of the normal form
normal_zero : (ts : List Multiple) (t : Multiple) → Listed t ts → t.factor ≡ pos 0 → ArePositive (normal_terms ts) → ⊥
normal_zero [] t l e p = elim l [ ]
normal_zero (u ∷ ts) t l e p = by_test (is_negative u.factor) p
  where
    by_test : (b : Bool) → ArePositive (elim b [ true ↦ reduced_terms (negated_terms (u ∷ ts)) | false ↦ reduced_terms (u ∷ ts) ]) → ⊥
    by_test true q = reduced_zero (negated_terms (u ∷ ts)) (multiple_of (neg_ℤ t.factor) t.of) (negated_listed (u ∷ ts) t l) (neg_zero t.factor e) q
    by_test false q = reduced_zero (u ∷ ts) t l e q

-- minors with a factor 0 do not refute
pub none_of_zero : (ms : List Multiple) (t : Multiple) → Listed t ms → t.factor ≡ pos 0 → terms_if true (normal_terms ms) ≡ None
none_of_zero ms t l e =
    ap (λ (b : Bool). elim b [ true ↦ Some (normal_terms ms) | false ↦ None ]) (false_unless (is_refutation true (normal_terms ms)) (λ k. normal_zero ms t l e (refutation_to (normal_terms ms) k).positive))

-- nor do they flatly
pub flat_none_of_zero : (z : ℤ) (ms : List Multiple) (t : Multiple) → Listed t ms → t.factor ≡ pos 0 → flat_terms_if z (normal_terms ms) ≡ None
flat_none_of_zero z ms t l e =
    ap (λ (b : Bool). elim b [ true ↦ Some (normal_terms ms) | false ↦ None ]) (false_unless (is_flat_refutation z (normal_terms ms)) (λ k. normal_zero ms t l e (flat_refutation-to z (normal_terms ms) k).positive))

-- ---- two terms or more of which one has no trace

-- a term of the first kind is alone
level_alone : (z : ℤ) (ts : List Multiple) → is_level_kind z ts ≡ true → length (half_spaces_of ts) ≡ 1
level_alone z [] k = absurd (false_not_true false k refl)
level_alone z (t ∷ []) k = refl
level_alone z (t ∷ u ∷ ts) k = absurd (false_not_true false k refl)

-- the half-spaces of terms with traces have traces
spaces_have : (ts : List Multiple) → list_all (λ t. has_trace t.of) ts ≡ true → AllByRecursion (λ h. has_trace h ≡ true) (half_spaces_of ts)
spaces_have [] e = tt
spaces_have (t ∷ ts) e = (and_first _ _ e, spaces_have ts (and_second (has_trace t.of) _ e))

-- flat refutations of two half-spaces or more have traces
pub flat_have : (z : ℤ) (ks : List HalfSpace) (ms : List Multiple) → half_spaces_of ms ≡ ks → (length ks ≡ 1 → ⊥) → is_flat_refutation z (normal_terms ms) ≡ true → AllByRecursion (λ h. has_trace h ≡ true) ks
flat_have z ks ms e n k =
    let same = half_spaces_of-normal ms ∙ e in
    ⊎_elim
    (λ l. absurd (n (sym (ap length same) ∙ level_alone z (normal_terms ms) l)))
    (λ t. subst (λ (gs : List HalfSpace). AllByRecursion (λ h. has_trace h ≡ true) gs) same (spaces_have (normal_terms ms) (and_first _ _ t)))
    (flat_refutation-to z (normal_terms ms) k).kind

-- so there are none where one has no trace
pub flat_none : (z : ℤ) (ks : List HalfSpace) (ms : List Multiple) → half_spaces_of ms ≡ ks → (length ks ≡ 1 → ⊥) → (AllByRecursion (λ h. has_trace h ≡ true) ks → ⊥) → flat_terms_if z (normal_terms ms) ≡ None
flat_none z ks ms e n m =
    ap (λ (b : Bool). elim b [ true ↦ Some (normal_terms ms) | false ↦ None ]) (false_unless (is_flat_refutation z (normal_terms ms)) (λ k. m (flat_have z ks ms e n k)))
