-- The value of the search at a sublist of one to four half-spaces: it refutes, and is in lowest terms. Where a sublist refutes, some part of it has a value.
use Rattle.std.proofs.Common.{◌≡◌, ℕ, ◌<◌, ℤ, pos, negsuc, neg_ℤ, ◌+ℤ◌, ◌*ℤ◌, ◌≤ℤ◌, ◌<ℤ◌, Bool, true, false, List, [], ◌∷◌, length, Option, Some, None, refl, sym, ap, ◌∙◌, subst, arith}
use Rattle.std.specs.List.{AllByRecursion}
use Rattle.std.proofs.lemmas.Int.{ints}
use Rattle.rp_algebra.specs.Integer.{is_zero, is_positive, is_negative, gcd_of, reduced_by}
use Rattle.rp_geometry.specs.Geometry.{HalfSpace}
use Rattle.rp_geometry.specs.searches.Certificate.{Multiple, weighted_sum, is_balanced, is_contradiction}
use Rattle.rp_geometry.specs.searches.Vertex.{det2}
use Rattle.rp_geometry.specs.searches.Elimination.{multiple_of, factors_of, half_spaces_of, negated_terms, reduced_terms, normal_terms, minors_of_two, minors_of_three, minors_of_four, is_refutation, terms_if, refutation_of_one, refutation_of_two, refutation_of_three, refutation_of_four}
use Rattle.rp_geometry.specs.laws.CellLaws.{Refute}
use Rattle.rp_algebra.proofs.IntLaws.{nonneg_of_pos_ℤ}
use Rattle.rp_convex.proofs.Combination.{Among, none, take, ArePositive, IsSmall, Contradiction, IsCandidate}
use Rattle.rp_convex.proofs.Sums.{weighted_sum-mixed, length-half_spaces}
use Rattle.rp_convex.proofs.Cone.{among_all}
use Rattle.rp_convex.proofs.Relations.{two_by, three_by}
use Rattle.rp_convex.proofs.Reduction.{reduce}
use Rattle.rp_algebra.proofs.Tests.{and_first, and_second, positive_is, negative_is, at_most_is}
use Rattle.rp_algebra.proofs.Listed.{list_all_is}
use Rattle.rp_algebra.proofs.Numbers.{above_not_zero}
use Rattle.rp_algebra.proofs.Options.{none_not_some}
use Rattle.rp_algebra.proofs.Divisors.{gcd_of-one, gcd_of-positive_head}
use Rattle.rp_algebra.proofs.LowestTerms.{quotients, quotient_of_zero, lowest-gcd, one_from_lowest, divides_from_multiples}
use Rattle.rp_convex.proofs.Tests.{balanced-from, balanced-to}
use Rattle.rp_convex.proofs.LowestMultiples.{divided, Refutes, refutation-from, refutes_normal, refutes_normal_negated, half_spaces_of-normal}
use Rattle.rp_convex.proofs.Unique.{IsLowest}
use Rattle.rp_convex.proofs.Alternative.{great, offset_of}
use Rattle.rp_convex.proofs.OutsideFound.{terms_if-is, refuting}

-- the search at the half-spaces of a list
abbrev pub refutation_of : Bool → List HalfSpace → Option (List Multiple)
refutation_of strict [] = None
refutation_of strict (h ∷ []) = refutation_of_one strict h
refutation_of strict (g ∷ h ∷ []) = refutation_of_two strict g h
refutation_of strict (f ∷ g ∷ h ∷ []) = refutation_of_three strict f g h
refutation_of strict (e ∷ f ∷ g ∷ h ∷ []) = refutation_of_four strict e f g h
refutation_of strict (e ∷ f ∷ g ∷ h ∷ i ∷ hs) = None

-- ---- lowest terms
-- the factors of the divided terms are the quotients of the factors
factors_of-divided : (g : ℕ) (ts : List Multiple) → factors_of (divided g ts) ≡ quotients g (factors_of ts)
factors_of-divided g [] = refl
factors_of-divided g (t ∷ ts) = ap (λ vs. reduced_by g t.factor ∷ vs) (factors_of-divided g ts)

-- a factor whose quotient is above 0 is not 0
not_zero_divided : (g : ℕ) (v : ℤ) → pos 0 <ℤ reduced_by g v → v ≡ pos 0 → ⊥
not_zero_divided g v p e = above_not_zero (reduced_by g v) p (ap (reduced_by g) e ∙ quotient_of_zero g)

-- terms divided by the greatest common divisor of their factors are in lowest terms
lowest_reduced : (t : Multiple) (ts : List Multiple) → ArePositive (reduced_terms (t ∷ ts)) → IsLowest (reduced_terms (t ∷ ts))
unfolding reduced_terms
lowest_reduced t ts p d m =
    let vs = factors_of (t ∷ ts) in
    let g = gcd_of vs in
    let one = ap gcd_of (factors_of-divided g (t ∷ ts)) ∙ lowest-gcd vs (gcd_of-positive_head t.factor (factors_of ts) (not_zero_divided g t.factor p.0)) in
    one_from_lowest d (factors_of (divided g (t ∷ ts))) one (divides_from_multiples d (factors_of (divided g (t ∷ ts))) m)

-- the normal form is in lowest terms
lowest_normal : (t : Multiple) (ts : List Multiple) → ArePositive (normal_terms (t ∷ ts)) → IsLowest (normal_terms (t ∷ ts))
lowest_normal t ts =
    elim (is_negative t.factor) as (λ b. ArePositive (elim b [ true ↦ reduced_terms (negated_terms (t ∷ ts)) | false ↦ reduced_terms (t ∷ ts) ]) → IsLowest (elim b [ true ↦ reduced_terms (negated_terms (t ∷ ts)) | false ↦ reduced_terms (t ∷ ts) ])) [
      | true ↦ λ p. lowest_reduced (multiple_of (neg_ℤ t.factor) t.of) (negated_terms ts) p
      | false ↦ λ p. lowest_reduced t ts p
    ]

-- 1 is in lowest terms
lowest_one : (h : HalfSpace) → IsLowest (multiple_of (pos 1) h ∷ [])
lowest_one h d m = one_from_lowest d (pos 1 ∷ []) (gcd_of-one (pos 1)) (divides_from_multiples d (pos 1 ∷ []) m)

-- ---- the value
-- terms that pass the test refute
refutation-to : (strict : Bool) (ts : List Multiple) → is_refutation strict ts ≡ true → Refutes strict ts
refutation-to strict ts e =
    let pb = and_first _ (is_contradiction strict ts) e in
    let b = balanced-to ts (and_second _ (is_balanced ts) pb) in
    record {
      positive = list_all_is (λ t. is_positive t.factor) (λ t. pos 0 <ℤ t.factor) (λ t f. positive_is t.factor f) ts (and_first _ (is_balanced ts) pb);
      a = b.a;
      b = b.b;
      c = b.c;
      contradiction = and_second _ (is_contradiction strict ts) e;
    }

-- terms that refute, in lowest terms, of the half-spaces of a list that is not empty
pub record Value (strict : Bool) (ks : List HalfSpace) (us : List Multiple) : Type 0 where
  pub same : half_spaces_of us ≡ ks
  pub some : 0 < length ks
  pub refutes : Refutes strict us
  pub lowest : IsLowest us

-- a value in normal form
value_normal : (strict : Bool) (ks : List HalfSpace) (ms us : List Multiple) → half_spaces_of ms ≡ ks → 0 < length ks → terms_if strict (normal_terms ms) ≡ Some us → Value strict ks us
value_normal strict ks [] us same n e = absurd (nothing ks same n)
  where
    nothing : (ks : List HalfSpace) → [] ≡ ks → 0 < length ks → ⊥
    nothing [] e n = omega (arith, n)
    nothing (k ∷ ks) e n = cc
value_normal strict ks (t ∷ ts) us same n e =
    let r = terms_if-is strict (normal_terms (t ∷ ts)) us e in
    let refutes = refutation-to strict (normal_terms (t ∷ ts)) r.1 in
    subst (λ vs. Value strict ks vs) r.0 (record { same = half_spaces_of-normal (t ∷ ts) ∙ same; some = n; refutes = refutes; lowest = lowest_normal t ts refutes.positive })

-- the choice for two has the two half-spaces
two_by-of : (s t : Bool) (f g : HalfSpace) → half_spaces_of (two_by s t f g) ≡ f ∷ g ∷ []
two_by-of false t f g = refl
two_by-of true false f g = refl
two_by-of true true f g = refl

-- the choice for three has the three half-spaces
three_by-of : (s t : Bool) (f g h : HalfSpace) → half_spaces_of (three_by s t f g h) ≡ f ∷ g ∷ h ∷ []
three_by-of false t f g h = refl
three_by-of true false f g h = refl
three_by-of true true f g h = refl

-- what the search has at a sublist is a value
pub value_of : (strict : Bool) (ks : List HalfSpace) (us : List Multiple) → refutation_of strict ks ≡ Some us → Value strict ks us
unfolding refutation_of_one refutation_of_two refutation_of_three refutation_of_four
value_of strict [] us e = absurd (none_not_some us e)
value_of strict (h ∷ []) us e =
    let r = terms_if-is strict (multiple_of (pos 1) h ∷ []) us e in
    subst (λ vs. Value strict (h ∷ []) vs) r.0 (record { same = refl; some = omega arith; refutes = refutation-to strict (multiple_of (pos 1) h ∷ []) r.1; lowest = lowest_one h })
value_of strict (g ∷ h ∷ []) us e = value_normal strict (g ∷ h ∷ []) (minors_of_two g h) us (two_by-of (is_zero g.a) (is_zero g.b) g h) (omega arith) e
value_of strict (f ∷ g ∷ h ∷ []) us e = value_normal strict (f ∷ g ∷ h ∷ []) (minors_of_three f g h) us (three_by-of (is_zero (det2 f.a f.b g.a g.b)) (is_zero (det2 f.a f.c g.a g.c)) f g h) (omega arith) e
value_of strict (d ∷ f ∷ g ∷ h ∷ []) us e = value_normal strict (d ∷ f ∷ g ∷ h ∷ []) (minors_of_four d f g h) us refl (omega arith) e
value_of strict (d ∷ f ∷ g ∷ h ∷ i ∷ hs) us e = absurd (none_not_some us e)

-- ---- where there is a value
-- terms that pass are given
terms_if-hit : (strict : Bool) (ts : List Multiple) → is_refutation strict ts ≡ true → terms_if strict ts ≡ Some ts
terms_if-hit strict ts e = λ i. elim (e i) [ true ↦ Some ts | false ↦ None ]

-- the search has a value there
abbrev HasValue : Bool → List HalfSpace → Type 0
HasValue strict ks = (us : List Multiple) × (refutation_of strict ks ≡ Some us)

-- the normal form of terms that refute is given
normal_hit : (strict : Bool) (ms : List Multiple) (t : Multiple) (ts : List Multiple) → ms ≡ t ∷ ts → Refutes strict (t ∷ ts) → terms_if strict (normal_terms ms) ≡ Some (normal_terms ms)
normal_hit strict ms t ts e r = terms_if-hit strict (normal_terms ms) (refutation-from strict (normal_terms ms) (subst (λ us. Refutes strict (normal_terms us)) (sym e) (refutes_normal strict t ts r)))

-- so is that of terms whose negatives refute
negated_hit : (strict : Bool) (ms : List Multiple) (t : Multiple) (ts : List Multiple) → ms ≡ t ∷ ts → Refutes strict (negated_terms (t ∷ ts)) → terms_if strict (normal_terms ms) ≡ Some (normal_terms ms)
negated_hit strict ms t ts e r = terms_if-hit strict (normal_terms ms) (refutation-from strict (normal_terms ms) (subst (λ us. Refutes strict (normal_terms us)) (sym e) (refutes_normal_negated strict t ts r)))

-- at the half-spaces of a candidate that refutes there is a value
candidate_hit : (strict : Bool) (ts : List Multiple) → IsCandidate ts → Refutes strict ts → HasValue strict (half_spaces_of ts)
unfolding refutation_of_one refutation_of_two refutation_of_three refutation_of_four
candidate_hit strict ts (IsCandidate.one h) r = (multiple_of (pos 1) h ∷ [], terms_if-hit strict (multiple_of (pos 1) h ∷ []) (refutation-from strict (multiple_of (pos 1) h ∷ []) r))
candidate_hit strict ts (IsCandidate.two f g k n e) r = (normal_terms (minors_of_two f g), normal_hit strict (minors_of_two f g) (multiple_of k f) (multiple_of n g ∷ []) e r)
candidate_hit strict ts (IsCandidate.two_negated f g k n e) r = (normal_terms (minors_of_two f g), negated_hit strict (minors_of_two f g) (multiple_of k f) (multiple_of n g ∷ []) e r)
candidate_hit strict ts (IsCandidate.three f g h l k n e) r = (normal_terms (minors_of_three f g h), normal_hit strict (minors_of_three f g h) (multiple_of l f) (multiple_of k g ∷ multiple_of n h ∷ []) e r)
candidate_hit strict ts (IsCandidate.three_negated f g h l k n e) r = (normal_terms (minors_of_three f g h), negated_hit strict (minors_of_three f g h) (multiple_of l f) (multiple_of k g ∷ multiple_of n h ∷ []) e r)
candidate_hit strict ts (IsCandidate.four d f g h j l k n e) r = (normal_terms (minors_of_four d f g h), normal_hit strict (minors_of_four d f g h) (multiple_of j d) (multiple_of l f ∷ multiple_of k g ∷ multiple_of n h ∷ []) e r)
candidate_hit strict ts (IsCandidate.four_negated d f g h j l k n e) r = (normal_terms (minors_of_four d f g h), negated_hit strict (minors_of_four d f g h) (multiple_of j d) (multiple_of l f ∷ multiple_of k g ∷ multiple_of n h ∷ []) e r)

-- a part of a list that has a value
pub record Hit (strict : Bool) (ks : List HalfSpace) : Type 0 where
  pub items : List HalfSpace
  pub among : Among items ks
  pub terms : List Multiple
  pub value : refutation_of strict items ≡ Some terms

-- ---- from factors that refute to a value
-- a list is a part of itself
among_self : (hs : List HalfSpace) → Among hs hs
among_self [] = none
among_self (h ∷ hs) = take (among_self hs)

-- one positive factor more
one_more : (v s : ℤ) → pos 0 <ℤ v → pos 0 ≤ℤ s → pos 0 <ℤ (v *ℤ pos 1 +ℤ s)
one_more v s p n = omega (arith, ints)

-- positive factors add up to at least 0
factors_nonneg : (ts : List Multiple) → ArePositive ts → pos 0 ≤ℤ weighted_sum (λ h. pos 1) ts
factors_nonneg [] p = omega (arith, ints)
factors_nonneg (t ∷ ts) p = nonneg_of_pos_ℤ _ (one_more t.factor (weighted_sum (λ h. pos 1) ts) p.0 (factors_nonneg ts p.1))

-- one or more add up to more than 0
factors_positive : (ts : List Multiple) → 0 < length ts → ArePositive ts → pos 0 <ℤ weighted_sum (λ h. pos 1) ts
factors_positive [] n p = absurd (omega (arith, n))
factors_positive (t ∷ ts) n p = one_more t.factor (weighted_sum (λ h. pos 1) ts) p.0 (factors_nonneg ts p.1)

-- N times a number at most 0, less one above 0, is below 0
low_offset : (s k : ℤ) → s ≤ℤ pos 0 → pos 0 <ℤ k → (great *ℤ s +ℤ k *ℤ negsuc 0) <ℤ pos 0
low_offset s k h l = omega (arith, ints)

-- where factors refute, the offsets add up to less than 0
pub negative_offset : (strict : Bool) (ts : List Multiple) → Refute strict ts → weighted_sum (offset_of strict) ts <ℤ pos 0
negative_offset true ts r =
    subst (λ v. v <ℤ pos 0) (sym (weighted_sum-mixed great (negsuc 0) (λ h. h.d) (λ h. pos 1) ts))
    (low_offset (weighted_sum (λ h. h.d) ts) (weighted_sum (λ h. pos 1) ts) (at_most_is (weighted_sum (λ h. h.d) ts) (pos 0) r.3) (factors_positive ts r.0 r.1))
negative_offset false ts r = negative_is (weighted_sum (λ h. h.d) ts) r.3

-- a part of a contradiction has a value
pub hit_contradiction : (strict : Bool) (hs : List HalfSpace) → AllByRecursion IsSmall hs → (m : Contradiction (offset_of strict) hs) → Hit strict (half_spaces_of m.terms)
hit_contradiction strict hs small m =
    let ks = half_spaces_of m.terms in
    let r = reduce (offset_of strict) ks (among_all IsSmall m.among small) (record { terms = m.terms; among = among_self ks; positive = m.positive; a = m.a; b = m.b; c = m.c; negative = m.negative }) in
    let v = candidate_hit strict r.of.terms r.candidate (refuting strict ks r) in
    record { items = half_spaces_of r.of.terms; among = r.of.among; terms = v.0; value = v.1 }

-- factors that refute are a contradiction
contradiction_of : (strict : Bool) (hs : List HalfSpace) (ts : List Multiple) → Among (half_spaces_of ts) hs → Refute strict ts → Contradiction (offset_of strict) hs
contradiction_of strict hs ts m r =
    let b = balanced-to ts r.2 in
    record { terms = ts; among = m; positive = r.1; a = b.a; b = b.b; c = b.c; negative = negative_offset strict ts r }

-- the same of factors that refute
pub hit_refute : (strict : Bool) (hs : List HalfSpace) → AllByRecursion IsSmall hs → (ts : List Multiple) → Among (half_spaces_of ts) hs → Refute strict ts → Hit strict (half_spaces_of ts)
unfolding contradiction_of
hit_refute strict hs small ts m r = hit_contradiction strict hs small (contradiction_of strict hs ts m r)

-- a value refutes
pub value_refutes : (strict : Bool) (ks : List HalfSpace) (us : List Multiple) → Value strict ks us → Refute strict us
value_refutes strict ks us v =
    let n = v.some in
    let l = sym (length-half_spaces us) ∙ ap length v.same in
    (subst (λ x. 0 < x) (sym l) n, v.refutes.positive, balanced-from us v.refutes.a v.refutes.b v.refutes.c, v.refutes.contradiction)
