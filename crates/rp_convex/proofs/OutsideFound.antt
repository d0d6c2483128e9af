-- The search by signed minors: what it finds is an outside certificate, and it finds one where there is a refutation.
use Rattle.std.proofs.Common.{◌≡◌, pos, ◌<ℤ◌, Bool, true, false, List, [], ◌∷◌, length, ⊎_elim, Option, Some, None, refl, sym, ap, ◌∙◌, subst}
use Rattle.std.specs.Prelude.{IsTrue, IsSome}
use Rattle.std.specs.List.{AllByRecursion}
use Rattle.rp_algebra.specs.Integer.{is_positive}
use Rattle.rp_geometry.specs.Geometry.{RationalPoint, HalfSpace, with_cube}
use Rattle.rp_geometry.specs.searches.Certificate.{Multiple, is_one_to_four, is_balanced, is_contradiction, is_outside_certificate}
use Rattle.rp_geometry.specs.searches.Search.{first_of, first_of_pairs, first_of_triples, first_of_quadruples}
use Rattle.rp_geometry.specs.searches.Elimination.{multiple_of, half_spaces_of, negated_terms, normal_terms, minors_of_two, minors_of_three, minors_of_four, is_refutation, terms_if, refutation_of_one, refutation_of_two, refutation_of_three, refutation_of_four, first_refutation, first_outside}
use Rattle.rp_geometry.specs.laws.CellLaws.{AreHalfSpaces, IsSolution, FindsOutside, OutsideIsFound}
use Rattle.rp_convex.proofs.Combination.{Among, IsSmall, IsCandidate, Refutation}
use Rattle.rp_convex.proofs.Sums.{length-half_spaces}
use Rattle.rp_convex.proofs.Cone.{among_all}
use Rattle.rp_convex.proofs.Relations.{minors_of_two-small, minors_of_three-small, minors_of_four-small, small_unit}
use Rattle.rp_algebra.proofs.Tests.{and_true, and_first, and_second, positive_is, false_not_true}
use Rattle.rp_algebra.proofs.Options.{none_not_some, some_not_none, same_some, if_some, or_else, or_else_found, or_else_none}
use Rattle.rp_algebra.proofs.Listed.{list_all_is}
use Rattle.rp_convex.proofs.Tests.{listed-from}
use Rattle.rp_convex.proofs.LowestMultiples.{AreFactorsSmall, Refutes, refutation-from, refutes_normal, refutes_normal_negated, half_spaces_of-normal, normal_small}
use Rattle.rp_convex.proofs.Searched.{found_one, found_two, found_three, found_four, missed_one, missed_two, missed_three, missed_four}
use Rattle.rp_convex.proofs.Bounds.{small_with_cube}
use Rattle.rp_convex.proofs.Weak.{point_or_refutation}
use Rattle.rp_convex.proofs.Alternative.{offset_of, contradiction-from, terms-from, solution-from}
use Rattle.rp_convex.proofs.Never.{never_both}

-- ---- what is found
-- terms of half-spaces of the list, that refute
pub record Passed (strict : Bool) (hs : List HalfSpace) (ts : List Multiple) : Type 0 where
  pub among : Among (half_spaces_of ts) hs
  pub some : is_one_to_four (length ts) ≡ true
  pub small : AreFactorsSmall ts
  pub refutes : is_refutation strict ts ≡ true

-- terms that are given refute
pub terms_if-is : (strict : Bool) (ts us : List Multiple) → terms_if strict ts ≡ Some us → (ts ≡ us) × (is_refutation strict ts ≡ true)
terms_if-is strict ts us e =
    elim (is_refutation strict ts) as (λ b. is_refutation strict ts ≡ b → elim b [ true ↦ Some ts | false ↦ None ] ≡ Some us → (ts ≡ us) × (is_refutation strict ts ≡ true)) [
      | true ↦ λ t s. (same_some ts us s, t)
      | false ↦ λ t s. absurd (none_not_some us s)
    ] refl e

-- terms that are not given do not refute
terms_if-none : (strict : Bool) (ts : List Multiple) → terms_if strict ts ≡ None → is_refutation strict ts ≡ true → ⊥
terms_if-none strict ts e r = some_not_none ts ((λ i. elim (sym r i) [ true ↦ Some ts | false ↦ None ]) ∙ e)

-- terms in normal form of some half-spaces
passed_normal : (strict : Bool) (hs ks : List HalfSpace) (ts us : List Multiple) → Among ks hs → half_spaces_of ts ≡ ks → is_one_to_four (length ks) ≡ true → AreFactorsSmall ts → terms_if strict (normal_terms ts) ≡ Some us → Passed strict hs us
passed_normal strict hs ks ts us m same n small e =
    let r = terms_if-is strict (normal_terms ts) us e in
    let spaces = half_spaces_of-normal ts ∙ same in
    subst (λ vs. Passed strict hs vs) r.0 (record {
      among = subst (λ gs. Among gs hs) (sym spaces) m;
      some = ap is_one_to_four (sym (length-half_spaces (normal_terms ts)) ∙ ap length spaces) ∙ n;
      small = normal_small ts small;
      refutes = r.1;
    })

module _ (strict : Bool) (hs : List HalfSpace) (small : AllByRecursion IsSmall hs) (us : List Multiple) where
  -- a find of one half-space has passed
  passed_one : (h : HalfSpace) → Among (h ∷ []) hs → refutation_of_one strict h ≡ Some us → Passed strict hs us
  unfolding refutation_of_one
  passed_one h m e =
      let r = terms_if-is strict (multiple_of (pos 1) h ∷ []) us e in
      subst (λ vs. Passed strict hs vs) r.0 (record { among = m; some = refl; small = (small_unit, tt); refutes = r.1 })

  -- a find of two half-spaces has passed
  passed_two : (g h : HalfSpace) → Among (g ∷ h ∷ []) hs → refutation_of_two strict g h ≡ Some us → Passed strict hs us
  unfolding refutation_of_two
  passed_two g h m e =
      let s = among_all IsSmall m small in
      let k = minors_of_two-small g h s.0 s.1.0 in
      passed_normal strict hs (g ∷ h ∷ []) (minors_of_two g h) us m k.0 refl k.1 e

  -- a find of three half-spaces has passed
  passed_three : (f g h : HalfSpace) → Among (f ∷ g ∷ h ∷ []) hs → refutation_of_three strict f g h ≡ Some us → Passed strict hs us
  unfolding refutation_of_three
  passed_three f g h m e =
      let s = among_all IsSmall m small in
      let k = minors_of_three-small f g h s.0 s.1.0 s.1.1.0 in
      passed_normal strict hs (f ∷ g ∷ h ∷ []) (minors_of_three f g h) us m k.0 refl k.1 e

  -- a find of four half-spaces has passed
  passed_four : (d f g h : HalfSpace) → Among (d ∷ f ∷ g ∷ h ∷ []) hs → refutation_of_four strict d f g h ≡ Some us → Passed strict hs us
  unfolding refutation_of_four
  passed_four d f g h m e =
      let s = among_all IsSmall m small in
      let k = minors_of_four-small d f g h s.0 s.1.0 s.1.1.0 s.1.1.1.0 in
      passed_normal strict hs (d ∷ f ∷ g ∷ h ∷ []) (minors_of_four d f g h) us m refl refl k e

  -- what the search finds has passed
  pub passed : first_refutation strict hs ≡ Some us → Passed strict hs us
  passed e =
      ⊎_elim
      (λ s. let r = found_one (refutation_of_one strict) hs us s in passed_one r.0 r.1 r.2)
      (λ l. ⊎_elim
      (λ s. let r = found_two (refutation_of_two strict) hs us s in passed_two r.0 r.1 r.2 r.3)
      (λ l. ⊎_elim
      (λ s. let r = found_three (refutation_of_three strict) hs us s in passed_three r.0 r.1 r.2 r.3 r.4)
      (λ s. let r = found_four (refutation_of_four strict) hs us s.1 in passed_four r.0 r.1 r.2 r.3 r.4 r.5)
      (or_else_found (first_of_triples (refutation_of_three strict) hs) (first_of_quadruples (refutation_of_four strict) hs) us l.1))
      (or_else_found (first_of_pairs (refutation_of_two strict) hs) (or_else (first_of_triples (refutation_of_three strict) hs) (first_of_quadruples (refutation_of_four strict) hs)) us l.1))
      (or_else_found (first_of (refutation_of_one strict) hs) (or_else (first_of_pairs (refutation_of_two strict) hs) (or_else (first_of_triples (refutation_of_three strict) hs) (first_of_quadruples (refutation_of_four strict) hs))) us e)

-- ---- a find is a certificate
-- terms that have passed are an outside certificate
pub passed-certificate : (strict : Bool) (cell : List HalfSpace) (ts : List Multiple) → Passed strict (with_cube cell) ts → is_outside_certificate strict cell ts ≡ true
passed-certificate strict cell ts p =
    let pb = and_first _ (is_contradiction strict ts) p.refutes in
    let positive = list_all_is (λ t. is_positive t.factor) (λ t. pos 0 <ℤ t.factor) (λ t e. positive_is t.factor e) ts (and_first _ (is_balanced ts) pb) in
    and_true _ (is_contradiction strict ts)
    (and_true _ (is_balanced ts)
    (and_true (is_one_to_four (length ts)) _ p.some (terms-from (with_cube cell) ts positive p.small (listed-from p.among)))
    (and_second _ (is_balanced ts) pb))
    (and_second _ (is_contradiction strict ts) p.refutes)

-- ---- nothing is missed
-- a refutation refutes
pub refuting : (strict : Bool) (hs : List HalfSpace) (r : Refutation (offset_of strict) hs) → Refutes strict r.of.terms
refuting strict hs r = record { positive = r.of.positive; a = r.of.a; b = r.of.b; c = r.of.c; contradiction = contradiction-from strict hs r }

-- where the search ends with none, each of the four has missed
pub record Missed (strict : Bool) (hs : List HalfSpace) : Type 0 where
  pub one : first_of (refutation_of_one strict) hs ≡ None
  pub two : first_of_pairs (refutation_of_two strict) hs ≡ None
  pub three : first_of_triples (refutation_of_three strict) hs ≡ None
  pub four : first_of_quadruples (refutation_of_four strict) hs ≡ None

-- a search that ends with none has missed four times
pub missed : (strict : Bool) (hs : List HalfSpace) → first_refutation strict hs ≡ None → Missed strict hs
missed strict hs e =
    let r = or_else_none (first_of (refutation_of_one strict) hs) (or_else (first_of_pairs (refutation_of_two strict) hs) (or_else (first_of_triples (refutation_of_three strict) hs) (first_of_quadruples (refutation_of_four strict) hs))) e in
    let s = or_else_none (first_of_pairs (refutation_of_two strict) hs) (or_else (first_of_triples (refutation_of_three strict) hs) (first_of_quadruples (refutation_of_four strict) hs)) r.1 in
    let t = or_else_none (first_of_triples (refutation_of_three strict) hs) (first_of_quadruples (refutation_of_four strict) hs) s.1 in
    record { one = r.0; two = s.0; three = t.0; four = t.1 }

-- candidates of given minors, in normal form, or those of their negatives
no_normal : (strict : Bool) (ms : List Multiple) (t : Multiple) (ts : List Multiple) → ms ≡ t ∷ ts → terms_if strict (normal_terms ms) ≡ None → Refutes strict (t ∷ ts) → ⊥
no_normal strict ms t ts e n r = terms_if-none strict (normal_terms ms) n (refutation-from strict (normal_terms ms) (subst (λ us. Refutes strict (normal_terms us)) (sym e) (refutes_normal strict t ts r)))

-- the same of the negatives
no_normal_negated : (strict : Bool) (ms : List Multiple) (t : Multiple) (ts : List Multiple) → ms ≡ t ∷ ts → terms_if strict (normal_terms ms) ≡ None → Refutes strict (negated_terms (t ∷ ts)) → ⊥
no_normal_negated strict ms t ts e n r = terms_if-none strict (normal_terms ms) n (refutation-from strict (normal_terms ms) (subst (λ us. Refutes strict (normal_terms us)) (sym e) (refutes_normal_negated strict t ts r)))

-- no candidate that refutes is missed
pub not_missed : (strict : Bool) (hs : List HalfSpace) (ts : List Multiple) → Missed strict hs → IsCandidate ts → Among (half_spaces_of ts) hs → Refutes strict ts → ⊥
unfolding refutation_of_one refutation_of_two refutation_of_three refutation_of_four
not_missed strict hs ts m (IsCandidate.one h) a r =
    terms_if-none strict (multiple_of (pos 1) h ∷ []) (missed_one (refutation_of_one strict) hs h m.one a) (refutation-from strict (multiple_of (pos 1) h ∷ []) r)
not_missed strict hs ts m (IsCandidate.two f g k n e) a r =
    no_normal strict (minors_of_two f g) (multiple_of k f) (multiple_of n g ∷ []) e (missed_two (refutation_of_two strict) hs f g m.two a) r
not_missed strict hs ts m (IsCandidate.two_negated f g k n e) a r =
    no_normal_negated strict (minors_of_two f g) (multiple_of k f) (multiple_of n g ∷ []) e (missed_two (refutation_of_two strict) hs f g m.two a) r
not_missed strict hs ts m (IsCandidate.three f g h l k n e) a r =
    no_normal strict (minors_of_three f g h) (multiple_of l f) (multiple_of k g ∷ multiple_of n h ∷ []) e (missed_three (refutation_of_three strict) hs f g h m.three a) r
not_missed strict hs ts m (IsCandidate.three_negated f g h l k n e) a r =
    no_normal_negated strict (minors_of_three f g h) (multiple_of l f) (multiple_of k g ∷ multiple_of n h ∷ []) e (missed_three (refutation_of_three strict) hs f g h m.three a) r
not_missed strict hs ts m (IsCandidate.four d f g h j l k n e) a r =
    no_normal strict (minors_of_four d f g h) (multiple_of j d) (multiple_of l f ∷ multiple_of k g ∷ multiple_of n h ∷ []) e (missed_four (refutation_of_four strict) hs d f g h m.four a) r
not_missed strict hs ts m (IsCandidate.four_negated d f g h j l k n e) a r =
    no_normal_negated strict (minors_of_four d f g h) (multiple_of j d) (multiple_of l f ∷ multiple_of k g ∷ multiple_of n h ∷ []) e (missed_four (refutation_of_four strict) hs d f g h m.four a) r

-- ---- the search
module _ (strict : Bool) (cell : List HalfSpace) (bounds : AreHalfSpaces cell) where
  -- what the search finds passes
  found-passes : (us : List Multiple) → first_outside strict cell ≡ Some us → is_outside_certificate strict cell us ≡ true
  unfolding first_outside
  found-passes us e = passed-certificate strict cell us (passed strict (with_cube cell) (small_with_cube cell bounds) us e)

  -- where the search finds none there is a solution
  none-solution : first_outside strict cell ≡ None → (p : RationalPoint) × IsSolution strict cell p
  unfolding first_outside
  none-solution e =
      ⊎_elim
      (λ q. solution-from strict cell q)
      (λ r. absurd (not_missed strict (with_cube cell) r.of.terms (missed strict (with_cube cell) e) r.candidate r.of.among (refuting strict (with_cube cell) r)))
      (point_or_refutation (offset_of strict) (with_cube cell) (small_with_cube cell bounds))

  -- where it finds one there is no solution
  some-none : (o : Option (List Multiple)) → first_outside strict cell ≡ o → IsSome o → (p : RationalPoint) → ¬ IsSolution strict cell p
  some-none (Some us) e s p x = never_both strict cell p us x (found-passes us e)
  some-none None e s p x = absurd (false_not_true false s refl)

  -- where there is no solution it finds one
  none-some : (o : Option (List Multiple)) → first_outside strict cell ≡ o → ((p : RationalPoint) → ¬ IsSolution strict cell p) → IsSome o
  none-some (Some us) e n = refl
  none-some None e n = let s = none-solution e in absurd (n s.0 s.1)

  -- both, of one cell
  pub finds_outside : FindsOutside strict cell
  finds_outside = record {
    passes = if_some (λ us. IsTrue (is_outside_certificate strict cell us)) (first_outside strict cell) found-passes;
    some = (some-none (first_outside strict cell) refl, none-some (first_outside strict cell) refl);
  }

-- the law
pub outside_is_found_spec : OutsideIsFound
outside_is_found_spec strict cell bounds = finds_outside strict cell bounds
