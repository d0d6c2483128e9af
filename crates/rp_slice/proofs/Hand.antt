-- The search for a flat certificate goes hand in hand with the search for a refutation on the plane.
use Rattle.std.proofs.Common.{◌≡◌, ℤ, pos, neg_ℤ, ◌+ℤ◌, ◌-ℤ◌, ◌*ℤ◌, Bool, true, false, ◌&&◌, not, List, [], ◌∷◌, ◌⊎◌, inl, inr, ⊎_elim, Option, Some, None, refl, sym, ap, ◌∙◌, subst, arith}
use Rattle.std.specs.List.{AllByRecursion}
use Rattle.std.proofs.lemmas.Int.{ints}
use Rattle.rp_algebra.specs.Integer.{is_zero}
use Rattle.rp_algebra.proofs.Reify.{by_ring_at, reify}
use Rattle.rp_algebra.proofs.Tests.{and_first, and_second, and_true, zero_is, is_zero_true, false_not_true, same_test}
use Rattle.rp_algebra.proofs.Options.{or_else}
use Rattle.rp_algebra.proofs.Listed.{Listed, first, later}
use Rattle.rp_geometry.specs.Geometry.{HalfSpace}
use Rattle.rp_geometry.specs.searches.Certificate.{Multiple, weighted_sum}
use Rattle.rp_geometry.specs.searches.Search.{first_of, first_of_pairs, first_of_triples, first_of_quadruples}
use Rattle.rp_geometry.specs.searches.Vertex.{det2, det3}
use Rattle.rp_geometry.specs.searches.Elimination.{multiple_of, half_spaces_of, normal_terms, minors_of_two, minors_on_axes, minors_of_three, minors_of_four, is_refutation, terms_if, refutation_of_one, refutation_of_two, refutation_of_three, refutation_of_four, first_refutation}
use Rattle.rp_geometry.specs.sections.Trace.{has_trace, holds_level, with_sides}
use Rattle.rp_geometry.specs.sections.Flat.{is_trace_kind, is_flat_refutation, flat_terms_if, flat_of_one, flat_of_two, flat_of_three, first_flat}
use Rattle.rp_convex.proofs.Relations.{two_by, three_by}
use Rattle.rp_convex.proofs.LowestMultiples.{half_spaces_of-normal}
use Rattle.rp_slice.proofs.Traces.{direction_of}
use Rattle.rp_slice.proofs.Planar.{plane_by, plane, planes, planar, planar_of, plane_is, third_by, IsNowhere, nowhere_by, flat_refutation-to, flat_refutation-from, refutation_to, HaveTraces, tests_agree, given, normal-planar, none_of_zero, flat_none_of_zero, flat_none}

module _ (z : ℤ) where
  -- ---- one half-space
  -- the number of a single multiple
  single : (v : ℤ) → pos 1 *ℤ v +ℤ pos 0 ≡ v
  single v = by_ring_at (v ∷ []) (search reify depth 40 fits 100000) tt

  -- with a trace it refutes nowhere
  one_with : (h : HalfSpace) → has_trace h ≡ true → weighted_sum (λ k. k.a) (multiple_of (pos 1) h ∷ []) ≡ pos 0 → weighted_sum (λ k. k.b) (multiple_of (pos 1) h ∷ []) ≡ pos 0 → ⊥
  one_with h e a b = direction_of h e (sym (single h.a) ∙ a) (sym (single h.b) ∙ b)

  -- an answer of `not`
  not_true : (b : Bool) → not b ≡ true → b ≡ false
  not_true true e = absurd (false_not_true false e refl)
  not_true false e = refl

  -- a single trace kind has a trace
  trace_single : (h : HalfSpace) → is_trace_kind z (multiple_of (pos 1) h ∷ []) ≡ true → has_trace h ≡ true
  trace_single h e = and_first (has_trace h) _ (and_first _ _ e)

  -- the tests agree, by whether there is a trace and whether the height is held
  one_agrees : (h : HalfSpace) (b l : Bool) → has_trace h ≡ b → holds_level z h ≡ l → is_refutation true (multiple_of (pos 1) (plane_by b l z h) ∷ []) ≡ is_flat_refutation z (multiple_of (pos 1) h ∷ [])
  one_agrees h true l e f = same_test _ _
      (λ k. let r = refutation_to (multiple_of (pos 1) (plane_by true l z h) ∷ []) k in absurd (one_with h e r.a r.b))
      (λ k. let r = flat_refutation-to z (multiple_of (pos 1) h ∷ []) k in absurd (one_with h e r.a r.b))
  one_agrees h false true e f = same_test _ _
      (λ k. let r = refutation_to (multiple_of (pos 1) (plane_by false true z h) ∷ []) k in absurd (false_not_true false r.contradiction refl))
      (λ k. let r = flat_refutation-to z (multiple_of (pos 1) h ∷ []) k in absurd (⊎_elim
      (λ m. false_not_true (holds_level z h) f (not_true (holds_level z h) (and_second (not (has_trace h)) _ m)))
      (λ m. false_not_true (has_trace h) (trace_single h m) e) r.kind))
  one_agrees h false false e f = same_test _ _
      (λ k. flat_refutation-from z (multiple_of (pos 1) h ∷ []) (record {
        positive = (omega (arith, ints), tt);
        a = single h.a ∙ (level_zero h e).0;
        b = single h.b ∙ (level_zero h e).1;
        kind = inl (and_true _ _ (ap not e) (ap not f));
      }))
      (λ k. refl)
    where
      level_zero : (h : HalfSpace) → has_trace h ≡ false → (h.a ≡ pos 0) × (h.b ≡ pos 0)
      level_zero h e = let k = both (is_zero h.a && is_zero h.b) e in (zero_is h.a (and_first (is_zero h.a) _ k), zero_is h.b (and_second (is_zero h.a) _ k))
        where
          both : (x : Bool) → not x ≡ false → x ≡ true
          both true e = refl
          both false e = absurd (false_not_true true refl e)

  -- one half-space, on the plane and flatly
  pub one_is : (h : HalfSpace) → refutation_of_one true (plane z h) ≡ planar_of z (flat_of_one z h)
  unfolding refutation_of_one flat_of_one
  one_is h = given z (multiple_of (pos 1) h ∷ []) (one_agrees h (has_trace h) (holds_level z h) refl refl)

  -- ---- two half-spaces
  -- the choice for two, of half-spaces with traces
  two_planar : (g h : HalfSpace) (s t : Bool) → not (s && t) ≡ true → has_trace g ≡ true → has_trace h ≡ true → two_by s t (plane z g) (plane z h) ≡ planar z (two_by s t g h)
  two_planar g h false t e eg eh = λ i. multiple_of (plane_is z h eh i).a (plane z g) ∷ multiple_of (neg_ℤ (plane_is z g eg i).a) (plane z h) ∷ []
  two_planar g h true false e eg eh = λ i. multiple_of (plane_is z h eh i).b (plane z g) ∷ multiple_of (neg_ℤ (plane_is z g eg i).b) (plane z h) ∷ []
  two_planar g h true true e eg eh = absurd (false_not_true false e refl)

  -- the minors of two, of half-spaces with traces
  minors_planar : (g h : HalfSpace) → has_trace g ≡ true → has_trace h ≡ true → minors_of_two (plane z g) (plane z h) ≡ planar z (minors_of_two g h)
  minors_planar g h eg eh =
      (λ i. two_by (is_zero (plane_is z g eg i).a) (is_zero (plane_is z g eg i).b) (plane z g) (plane z h))
      ∙ two_planar g h (is_zero g.a) (is_zero g.b) eg eg eh

  -- the half-spaces of minors of two
  pub two_by-of : (s t : Bool) (f g : HalfSpace) → half_spaces_of (two_by s t f g) ≡ f ∷ g ∷ []
  two_by-of false t f g = refl
  two_by-of true false f g = refl
  two_by-of true true f g = refl

  -- where the half-spaces have traces, the terms have
  spaces_to : (ts : List Multiple) (ks : List HalfSpace) → half_spaces_of ts ≡ ks → AllByRecursion (λ h. has_trace h ≡ true) ks → HaveTraces z ts
  spaces_to ts ks e h = by_spaces ts (subst (λ (gs : List HalfSpace). AllByRecursion (λ h. has_trace h ≡ true) gs) (sym e) h)
    where
      by_spaces : (us : List Multiple) → AllByRecursion (λ h. has_trace h ≡ true) (half_spaces_of us) → HaveTraces z us
      by_spaces [] k = tt
      by_spaces (u ∷ us) k = (k.0, by_spaces us k.1)

  -- the same of their normal form
  normal_have : (g h : HalfSpace) → has_trace g ≡ true → has_trace h ≡ true → HaveTraces z (normal_terms (minors_of_two g h))
  normal_have g h eg eh = spaces_to (normal_terms (minors_of_two g h)) (g ∷ h ∷ []) (half_spaces_of-normal (minors_of_two g h) ∙ two_by-of (is_zero g.a) (is_zero g.b) g h) (eg, (eh, tt))

  -- the first minor of two is 0 where one has no trace
  first_of_two : (g h : HalfSpace) (s t : Bool) → is_zero g.a ≡ s → is_zero g.b ≡ t → g.c ≡ pos 0 → h.c ≡ pos 0 → (IsNowhere g) ⊎ (IsNowhere h) → (u : Multiple) × Listed u (two_by s t g h) × (u.factor ≡ pos 0)
  first_of_two g h false t es et cg ch n = (multiple_of h.a g, first, ⊎_elim (λ m. absurd (false_not_true (is_zero g.a) (is_zero_true g.a m.a) es)) (λ m. m.a) n)
  first_of_two g h true false es et cg ch n = (multiple_of h.b g, first, ⊎_elim (λ m. absurd (false_not_true (is_zero g.b) (is_zero_true g.b m.b) et)) (λ m. m.b) n)
  first_of_two g h true true es et cg ch n = (multiple_of h.c g, first, ch)

  -- so neither search has a value there
  two_none : (g h : HalfSpace) → (IsNowhere (plane z g)) ⊎ (IsNowhere (plane z h)) → (AllByRecursion (λ k. has_trace k ≡ true) (g ∷ h ∷ []) → ⊥) → terms_if true (normal_terms (minors_of_two (plane z g) (plane z h))) ≡ planar_of z (flat_terms_if z (normal_terms (minors_of_two g h)))
  two_none g h n m =
      let u = first_of_two (plane z g) (plane z h) (is_zero (plane z g).a) (is_zero (plane z g).b) refl refl (third_by (has_trace g) (holds_level z g) z g) (third_by (has_trace h) (holds_level z h) z h) n in
      none_of_zero (minors_of_two (plane z g) (plane z h)) u.0 u.1 u.2
      ∙ sym (ap (planar_of z) (flat_none z (g ∷ h ∷ []) (minors_of_two g h) (two_by-of (is_zero g.a) (is_zero g.b) g h) (λ e. omega (arith, e)) m))

  -- two half-spaces, by whether they have traces
  two_by_traces : (g h : HalfSpace) (b c : Bool) → has_trace g ≡ b → has_trace h ≡ c → terms_if true (normal_terms (minors_of_two (plane z g) (plane z h))) ≡ planar_of z (flat_terms_if z (normal_terms (minors_of_two g h)))
  two_by_traces g h true true eg eh =
      ap (λ (ms : List Multiple). terms_if true (normal_terms ms)) (minors_planar g h eg eh)
      ∙ ap (λ (us : List Multiple). terms_if true us) (normal-planar z (minors_of_two g h))
      ∙ given z (normal_terms (minors_of_two g h)) (tests_agree z (normal_terms (minors_of_two g h)) (normal_have g h eg eh))
  two_by_traces g h true false eg eh = two_none g h (inr (nowhere_by (has_trace h) (holds_level z h) z h eh)) (λ k. false_not_true (has_trace h) k.1.0 eh)
  two_by_traces g h false c eg eh = two_none g h (inl (nowhere_by (has_trace g) (holds_level z g) z g eg)) (λ k. false_not_true (has_trace g) k.0 eg)

  -- two half-spaces, on the plane and flatly
  pub two_is : (g h : HalfSpace) → refutation_of_two true (plane z g) (plane z h) ≡ planar_of z (flat_of_two z g h)
  unfolding refutation_of_two flat_of_two
  two_is g h = two_by_traces g h (has_trace g) (has_trace h) refl refl

  -- ---- three half-spaces
  -- a determinant with a column of zeros
  det2_last : (a b c d : ℤ) → b ≡ pos 0 → d ≡ pos 0 → det2 a b c d ≡ pos 0
  det2_last a b c d eb ed = (λ i. a *ℤ ed i -ℤ eb i *ℤ c) ∙ by_ring_at (a ∷ c ∷ []) (search reify depth 40 fits 100000) tt

  -- a determinant with a row of zeros
  det2_row : (a b c d : ℤ) → c ≡ pos 0 → d ≡ pos 0 → det2 a b c d ≡ pos 0
  det2_row a b c d ec ed = (λ i. a *ℤ ed i -ℤ b *ℤ ec i) ∙ by_ring_at (a ∷ b ∷ []) (search reify depth 40 fits 100000) tt

  -- a determinant with a first row of zeros
  det2_head : (a b c d : ℤ) → a ≡ pos 0 → b ≡ pos 0 → det2 a b c d ≡ pos 0
  det2_head a b c d ea eb = (λ i. ea i *ℤ d -ℤ eb i *ℤ c) ∙ by_ring_at (c ∷ d ∷ []) (search reify depth 40 fits 100000) tt

  -- the first minor of three is 0 where the first two lean alike, or one has no trace
  first_of_three : (f g h : HalfSpace) (s t : Bool) → is_zero (det2 f.a f.b g.a g.b) ≡ s → g.c ≡ pos 0 → h.c ≡ pos 0 → (s ≡ true) ⊎ (IsNowhere h) → (u : Multiple) × Listed u (three_by s t f g h) × (u.factor ≡ pos 0)
  first_of_three f g h false t e cg ch n = (_, first, det2_row g.a g.b h.a h.b (⊎_elim (λ k. absurd (false_not_true false k refl)) (λ m. m.a) n) (⊎_elim (λ k. absurd (false_not_true false k refl)) (λ m. m.b) n))
  first_of_three f g h true false e cg ch n = (_, first, det2_last g.a g.c h.a h.c cg ch)
  first_of_three f g h true true e cg ch n = (_, first, det2_last g.b g.c h.b h.c cg ch)

  -- the minors of three on the first two axes
  abbrev flat_minors : HalfSpace → HalfSpace → HalfSpace → List Multiple
  flat_minors f g h = minors_on_axes f g h (λ k. k.a) (λ k. k.b)

  -- the last of them is 0 where the first two lean alike
  last_of_three : (f g h : HalfSpace) → det2 f.a f.b g.a g.b ≡ pos 0 → (u : Multiple) × Listed u (flat_minors f g h) × (u.factor ≡ pos 0)
  last_of_three f g h e = (multiple_of (det2 f.a f.b g.a g.b) h, later (later first), e)

  -- neither search has a value where the first two lean alike on the plane, or the last has no trace there, and flatly there is none
  three_none : (f g h : HalfSpace) → (is_zero (det2 (plane z f).a (plane z f).b (plane z g).a (plane z g).b) ≡ true) ⊎ (IsNowhere (plane z h)) → flat_terms_if z (normal_terms (flat_minors f g h)) ≡ None
      → terms_if true (normal_terms (minors_of_three (plane z f) (plane z g) (plane z h))) ≡ planar_of z (flat_terms_if z (normal_terms (flat_minors f g h)))
  three_none f g h n e =
      let u = first_of_three (plane z f) (plane z g) (plane z h) (is_zero (det2 (plane z f).a (plane z f).b (plane z g).a (plane z g).b)) (is_zero (det2 (plane z f).a (plane z f).c (plane z g).a (plane z g).c)) refl
      (third_by (has_trace g) (holds_level z g) z g) (third_by (has_trace h) (holds_level z h) z h) n in
      none_of_zero (minors_of_three (plane z f) (plane z g) (plane z h)) u.0 u.1 u.2 ∙ sym (ap (planar_of z) e)

  -- flatly there is none where one has no trace
  three_flat : (f g h : HalfSpace) → (AllByRecursion (λ k. has_trace k ≡ true) (f ∷ g ∷ h ∷ []) → ⊥) → flat_terms_if z (normal_terms (flat_minors f g h)) ≡ None
  three_flat f g h m = flat_none z (f ∷ g ∷ h ∷ []) (flat_minors f g h) refl (λ e. omega (arith, e)) m

  -- three with traces, by whether the first two lean alike
  three_by_lean : (f g h : HalfSpace) (s : Bool) → is_zero (det2 f.a f.b g.a g.b) ≡ s → has_trace f ≡ true → has_trace g ≡ true → has_trace h ≡ true
      → terms_if true (normal_terms (minors_of_three (plane z f) (plane z g) (plane z h))) ≡ planar_of z (flat_terms_if z (normal_terms (flat_minors f g h)))
  three_by_lean f g h true e ef eg eh =
      let l = last_of_three f g h (zero_is _ e) in
      three_none f g h (inl ((λ i. is_zero (det2 (plane_is z f ef i).a (plane_is z f ef i).b (plane_is z g eg i).a (plane_is z g eg i).b)) ∙ e)) (flat_none_of_zero z (flat_minors f g h) l.0 l.1 l.2)
  three_by_lean f g h false e ef eg eh =
      ap (λ (ms : List Multiple). terms_if true (normal_terms ms)) (chosen ∙ same)
      ∙ ap (λ (us : List Multiple). terms_if true us) (normal-planar z (flat_minors f g h))
      ∙ given z (normal_terms (flat_minors f g h)) (tests_agree z (normal_terms (flat_minors f g h)) (spaces_to (normal_terms (flat_minors f g h)) (f ∷ g ∷ h ∷ []) (half_spaces_of-normal (flat_minors f g h)) (ef, (eg, (eh, tt)))))
    where
      chosen : minors_of_three (plane z f) (plane z g) (plane z h) ≡ flat_minors (plane z f) (plane z g) (plane z h)
      chosen = λ i. three_by (((λ j. is_zero (det2 (plane_is z f ef j).a (plane_is z f ef j).b (plane_is z g eg j).a (plane_is z g eg j).b)) ∙ e) i) (is_zero (det2 (plane z f).a (plane z f).c (plane z g).a (plane z g).c)) (plane z f) (plane z g) (plane z h)

      same : flat_minors (plane z f) (plane z g) (plane z h) ≡ planar z (flat_minors f g h)
      same = λ i. multiple_of (det2 (plane_is z g eg i).a (plane_is z g eg i).b (plane_is z h eh i).a (plane_is z h eh i).b) (plane z f)
          ∷ multiple_of (neg_ℤ (det2 (plane_is z f ef i).a (plane_is z f ef i).b (plane_is z h eh i).a (plane_is z h eh i).b)) (plane z g)
          ∷ multiple_of (det2 (plane_is z f ef i).a (plane_is z f ef i).b (plane_is z g eg i).a (plane_is z g eg i).b) (plane z h) ∷ []

  -- three half-spaces, by whether they have traces
  three_by_traces : (f g h : HalfSpace) (a b c : Bool) → has_trace f ≡ a → has_trace g ≡ b → has_trace h ≡ c → terms_if true (normal_terms (minors_of_three (plane z f) (plane z g) (plane z h))) ≡ planar_of z (flat_terms_if z (normal_terms (flat_minors f g h)))
  three_by_traces f g h true true true ef eg eh = three_by_lean f g h (is_zero (det2 f.a f.b g.a g.b)) refl ef eg eh
  three_by_traces f g h true true false ef eg eh = three_none f g h (inr (nowhere_by (has_trace h) (holds_level z h) z h eh)) (three_flat f g h (λ k. false_not_true (has_trace h) k.1.1.0 eh))
  three_by_traces f g h true false c ef eg eh =
      let n = nowhere_by (has_trace g) (holds_level z g) z g eg in
      three_none f g h (inl (is_zero_true _ (det2_row (plane z f).a (plane z f).b (plane z g).a (plane z g).b n.a n.b))) (three_flat f g h (λ k. false_not_true (has_trace g) k.1.0 eg))
  three_by_traces f g h false b c ef eg eh =
      let n = nowhere_by (has_trace f) (holds_level z f) z f ef in
      three_none f g h (inl (is_zero_true _ (det2_head (plane z f).a (plane z f).b (plane z g).a (plane z g).b n.a n.b))) (three_flat f g h (λ k. false_not_true (has_trace f) k.0 ef))

  -- three half-spaces, on the plane and flatly
  pub three_is : (f g h : HalfSpace) → refutation_of_three true (plane z f) (plane z g) (plane z h) ≡ planar_of z (flat_of_three z f g h)
  unfolding refutation_of_three flat_of_three
  three_is f g h = three_by_traces f g h (has_trace f) (has_trace g) (has_trace h) refl refl refl

  -- ---- four half-spaces
  -- a minor of third order with a column of zeros
  det3_last : (a b c d e f g h i : ℤ) → c ≡ pos 0 → f ≡ pos 0 → i ≡ pos 0 → det3 a b c d e f g h i ≡ pos 0
  det3_last a b c d e f g h i ec ef ei =
      (λ k. det3 a b (ec k) d e (ef k) g h (ei k)) ∙ by_ring_at (a ∷ b ∷ d ∷ e ∷ g ∷ h ∷ []) (search reify depth 40 fits 100000) tt

  -- four half-spaces refute nothing on the plane
  pub four_is : (e f g h : HalfSpace) → refutation_of_four true (plane z e) (plane z f) (plane z g) (plane z h) ≡ None
  unfolding refutation_of_four
  four_is e f g h =
      none_of_zero (minors_of_four (plane z e) (plane z f) (plane z g) (plane z h)) _ first
      (det3_last (plane z f).a (plane z f).b (plane z f).c (plane z g).a (plane z g).b (plane z g).c (plane z h).a (plane z h).b (plane z h).c
      (third_by (has_trace f) (holds_level z f) z f) (third_by (has_trace g) (holds_level z g) z g) (third_by (has_trace h) (holds_level z h) z h))

  -- ---- the searches
  -- one answer or else another, on the plane
  planar_or_else : (o r : Option (List Multiple)) → or_else (planar_of z o) (planar_of z r) ≡ planar_of z (or_else o r)
  planar_or_else (Some ts) r = refl
  planar_or_else None r = refl

  -- the search of the items
  search_one : (f g : HalfSpace → Option (List Multiple)) → ((h : HalfSpace) → g (plane z h) ≡ planar_of z (f h)) → (hs : List HalfSpace) → first_of g (planes z hs) ≡ planar_of z (first_of f hs)
  search_one f g e [] = refl
  search_one f g e (x ∷ hs) = (λ i. or_else (e x i) (search_one f g e hs i)) ∙ planar_or_else (f x) (first_of f hs)

  -- the search of the pairs
  search_two : (f g : HalfSpace → HalfSpace → Option (List Multiple)) → ((k h : HalfSpace) → g (plane z k) (plane z h) ≡ planar_of z (f k h)) → (hs : List HalfSpace) → first_of_pairs g (planes z hs) ≡ planar_of z (first_of_pairs f hs)
  search_two f g e [] = refl
  search_two f g e (x ∷ hs) = (λ i. or_else (search_one (f x) (g (plane z x)) (e x) hs i) (search_two f g e hs i)) ∙ planar_or_else (first_of (f x) hs) (first_of_pairs f hs)

  -- the search of the triples
  search_three : (f g : HalfSpace → HalfSpace → HalfSpace → Option (List Multiple)) → ((j k h : HalfSpace) → g (plane z j) (plane z k) (plane z h) ≡ planar_of z (f j k h)) → (hs : List HalfSpace) → first_of_triples g (planes z hs) ≡ planar_of z (first_of_triples f hs)
  search_three f g e [] = refl
  search_three f g e (x ∷ hs) = (λ i. or_else (search_two (f x) (g (plane z x)) (e x) hs i) (search_three f g e hs i)) ∙ planar_or_else (first_of_pairs (f x) hs) (first_of_triples f hs)

  -- the search of four, which finds nothing
  search_four : (f g : HalfSpace → HalfSpace → HalfSpace → HalfSpace → Option (List Multiple)) → ((i j k h : HalfSpace) → g (plane z i) (plane z j) (plane z k) (plane z h) ≡ planar_of z (f i j k h)) → (hs : List HalfSpace) → first_of_quadruples g (planes z hs) ≡ planar_of z (first_of_quadruples f hs)
  search_four f g e [] = refl
  search_four f g e (x ∷ hs) = (λ i. or_else (search_three (f x) (g (plane z x)) (e x) hs i) (search_four f g e hs i)) ∙ planar_or_else (first_of_triples (f x) hs) (first_of_quadruples f hs)

  -- searches that find nothing
  nothing_one : (hs : List HalfSpace) → first_of {B = List Multiple} (λ h. None) hs ≡ None
  nothing_one [] = refl
  nothing_one (x ∷ hs) = nothing_one hs

  nothing_two : (hs : List HalfSpace) → first_of_pairs {B = List Multiple} (λ g h. None) hs ≡ None
  nothing_two [] = refl
  nothing_two (x ∷ hs) = (λ i. or_else (nothing_one hs i) (nothing_two hs i))

  nothing_three : (hs : List HalfSpace) → first_of_triples {B = List Multiple} (λ f g h. None) hs ≡ None
  nothing_three [] = refl
  nothing_three (x ∷ hs) = (λ i. or_else (nothing_two hs i) (nothing_three hs i))

  nothing_four : (hs : List HalfSpace) → first_of_quadruples {B = List Multiple} (λ e f g h. None) hs ≡ None
  nothing_four [] = refl
  nothing_four (x ∷ hs) = (λ i. or_else (nothing_three hs i) (nothing_four hs i))

  -- one answer or else none
  or_none : (o : Option (List Multiple)) → or_else o None ≡ o
  or_none (Some ts) = refl
  or_none None = refl

  -- the search on the plane finds what the flat search finds
  pub search_is : (cell : List HalfSpace) → first_refutation true (planes z (with_sides cell)) ≡ planar_of z (first_flat z cell)
  unfolding first_flat
  search_is cell =
      let hs = with_sides cell in
      (λ i. or_else (search_one (flat_of_one z) (refutation_of_one true) one_is hs i) (or_else (search_two (flat_of_two z) (refutation_of_two true) two_is hs i) (or_else (search_three (flat_of_three z) (refutation_of_three true) three_is hs i) ((search_four (λ e f g h. None) (refutation_of_four true) four_is hs ∙ ap (planar_of z) (nothing_four hs)) i))))
      ∙ (λ i. or_else (planar_of z (first_of (flat_of_one z) hs)) (or_else (planar_of z (first_of_pairs (flat_of_two z) hs)) (or_none (planar_of z (first_of_triples (flat_of_three z) hs)) i)))
      ∙ ap (or_else (planar_of z (first_of (flat_of_one z) hs))) (planar_or_else (first_of_pairs (flat_of_two z) hs) (first_of_triples (flat_of_three z) hs))
      ∙ planar_or_else (first_of (flat_of_one z) hs) (or_else (first_of_pairs (flat_of_two z) hs) (first_of_triples (flat_of_three z) hs))
