-- The search finds the first flat certificate, and it is the only first one.
use Rattle.std.proofs.Common.{◌≡◌, ℕ, zero, suc, ◌<◌, ◌≤◌, ℤ, pos, negsuc, ◌+ℤ◌, ◌*ℤ◌, ◌≤ℤ◌, ◌<ℤ◌, true, false, not, List, [], ◌∷◌, length, inl, inr, ⊎_elim, Option, Some, None, refl, sym, ap, ◌∙◌, subst, arith}
use Rattle.std.specs.Prelude.{int_le}
use Rattle.std.specs.List.{AllByRecursion, list_all, slice_get}
use Rattle.std.proofs.lemmas.Int.{ints}
use Rattle.rp_algebra.specs.Integer.{is_zero}
use Rattle.rp_algebra.proofs.Numbers.{same_or_less}
use Rattle.rp_algebra.proofs.Reify.{by_ring_at, reify}
use Rattle.rp_algebra.proofs.Tests.{and_first, and_second, at_most_true, false_not_true, false_of_not}
use Rattle.rp_algebra.proofs.Options.{none_not_some, some_not_none, same_some, if_some, or_else, or_else_found}
use Rattle.rp_geometry.specs.Geometry.{HalfSpace}
use Rattle.rp_geometry.specs.searches.Certificate.{Multiple, weighted_sum}
use Rattle.rp_geometry.specs.searches.Search.{first_of, first_of_pairs, first_of_triples}
use Rattle.rp_geometry.specs.searches.Elimination.{multiple_of, half_spaces_of, normal_terms, minors_of_two, minors_on_axes}
use Rattle.rp_geometry.specs.laws.CellLaws.{AreHalfSpaces, StandAt, ComesBefore, AreRising, Refute}
use Rattle.rp_geometry.specs.laws.SectionLaws.{RefuteFlat, IsFirstFlat, FirstFlatIsFirst}
use Rattle.rp_geometry.specs.sections.Trace.{has_trace, holds_level, with_sides}
use Rattle.rp_geometry.specs.sections.Flat.{is_level_kind, is_trace_kind, flat_terms_if, flat_of_one, flat_of_two, flat_of_three, first_flat}
use Rattle.rp_convex.proofs.Combination.{Among, none, skip, take, IsSmall, ArePositive}
use Rattle.rp_convex.proofs.Sums.{length-half_spaces}
use Rattle.rp_convex.proofs.Dropped.{among_among}
use Rattle.rp_convex.proofs.LowestMultiples.{half_spaces_of-normal}
use Rattle.rp_convex.proofs.OutsidePlaces.{places, shifted, length-places, rising_places, stand_places, embed, among_length, among_whole}
use Rattle.rp_convex.proofs.Levels.{first_sub, first_of-is, first_of_pairs-is, first_of_triples-is, missed_sub, FirstSub, found_sub, hit_sub}
use Rattle.rp_convex.proofs.Unique.{IsLowest}
use Rattle.rp_convex.proofs.Tests.{balanced-from}
use Rattle.rp_convex.proofs.Values.{refutation_of, value_of, hit_refute}
use Rattle.rp_convex.proofs.First.{part_before, IsFirstIn, first-found}
use Rattle.rp_slice.proofs.Planar.{plane_by, plane, planes, planar, planar_of, RefutesFlat, flat_refutation-to, traces_to, planar_a, planar_b, planar_c, planar_d, positive_planar, factors_of-planar}
use Rattle.rp_slice.proofs.Hand.{one_is, two_is, three_is, four_is, two_by-of}
use Rattle.rp_slice.proofs.FlatFound.{small_planes, planar_found, given_is}

-- ---- the search at the half-spaces of a list
-- the flat certificate of one, two or three half-spaces
abbrev flat_at : ℤ → List HalfSpace → Option (List Multiple)
flat_at z [] = None
flat_at z (h ∷ []) = flat_of_one z h
flat_at z (g ∷ h ∷ []) = flat_of_two z g h
flat_at z (f ∷ g ∷ h ∷ []) = flat_of_three z f g h
flat_at z (e ∷ f ∷ g ∷ h ∷ hs) = None

-- what the search has at a list
record FlatValue (z : ℤ) (ks : List HalfSpace) (us : List Multiple) : Type 0 where
  same : half_spaces_of us ≡ ks
  some : 0 < length ks
  refutes : RefutesFlat z us

-- terms in normal form
value_normal : (z : ℤ) (ks : List HalfSpace) (ms us : List Multiple) → half_spaces_of ms ≡ ks → 0 < length ks → flat_terms_if z (normal_terms ms) ≡ Some us → FlatValue z ks us
value_normal z ks ms us same n e =
    let r = given_is z (normal_terms ms) us e in
    subst (λ vs. FlatValue z ks vs) r.0 (record { same = half_spaces_of-normal ms ∙ same; some = n; refutes = flat_refutation-to z (normal_terms ms) r.1 })

-- it is a value
flat_value : (z : ℤ) (ks : List HalfSpace) (us : List Multiple) → flat_at z ks ≡ Some us → FlatValue z ks us
unfolding flat_of_one flat_of_two flat_of_three
flat_value z [] us e = absurd (none_not_some us e)
flat_value z (h ∷ []) us e =
    let r = given_is z (multiple_of (pos 1) h ∷ []) us e in
    subst (λ vs. FlatValue z (h ∷ []) vs) r.0 (record { same = refl; some = omega arith; refutes = flat_refutation-to z (multiple_of (pos 1) h ∷ []) r.1 })
flat_value z (g ∷ h ∷ []) us e = value_normal z (g ∷ h ∷ []) (minors_of_two g h) us (two_by-of z (is_zero g.a) (is_zero g.b) g h) (omega arith) e
flat_value z (f ∷ g ∷ h ∷ []) us e = value_normal z (f ∷ g ∷ h ∷ []) (minors_on_axes f g h (λ k. k.a) (λ k. k.b)) us refl (omega arith) e
flat_value z (d ∷ f ∷ g ∷ h ∷ hs) us e = absurd (none_not_some us e)

-- on the plane it has the same
value_is : (z : ℤ) (ks : List HalfSpace) → length ks ≤ 3 → refutation_of true (planes z ks) ≡ planar_of z (flat_at z ks)
value_is z [] n = refl
value_is z (h ∷ []) n = one_is z h
value_is z (g ∷ h ∷ []) n = two_is z g h
value_is z (f ∷ g ∷ h ∷ []) n = three_is z f g h
value_is z (d ∷ f ∷ g ∷ h ∷ hs) n = absurd (omega (arith, n))

-- ---- the first of all
-- a sublist with a value, before which none has one
record FirstAt (z : ℤ) (hs : List HalfSpace) (us : List Multiple) : Type 0 where
  items : List HalfSpace
  at : Among items hs
  value : flat_at z items ≡ Some us
  first : (ks : List HalfSpace) (m : Among ks hs) → ComesBefore (places m) (places at) → flat_at z ks ≡ None

module _ (z : ℤ) (hs : List HalfSpace) where
  -- the search of a level
  abbrev level : ℕ → Option (List Multiple)
  level k = first_sub k (flat_at z) hs

  -- no smaller level has a value
  abbrev NoneBelow : ℕ → Type 0
  NoneBelow k = (j : ℕ) → j < k → level j ≡ None

  -- the search by levels
  by_levels : or_else (first_of (flat_of_one z) hs) (or_else (first_of_pairs (flat_of_two z) hs) (first_of_triples (flat_of_three z) hs)) ≡ or_else (level 1) (or_else (level 2) (level 3))
  by_levels = λ i. or_else (first_of-is (flat_at z) hs i) (or_else (first_of_pairs-is (flat_at z) hs i) (first_of_triples-is (flat_at z) hs i))

  -- level 0 has no value
  below_one : NoneBelow 1
  below_one zero h = refl
  below_one (suc j) h = absurd (omega (arith, h))

  -- the levels below 2
  below_two : level 1 ≡ None → NoneBelow 2
  below_two e zero h = refl
  below_two e (suc zero) h = e
  below_two e (suc (suc j)) h = absurd (omega (arith, h))

  -- the levels below 3
  below_three : level 1 ≡ None → level 2 ≡ None → NoneBelow 3
  below_three e f zero h = refl
  below_three e f (suc zero) h = e
  below_three e f (suc (suc zero)) h = f
  below_three e f (suc (suc (suc j))) h = absurd (omega (arith, h))

  module _ (us : List Multiple) where
    -- what is found at a level is before all others
    none_before : (k : ℕ) → NoneBelow k → (r : FirstSub k (flat_at z) hs us) (ks : List HalfSpace) (m : Among ks hs) → ComesBefore (places m) (places r.at) → flat_at z ks ≡ None
    none_before k below r ks m b =
        let l = length-places m in
        let n = length-places r.at in
        let many = r.many in
        ⊎_elim
        (λ fewer. missed_sub (length ks) (flat_at z) hs (below (length ks) (omega (arith, fewer, l, n, many))) ks m refl)
        (λ s. r.first ks m (sym l ∙ s.0 ∙ n ∙ many) s.1) b

    -- so it is the first of all
    at_level : (k : ℕ) → NoneBelow k → level k ≡ Some us → FirstAt z hs us
    at_level k below e =
        let r = found_sub k (flat_at z) hs us e in
        record { items = r.items; at = r.at; value = r.value; first = none_before k below r }

    -- what the search finds is the first of all
    found_all : or_else (level 1) (or_else (level 2) (level 3)) ≡ Some us → FirstAt z hs us
    found_all e =
        ⊎_elim
        (λ s. at_level 1 below_one s)
        (λ r. ⊎_elim
        (λ s. at_level 2 (below_two r.0) s)
        (λ q. at_level 3 (below_three r.0 q.0) q.1)
        (or_else_found (level 2) (level 3) us r.1))
        (or_else_found (level 1) (or_else (level 2) (level 3)) us e)

    -- the first of all is the first of its level
    as_sub : (r : FirstAt z hs us) → FirstSub (length r.items) (flat_at z) hs us
    as_sub r = record {
      items = r.items;
      at = r.at;
      many = refl;
      value = r.value;
      first = λ ks m l s. r.first ks m (inr (length-places m ∙ l ∙ sym (length-places r.at), s));
    }

    -- a smaller level has no value
    no_level : (r : FirstAt z hs us) (j : ℕ) → j < length r.items → (o : Option (List Multiple)) → level j ≡ o → level j ≡ None
    no_level r j h None e = e
    no_level r j h (Some vs) e =
        let q = found_sub j (flat_at z) hs vs e in
        let l = length-places q.at in
        let n = length-places r.at in
        let many = q.many in
        absurd (none_not_some vs (sym (r.first q.items q.at (inl (omega (arith, h, l, n, many)))) ∙ q.value))

    -- the search comes to the level of its number of items
    by_items : (items : List HalfSpace) → flat_at z items ≡ Some us → NoneBelow (length items) → level (length items) ≡ Some us → or_else (level 1) (or_else (level 2) (level 3)) ≡ Some us
    by_items [] v below e = absurd (none_not_some us v)
    by_items (h ∷ []) v below e = λ i. or_else (e i) (or_else (level 2) (level 3))
    by_items (g ∷ h ∷ []) v below e = λ i. or_else (below 1 (omega arith) i) (or_else (e i) (level 3))
    by_items (f ∷ g ∷ h ∷ []) v below e = λ i. or_else (below 1 (omega arith) i) (or_else (below 2 (omega arith) i) (e i))
    by_items (d ∷ f ∷ g ∷ h ∷ ks) v below e = absurd (none_not_some us v)

    -- the first of all is found
    hit_all : FirstAt z hs us → or_else (level 1) (or_else (level 2) (level 3)) ≡ Some us
    hit_all r = by_items r.items r.value (λ j h. no_level r j h (level j) refl) (hit_sub (length r.items) (flat_at z) hs us (as_sub r))

-- what the search finds is the first of all
found_first : (z : ℤ) (cell : List HalfSpace) (us : List Multiple) → first_flat z cell ≡ Some us → FirstAt z (with_sides cell) us
unfolding first_flat
found_first z cell us e = found_all z (with_sides cell) us (sym (by_levels z (with_sides cell)) ∙ e)

-- the first of all is found
hit_first : (z : ℤ) (cell : List HalfSpace) (us : List Multiple) → FirstAt z (with_sides cell) us → first_flat z cell ≡ Some us
unfolding first_flat
hit_first z cell us r = by_levels z (with_sides cell) ∙ hit_all z (with_sides cell) us r

-- ---- sublists of the plane
-- a sublist of the half-spaces on the plane is one of the half-spaces, at the same places
record Lifted (z : ℤ) (hs js : List HalfSpace) (m : Among js (planes z hs)) : Type 0 where
  items : List HalfSpace
  at : Among items hs
  same : planes z items ≡ js
  place : places at ≡ places m

-- so it is
lifted : (z : ℤ) (hs js : List HalfSpace) (m : Among js (planes z hs)) → Lifted z hs js m
lifted z [] [] none = record { items = []; at = none; same = refl; place = refl }
lifted z [] (j ∷ js) m = elim m [ ]
lifted z (h ∷ hs) js (skip m) = let r = lifted z hs js m in record { items = r.items; at = skip r.at; same = r.same; place = ap shifted r.place }
lifted z (h ∷ hs) (j ∷ js) (take m) = let r = lifted z hs js m in record { items = h ∷ r.items; at = take r.at; same = ap (λ ks. plane z h ∷ ks) r.same; place = ap (λ is. 0 ∷ shifted is) r.place }

-- the half-spaces of multiples on the plane
half_spaces_of-planar : (z : ℤ) (ts : List Multiple) → half_spaces_of (planar z ts) ≡ planes z (half_spaces_of ts)
half_spaces_of-planar z [] = refl
half_spaces_of-planar z (t ∷ ts) = ap (λ ks. plane z t.of ∷ ks) (half_spaces_of-planar z ts)

-- what stands at places of the list stands there on the plane
stand_planar : (z : ℤ) (hs : List HalfSpace) (is : List ℕ) (ks : List HalfSpace) → StandAt hs is ks → StandAt (planes z hs) is (planes z ks)
stand_planar z hs [] [] s = tt
stand_planar z hs [] (k ∷ ks) s = absurd s
stand_planar z hs (i ∷ is) [] s = absurd s
stand_planar z hs (i ∷ is) (k ∷ ks) s = (one z hs i k s.0, stand_planar z hs is ks s.1)
  where
    one : (z : ℤ) (hs : List HalfSpace) (i : ℕ) (k : HalfSpace) → slice_get hs i ≡ Some k → slice_get (planes z hs) i ≡ Some (plane z k)
    one z [] i k e = absurd (none_not_some k e)
    one z (h ∷ hs) zero k e = ap (λ x. Some (plane z x)) (same_some h k e)
    one z (h ∷ hs) (suc i) k e = one z hs i k e

-- a sublist stands on the plane as a sublist
among_planes : (z : ℤ) (ks hs : List HalfSpace) → Among ks hs → Among (planes z ks) (planes z hs)
among_planes z [] [] none = none
among_planes z (k ∷ ks) [] m = elim m [ ]
among_planes z ks (h ∷ hs) (skip m) = skip (among_planes z ks hs m)
among_planes z (k ∷ ks) (h ∷ hs) (take m) = take (among_planes z ks hs m)

-- terms with the same multiples on the plane, of the same half-spaces, are the same
same_terms : (z : ℤ) (us ts : List Multiple) → planar z us ≡ planar z ts → half_spaces_of us ≡ half_spaces_of ts → us ≡ ts
same_terms z [] [] e f = refl
same_terms z [] (t ∷ ts) e f = absurd (cc)
same_terms z (u ∷ us) [] e f = absurd (cc)
same_terms z (u ∷ us) (t ∷ ts) e f = λ i. multiple_of (same_factor e i) (same_of f i) ∷ same_terms z us ts (same_rest e) (same_spaces f) i
  where
    same_factor : planar z (u ∷ us) ≡ planar z (t ∷ ts) → u.factor ≡ t.factor
    same_factor e = ap (λ m. m.factor) (head_of (multiple_of u.factor (plane z u.of)) (multiple_of t.factor (plane z t.of)) (planar z us) (planar z ts) e)
      where
        head_of : (a b : Multiple) (xs ys : List Multiple) → a ∷ xs ≡ b ∷ ys → a ≡ b
        head_of a b xs ys e = cc

    same_rest : planar z (u ∷ us) ≡ planar z (t ∷ ts) → planar z us ≡ planar z ts
    same_rest e = cc

    same_of : half_spaces_of (u ∷ us) ≡ half_spaces_of (t ∷ ts) → u.of ≡ t.of
    same_of f = cc

    same_spaces : half_spaces_of (u ∷ us) ≡ half_spaces_of (t ∷ ts) → half_spaces_of us ≡ half_spaces_of ts
    same_spaces f = cc

-- ---- what refutes flatly refutes on the plane
-- a half-space of the first kind on the plane
plane_level : (z : ℤ) (h : HalfSpace) → has_trace h ≡ false → holds_level z h ≡ false → plane z h ≡ plane_by false false z h
plane_level z h e f = λ i. plane_by (e i) (f i) z h

-- a multiple of 0 alone
zero_alone : (k : ℤ) → k *ℤ pos 0 +ℤ pos 0 ≡ pos 0
zero_alone k = by_ring_at (k ∷ []) (search reify depth 40 fits 100000) tt

-- a negative multiple alone
low_alone : (k : ℤ) → pos 0 <ℤ k → (k *ℤ negsuc 0 +ℤ pos 0) ≤ℤ pos 0
low_alone k h = omega (arith, ints, h)

-- as many multiples on the plane
length-planar : (z : ℤ) (ts : List Multiple) → length (planar z ts) ≡ length ts
length-planar z [] = refl
length-planar z (t ∷ ts) = ap suc (length-planar z ts)

module _ (z : ℤ) where
  -- the first kind
  level_refutes : (ts : List Multiple) → ArePositive ts → is_level_kind z ts ≡ true → Refute true (planar z ts)
  level_refutes [] p k = absurd (false_not_true false k refl)
  level_refutes (t ∷ []) p k =
      let s = plane_level z t.of (false_of_not (has_trace t.of) (and_first (not (has_trace t.of)) _ k)) (false_of_not (holds_level z t.of) (and_second (not (has_trace t.of)) _ k)) in (
        omega arith,
        (p.0, tt),
        balanced-from (planar z (t ∷ [])) ((λ i. t.factor *ℤ (s i).a +ℤ pos 0) ∙ zero_alone t.factor) ((λ i. t.factor *ℤ (s i).b +ℤ pos 0) ∙ zero_alone t.factor) ((λ i. t.factor *ℤ (s i).c +ℤ pos 0) ∙ zero_alone t.factor),
        at_most_true _ (pos 0) (subst (λ (v : ℤ). v ≤ℤ pos 0) (λ i. t.factor *ℤ (sym s i).d +ℤ pos 0) (low_alone t.factor p.0)),
      )
  level_refutes (t ∷ u ∷ ts) p k = absurd (false_not_true false k refl)

  -- the second kind
  trace_refutes : (ts : List Multiple) → 0 < length ts → ArePositive ts → weighted_sum (λ h. h.a) ts ≡ pos 0 → weighted_sum (λ h. h.b) ts ≡ pos 0 → is_trace_kind z ts ≡ true → Refute true (planar z ts)
  trace_refutes ts n p a b k =
      let h = traces_to z ts (and_first (list_all (λ t. has_trace t.of) ts) _ k) in (
        subst (λ m. 0 < m) (sym (length-planar z ts)) n,
        positive_planar z ts p,
        balanced-from (planar z ts) (planar_a z ts h ∙ a) (planar_b z ts h ∙ b) (planar_c z ts),
        subst (λ (v : ℤ). int_le v (pos 0) ≡ true) (sym (planar_d z ts h)) (and_second (list_all (λ t. has_trace t.of) ts) _ k),
      )

  -- both
  flat_refutes : (ts : List Multiple) → RefuteFlat z ts → Refute true (planar z ts)
  flat_refutes ts r = ⊎_elim (λ k. level_refutes ts r.1 k) (λ k. trace_refutes ts r.0 r.1 r.2 r.3 k) r.4

  -- a value refutes flatly
  value_refutes_flat : (ks : List HalfSpace) (us : List Multiple) → FlatValue z ks us → RefuteFlat z us
  value_refutes_flat ks us v =
      let n = v.some in
      (subst (λ m. 0 < m) (sym (sym (length-half_spaces us) ∙ ap length v.same)) n, v.refutes.positive, v.refutes.a, v.refutes.b, v.refutes.kind)

  -- a value on the plane is of three half-spaces at most, since four have none
  planar_value : (o : Option (List Multiple)) (ts : List Multiple) → planar_of z o ≡ Some ts → (us : List Multiple) × (o ≡ Some us) × (planar z us ≡ ts)
  planar_value (Some us) ts e = (us, refl, same_some (planar z us) ts e)
  planar_value None ts e = absurd (none_not_some ts e)

  -- more than three have none
  few : (ks : List HalfSpace) (ts : List Multiple) → refutation_of true (planes z ks) ≡ Some ts → length ks ≤ 3
  few [] ts e = omega arith
  few (h ∷ []) ts e = omega arith
  few (g ∷ h ∷ []) ts e = omega arith
  few (f ∷ g ∷ h ∷ []) ts e = omega arith
  few (d ∷ f ∷ g ∷ h ∷ []) ts e = absurd (none_not_some ts (sym (four_is z d f g h) ∙ e))
  few (c ∷ d ∷ f ∷ g ∷ h ∷ ks) ts e = absurd (none_not_some ts e)

  -- a part of some half-spaces with a flat value
  record FlatHit (ks : List HalfSpace) : Type 0 where
    items : List HalfSpace
    among : Among items ks
    terms : List Multiple
    value : flat_at z items ≡ Some terms

  -- where half-spaces refute on the plane, there is one
  flat_hit : (hs ks : List HalfSpace) → AllByRecursion IsSmall (planes z hs) → (ts : List Multiple) → Among (half_spaces_of ts) (planes z hs) → Refute true ts → planes z ks ≡ half_spaces_of ts → FlatHit ks
  flat_hit hs ks small ts a r same =
      let h = hit_refute true (planes z hs) small ts a r in
      let l = lifted z ks h.items (subst (λ gs. Among h.items gs) (sym same) h.among) in
      let e = ap (refutation_of true) l.same ∙ h.value in
      let v = planar_value (flat_at z l.items) h.terms (sym (value_is z l.items (few l.items h.terms e)) ∙ e) in
      record { items = l.items; among = l.at; terms = v.0; value = v.1 }

module _ (z : ℤ) (cell : List HalfSpace) (bounds : AreHalfSpaces cell) where
  -- the half-spaces on the plane are small
  abbrev small : AllByRecursion IsSmall (planes z (with_sides cell))
  small = small_planes z cell bounds

  module _ (us : List Multiple) (r : FirstAt z (with_sides cell) us) where
    -- ---- what is found is first
    -- nothing that stands earlier refutes on the plane
    none_planar : (earlier : List ℕ) (others : List Multiple) → AreRising earlier → ComesBefore earlier (places r.at) → StandAt (planes z (with_sides cell)) earlier (half_spaces_of others) → Refute true others → ⊥
    none_planar earlier others rising before stand refute =
        let m = embed (planes z (with_sides cell)) earlier (half_spaces_of others) rising stand in
        let l = lifted z (with_sides cell) (half_spaces_of others) m.0 in
        let h = flat_hit z (with_sides cell) l.items small others m.0 refute l.same in
        let b = part_before h.among l.at (places r.at) (subst (λ is. ComesBefore is (places r.at)) (sym (l.place ∙ m.1)) before) in
        none_not_some h.terms (sym (r.first h.items (among_among h.among l.at) b) ∙ h.value)

    -- nothing that stands earlier refutes flatly
    none_flat : (earlier : List ℕ) (others : List Multiple) → AreRising earlier → ComesBefore earlier (places r.at) → StandAt (with_sides cell) earlier (half_spaces_of others) → RefuteFlat z others → ⊥
    none_flat earlier others rising before stand refute =
        none_planar earlier (planar z others) rising before
        (subst (λ ks. StandAt (planes z (with_sides cell)) earlier ks) (sym (half_spaces_of-planar z others)) (stand_planar z (with_sides cell) earlier (half_spaces_of others) stand))
        (flat_refutes z others refute)

    -- the factors are in lowest terms
    value_lowest : first_flat z cell ≡ Some us → IsLowest us
    value_lowest e d h =
        let v = flat_value z r.items us r.value in
        let n = few_items r.items us r.value in
        let w = value_of true (planes z r.items) (planar z us) (value_is z r.items n ∙ ap (planar_of z) r.value) in
        w.lowest d (subst (λ (vs : List ℤ). AllByRecursion (λ v. (k : ℤ) × (v ≡ pos d *ℤ k)) vs) (sym (factors_of-planar z us)) h)
      where
        few_items : (ks : List HalfSpace) (ts : List Multiple) → flat_at z ks ≡ Some ts → length ks ≤ 3
        few_items [] ts e = omega arith
        few_items (h ∷ []) ts e = omega arith
        few_items (g ∷ h ∷ []) ts e = omega arith
        few_items (f ∷ g ∷ h ∷ []) ts e = omega arith
        few_items (d ∷ f ∷ g ∷ h ∷ ks) ts e = absurd (none_not_some ts e)

    -- so it is the first flat certificate
    is_first : first_flat z cell ≡ Some us → IsFirstFlat z cell us
    is_first e =
        let v = flat_value z r.items us r.value in
        record {
          places = places r.at;
          rising = rising_places r.at;
          stand = subst (λ ks. StandAt (with_sides cell) (places r.at) ks) (sym v.same) (stand_places r.at);
          refute = value_refutes_flat z r.items us v;
          lowest = value_lowest e;
          first = none_flat;
        }

  -- ---- what is first is found
  module _ (ts : List Multiple) (i : IsFirstFlat z cell ts) where
    -- the half-spaces of the terms stand in the list at their places
    standing : (m : Among (half_spaces_of ts) (with_sides cell)) × (places m ≡ i.places)
    standing = embed (with_sides cell) i.places (half_spaces_of ts) i.rising i.stand

    -- no sublist at earlier places has a value
    no_value : (ks : List HalfSpace) (m : Among ks (with_sides cell)) → ComesBefore (places m) i.places → (o : Option (List Multiple)) → flat_at z ks ≡ o → flat_at z ks ≡ None
    no_value ks m b None e = e
    no_value ks m b (Some vs) e =
        let v = flat_value z ks vs e in
        absurd (i.first (places m) vs (rising_places m) b (subst (λ gs. StandAt (with_sides cell) (places m) gs) (sym v.same) (stand_places m)) (value_refutes_flat z ks vs v))

    -- a part with fewer terms has no value
    no_part : (ks : List HalfSpace) (m : Among ks (with_sides cell)) → length ks < length (half_spaces_of ts) → (us : List Multiple) → flat_at z ks ≡ Some us → ⊥
    no_part ks m l us e =
        let s = standing in
        let p = length-places m in
        let q = length-places s.0 in
        let n = ap length s.1 in
        some_not_none us (sym e ∙ no_value ks m (inl (omega (arith, l, p, q, n))) (flat_at z ks) refl)

    -- some part of the terms has a value
    part_hit : FlatHit z (half_spaces_of ts)
    part_hit =
        flat_hit z (with_sides cell) (half_spaces_of ts) small (planar z ts)
        (subst (λ ks. Among ks (planes z (with_sides cell))) (sym (half_spaces_of-planar z ts)) (among_planes z (half_spaces_of ts) (with_sides cell) standing.0))
        (flat_refutes z ts i.refute) (sym (half_spaces_of-planar z ts))

    -- the value is that of all the half-spaces
    is_whole : (h : FlatHit z (half_spaces_of ts)) → (us : List Multiple) × (flat_at z (half_spaces_of ts) ≡ Some us)
    is_whole h =
        let l = among_length h.among in
        ⊎_elim
        (λ same. (h.terms, ap (flat_at z) (sym (among_whole h.among same)) ∙ h.value))
        (λ fewer. absurd (no_part h.items (among_among h.among standing.0) fewer h.terms h.value))
        (same_or_less (length h.items) (length (half_spaces_of ts)) l)

    module _ (us : List Multiple) (e : flat_at z (half_spaces_of ts) ≡ Some us) where
      -- the value is the first of all
      first_at : FirstAt z (with_sides cell) us
      first_at = record {
        items = half_spaces_of ts;
        at = standing.0;
        value = e;
        first = λ ks m b. no_value ks m (subst (λ is. ComesBefore (places m) is) standing.1 b) (flat_at z ks) refl;
      }

      -- the search finds it
      finds : first_flat z cell ≡ Some us
      finds = hit_first z cell us first_at

      -- on the plane the terms are the first refutation
      first_in : IsFirstIn true (planes z (with_sides cell)) (planar z ts)
      unfolding first_at
      first_in = record {
        places = i.places;
        rising = i.rising;
        stand = subst (λ ks. StandAt (planes z (with_sides cell)) i.places ks) (sym (half_spaces_of-planar z ts)) (stand_planar z (with_sides cell) i.places (half_spaces_of ts) i.stand);
        refute = flat_refutes z ts i.refute;
        lowest = λ d h. i.lowest d (subst (λ (vs : List ℤ). AllByRecursion (λ v. (k : ℤ) × (v ≡ pos d *ℤ k)) vs) (factors_of-planar z ts) h);
        first = λ earlier others rising before stand refute. none_planar us first_at earlier others rising (subst (λ is. ComesBefore earlier is) (sym standing.1) before) stand refute;
      }

      -- so on the plane the terms are those that are found
      same_planar : planar z us ≡ planar z ts
      same_planar = same_some (planar z us) (planar z ts) (sym (planar_found z cell (Some us) finds) ∙ first-found true (planes z (with_sides cell)) small (planar z ts) first_in)

      -- and so are the terms
      same_found : us ≡ ts
      same_found = same_terms z us ts same_planar (flat_value z (half_spaces_of ts) us e).same

    -- the first flat certificate is found
    first_found : first_flat z cell ≡ Some ts
    first_found = let w = is_whole part_hit in finds w.0 w.1 ∙ ap Some (same_found w.0 w.1)

-- the law
pub first_flat_is_first_spec : FirstFlatIsFirst
first_flat_is_first_spec z cell bounds = (
  if_some (λ us. IsFirstFlat z cell us) (first_flat z cell) (λ us e. is_first z cell bounds us (found_first z cell us e) e),
  λ ts i. first_found z cell bounds ts i,
)
