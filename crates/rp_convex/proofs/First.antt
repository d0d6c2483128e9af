-- The search finds the first outside certificate, and it is the only first one.
use Rattle.std.proofs.Common.{◌≡◌, ℕ, zero, suc, ◌<◌, pos, ◌<ℤ◌, Bool, List, [], ◌∷◌, length, inl, inr, ⊎_elim, Option, Some, None, refl, sym, ap, ◌∙◌, subst, arith}
use Rattle.std.specs.List.{AllByRecursion}
use Rattle.rp_geometry.specs.Geometry.{HalfSpace, with_cube}
use Rattle.rp_geometry.specs.searches.Certificate.{Multiple, weighted_sum}
use Rattle.rp_algebra.specs.Integer.{gcd_of}
use Rattle.rp_geometry.specs.searches.Elimination.{factors_of, half_spaces_of, first_refutation, first_outside}
use Rattle.rp_geometry.specs.laws.CellLaws.{StandAt, ComesBefore, AreRising, Refute, IsFirstOutside, FirstOutsideIsFirst}
use Rattle.rp_algebra.proofs.Numbers.{same_or_less}
use Rattle.rp_algebra.proofs.Options.{none_not_some, some_not_none, if_some, or_else, or_else_found}
use Rattle.rp_convex.proofs.Combination.{Among, ArePositive, IsSmall}
use Rattle.rp_convex.proofs.Sums.{length-half_spaces}
use Rattle.rp_convex.proofs.Bounds.{small_with_cube}
use Rattle.rp_convex.proofs.Dropped.{among_among}
use Rattle.rp_convex.proofs.Leaning.{Leaning, kept, leaned, KeepsPositive}
use Rattle.rp_convex.proofs.Settle.{Shorter, LeansAllUp}
use Rattle.rp_convex.proofs.OutsidePlaces.{places, length-places, rising_places, stand_places, embed, among_length, among_whole, places-whole}
use Rattle.rp_convex.proofs.Levels.{first_sub, first_of-is, first_of_pairs-is, first_of_triples-is, first_of_quadruples-is, missed_sub, FirstSub, found_sub, hit_sub}
use Rattle.rp_convex.proofs.Unique.{IsLowest, lowest-gcd, Twins, same_twins, zipped}
use Rattle.rp_convex.proofs.Alternative.{offset_of}
use Rattle.rp_convex.proofs.Values.{refutation_of, value_of, Hit, hit_contradiction, hit_refute, negative_offset, value_refutes}
use Rattle.rp_convex.proofs.Tests.{balanced-to}

-- a sublist with a value, before which none has one
pub record FirstAll (strict : Bool) (hs : List HalfSpace) (us : List Multiple) : Type 0 where
  pub items : List HalfSpace
  pub at : Among items hs
  pub value : refutation_of strict items ≡ Some us
  pub first : (ks : List HalfSpace) (m : Among ks hs) → ComesBefore (places m) (places at) → refutation_of strict ks ≡ None

module _ (strict : Bool) (hs : List HalfSpace) where
  -- the search of a level
  abbrev level : ℕ → Option (List Multiple)
  level k = first_sub k (refutation_of strict) hs

  -- no smaller level has a value
  abbrev NoneBelow : ℕ → Type 0
  NoneBelow k = (j : ℕ) → j < k → level j ≡ None

  -- the search by levels
  by_levels : first_refutation strict hs ≡ or_else (level 1) (or_else (level 2) (or_else (level 3) (level 4)))
  by_levels = λ i. or_else (first_of-is (refutation_of strict) hs i) (or_else (first_of_pairs-is (refutation_of strict) hs i) (or_else (first_of_triples-is (refutation_of strict) hs i) (first_of_quadruples-is (refutation_of strict) hs i)))

  -- level 0 has no value
  below_one : NoneBelow 1
  below_one zero h = refl
  below_one (suc j) h = absurd (omega (arith, h))

  -- level 1 is the only one before level 2 to ask
  below_two : level 1 ≡ None → NoneBelow 2
  below_two e zero h = refl
  below_two e (suc zero) h = e
  below_two e (suc (suc j)) h = absurd (omega (arith, h))

  -- the levels below 3
  below_three : level 1 ≡ None → level 2 ≡ None → NoneBelow 3
  below_three e f zero h = refl
  below_three e f (suc zero) h = e
  below_three e f (suc (suc zero)) h = f
  below_three e f (suc (suc (suc j))) h = absurd (omega (arith, h))

  -- the levels below 4
  below_four : level 1 ≡ None → level 2 ≡ None → level 3 ≡ None → NoneBelow 4
  below_four e f g zero h = refl
  below_four e f g (suc zero) h = e
  below_four e f g (suc (suc zero)) h = f
  below_four e f g (suc (suc (suc zero))) h = g
  below_four e f g (suc (suc (suc (suc j)))) h = absurd (omega (arith, h))

  module _ (us : List Multiple) where
    -- ---- what the search finds
    -- what is found at a level is before all others
    none_before : (k : ℕ) → NoneBelow k → (r : FirstSub k (refutation_of strict) hs us) (ks : List HalfSpace) (m : Among ks hs) → ComesBefore (places m) (places r.at) → refutation_of strict ks ≡ None
    none_before k below r ks m b =
        let l = length-places m in
        let n = length-places r.at in
        let many = r.many in
        ⊎_elim
        (λ fewer. missed_sub (length ks) (refutation_of strict) hs (below (length ks) (omega (arith, fewer, l, n, many))) ks m refl)
        (λ s. r.first ks m (sym l ∙ s.0 ∙ n ∙ many) s.1) b

    -- so it is the first of all
    at_level : (k : ℕ) → NoneBelow k → level k ≡ Some us → FirstAll strict hs us
    at_level k below e =
        let r = found_sub k (refutation_of strict) hs us e in
        record { items = r.items; at = r.at; value = r.value; first = none_before k below r }

    -- what the search finds is the first of all
    pub found_all : first_refutation strict hs ≡ Some us → FirstAll strict hs us
    found_all e =
        ⊎_elim
        (λ s. at_level 1 below_one s)
        (λ r. ⊎_elim
        (λ s. at_level 2 (below_two r.0) s)
        (λ q. ⊎_elim
        (λ s. at_level 3 (below_three r.0 q.0) s)
        (λ p. at_level 4 (below_four r.0 q.0 p.0) p.1)
        (or_else_found (level 3) (level 4) us q.1))
        (or_else_found (level 2) (or_else (level 3) (level 4)) us r.1))
        (or_else_found (level 1) (or_else (level 2) (or_else (level 3) (level 4))) us (sym by_levels ∙ e))

    -- ---- what is first is found
    -- the first of all is the first of its level
    as_sub : (r : FirstAll strict hs us) → FirstSub (length r.items) (refutation_of strict) hs us
    as_sub r = record {
      items = r.items;
      at = r.at;
      many = refl;
      value = r.value;
      first = λ ks m l s. r.first ks m (inr (length-places m ∙ l ∙ sym (length-places r.at), s));
    }

    -- a smaller level has no value
    no_level : (r : FirstAll strict hs us) (j : ℕ) → j < length r.items → (o : Option (List Multiple)) → level j ≡ o → level j ≡ None
    no_level r j h None e = e
    no_level r j h (Some vs) e =
        let q = found_sub j (refutation_of strict) hs vs e in
        let l = length-places q.at in
        let n = length-places r.at in
        let many = q.many in
        absurd (none_not_some vs (sym (r.first q.items q.at (inl (omega (arith, h, l, n, many)))) ∙ q.value))

    -- the search comes to the level of its number of items
    by_items : (items : List HalfSpace) → refutation_of strict items ≡ Some us → NoneBelow (length items) → level (length items) ≡ Some us → or_else (level 1) (or_else (level 2) (or_else (level 3) (level 4))) ≡ Some us
    by_items [] v below e = absurd (none_not_some us v)
    by_items (h ∷ []) v below e = λ i. or_else (e i) (or_else (level 2) (or_else (level 3) (level 4)))
    by_items (g ∷ h ∷ []) v below e = λ i. or_else (below 1 (omega arith) i) (or_else (e i) (or_else (level 3) (level 4)))
    by_items (f ∷ g ∷ h ∷ []) v below e = λ i. or_else (below 1 (omega arith) i) (or_else (below 2 (omega arith) i) (or_else (e i) (level 4)))
    by_items (d ∷ f ∷ g ∷ h ∷ []) v below e = λ i. or_else (below 1 (omega arith) i) (or_else (below 2 (omega arith) i) (or_else (below 3 (omega arith) i) (e i)))
    by_items (d ∷ f ∷ g ∷ h ∷ k ∷ ks) v below e = absurd (none_not_some us v)

    -- the first of all is found
    pub hit_all : FirstAll strict hs us → first_refutation strict hs ≡ Some us
    hit_all r =
        by_levels
        ∙ by_items r.items r.value (λ j h. no_level r j h (level j) refl) (hit_sub (length r.items) (refutation_of strict) hs us (as_sub r))

-- ---- a part of earlier places has earlier places
-- a part of a list at earlier places stands at earlier places
pub part_before : {js ks hs : List HalfSpace} (j : Among js ks) (m : Among ks hs) (qs : List ℕ) → ComesBefore (places m) qs → ComesBefore (places (among_among j m)) qs
part_before {js} {ks} j m qs b =
    let l = among_length j in
    let p = length-places (among_among j m) in
    let q = length-places m in
    ⊎_elim
    (λ same. subst (λ is. ComesBefore is qs) (sym (places-whole j m same)) b)
    (λ fewer. inl (⊎_elim (λ a. omega (arith, a, p, q, fewer)) (λ a. let e = a.0 in omega (arith, e, p, q, fewer)) b))
    (same_or_less (length js) (length ks) l)

-- the first refutation of a list of half-spaces: what the first outside certificate is of the list of a cell
pub record IsFirstIn (strict : Bool) (hs : List HalfSpace) (terms : List Multiple) : Type 0 where
  pub places : List ℕ
  pub rising : AreRising places
  pub stand : StandAt hs places (half_spaces_of terms)
  pub refute : Refute strict terms
  pub lowest : IsLowest terms
  pub first : (earlier : List ℕ) (others : List Multiple) → AreRising earlier → ComesBefore earlier places → StandAt hs earlier (half_spaces_of others) → Refute strict others → ⊥

module _ (strict : Bool) (hs : List HalfSpace) (small : AllByRecursion IsSmall hs) where
  -- ---- what is found is first
  module _ (us : List Multiple) (r : FirstAll strict hs us) where
    -- no factors at earlier places refute
    none_refutes : (earlier : List ℕ) (others : List Multiple) → AreRising earlier → ComesBefore earlier (places r.at) → StandAt hs earlier (half_spaces_of others) → Refute strict others → ⊥
    none_refutes earlier others rising before stand refute =
        let m = embed hs earlier (half_spaces_of others) rising stand in
        let h = hit_refute strict hs small others m.0 refute in
        let b = part_before h.among m.0 (places r.at) (subst (λ is. ComesBefore is (places r.at)) (sym m.1) before) in
        none_not_some h.terms (sym (r.first h.items (among_among h.among m.0) b) ∙ h.value)

    -- so it is the first refutation
    is_first : IsFirstIn strict hs us
    is_first =
        let v = value_of strict r.items us r.value in
        record {
          places = places r.at;
          rising = rising_places r.at;
          stand = subst (λ ks. StandAt hs (places r.at) ks) (sym v.same) (stand_places r.at);
          refute = value_refutes strict r.items us v;
          lowest = v.lowest;
          first = none_refutes;
        }

  -- what the search finds is first
  pub found-first : (us : List Multiple) → first_refutation strict hs ≡ Some us → IsFirstIn strict hs us
  found-first us e = is_first us (found_all strict hs us e)

  -- ---- what is first is found
  module _ (ts : List Multiple) (i : IsFirstIn strict hs ts) where
    -- no sublist at earlier places has a value
    no_value : (ks : List HalfSpace) (m : Among ks hs) → ComesBefore (places m) i.places → (o : Option (List Multiple)) → refutation_of strict ks ≡ o → refutation_of strict ks ≡ None
    no_value ks m b None e = e
    no_value ks m b (Some vs) e =
        let v = value_of strict ks vs e in
        absurd (i.first (places m) vs (rising_places m) b (subst (λ gs. StandAt hs (places m) gs) (sym v.same) (stand_places m)) (value_refutes strict ks vs v))

    -- the half-spaces of the terms stand in the list at their places
    standing : (m : Among (half_spaces_of ts) hs) × (places m ≡ i.places)
    standing = embed hs i.places (half_spaces_of ts) i.rising i.stand

    -- a part with fewer terms has no contradiction
    no_part : (ks : List HalfSpace) (m : Among ks hs) → length ks < length (half_spaces_of ts) → (us : List Multiple) → refutation_of strict ks ≡ Some us → ⊥
    no_part ks m l us e =
        let s = standing in
        let p = length-places m in
        let q = length-places s.0 in
        let n = ap length s.1 in
        some_not_none us (sym e ∙ no_value ks m (inl (omega (arith, l, p, q, n))) (refutation_of strict ks) refl)

    -- no contradiction has fewer terms
    no_shorter : Shorter (offset_of strict) hs (length ts) → ⊥
    no_shorter s =
        let h = hit_contradiction strict hs small s.0 in
        let l = among_length h.among in
        let n = length-half_spaces s.0.terms in
        let k = length-half_spaces ts in
        let fewer = s.1 in
        no_part h.items (among_among h.among s.0.among) (omega (arith, l, n, k, fewer)) h.terms h.value

    -- some part of the terms has a value
    whole_hit : Hit strict (half_spaces_of ts)
    whole_hit = hit_refute strict hs small ts standing.0 i.refute

    -- the value is that of all the half-spaces
    is_whole : (h : Hit strict (half_spaces_of ts)) → (us : List Multiple) × (refutation_of strict (half_spaces_of ts) ≡ Some us)
    is_whole h =
        let l = among_length h.among in
        ⊎_elim
        (λ same. (h.terms, ap (refutation_of strict) (sym (among_whole h.among same)) ∙ h.value))
        (λ fewer. absurd (no_part h.items (among_among h.among standing.0) fewer h.terms h.value))
        (same_or_less (length h.items) (length (half_spaces_of ts)) l)

    module _ (us : List Multiple) (e : refutation_of strict (half_spaces_of ts) ≡ Some us) where
      -- the value is the first of all
      first_all : FirstAll strict hs us
      first_all = record {
        items = half_spaces_of ts;
        at = standing.0;
        value = e;
        first = λ ks m b. no_value ks m (subst (λ is. ComesBefore (places m) is) standing.1 b) (refutation_of strict ks) refl;
      }

      -- positive factors of the sum
      keeps_from : (es : List Leaning) → ArePositive (kept es) → KeepsPositive es
      keeps_from [] p = tt
      keeps_from (x ∷ es) p = (p.0, keeps_from es p.1)

      -- positive factors of the relation
      leans_from : (es : List Leaning) → ArePositive (leaned es) → LeansAllUp es
      leans_from [] p = tt
      leans_from (x ∷ es) p = (p.0, leans_from es p.1)

      -- the terms are those of the value
      same_as_value : ts ≡ us
      same_as_value =
          let v = value_of strict (half_spaces_of ts) us e in
          let z = zipped ts us (sym v.same) in
          let b = balanced-to ts i.refute.2 in
          let t : Twins (offset_of strict) hs = record {
            es = z.0;
            among = subst (λ vs. Among (half_spaces_of vs) hs) (sym z.1) standing.0;
            keeps = keeps_from z.0 (subst ArePositive (sym z.1) i.refute.1);
            leans = leans_from z.0 (subst ArePositive (sym z.2) v.refutes.positive);
            kept_a = subst (λ vs. weighted_sum (λ h. h.a) vs ≡ pos 0) (sym z.1) b.a;
            kept_b = subst (λ vs. weighted_sum (λ h. h.b) vs ≡ pos 0) (sym z.1) b.b;
            kept_c = subst (λ vs. weighted_sum (λ h. h.c) vs ≡ pos 0) (sym z.1) b.c;
            negative = subst (λ vs. weighted_sum (offset_of strict) vs <ℤ pos 0) (sym z.1) (negative_offset strict ts i.refute);
            leaned_a = subst (λ vs. weighted_sum (λ h. h.a) vs ≡ pos 0) (sym z.2) v.refutes.a;
            leaned_b = subst (λ vs. weighted_sum (λ h. h.b) vs ≡ pos 0) (sym z.2) v.refutes.b;
            leaned_c = subst (λ vs. weighted_sum (λ h. h.c) vs ≡ pos 0) (sym z.2) v.refutes.c;
            least = λ s. no_shorter (subst (λ vs. Shorter (offset_of strict) hs (length vs)) z.1 s);
          } in
          sym z.1
          ∙ same_twins (offset_of strict) hs t (ap (λ vs. gcd_of (factors_of vs)) z.1 ∙ lowest-gcd ts i.lowest) (ap (λ vs. gcd_of (factors_of vs)) z.2 ∙ lowest-gcd us v.lowest)
          ∙ z.2

    -- the first refutation is found
    pub first-found : first_refutation strict hs ≡ Some ts
    first-found =
        let w = is_whole whole_hit in
        hit_all strict hs w.0 (first_all w.0 w.1) ∙ ap Some (sym (same_as_value w.0 w.1))

-- the first refutation of the list of a cell is the first outside certificate
outside_of : (strict : Bool) (cell : List HalfSpace) (ts : List Multiple) → IsFirstIn strict (with_cube cell) ts → IsFirstOutside strict cell ts
outside_of strict cell ts i = record { places = i.places; rising = i.rising; stand = i.stand; refute = i.refute; lowest = i.lowest; first = i.first }

-- and the other way round
of_outside : (strict : Bool) (cell : List HalfSpace) (ts : List Multiple) → IsFirstOutside strict cell ts → IsFirstIn strict (with_cube cell) ts
of_outside strict cell ts i = record { places = i.places; rising = i.rising; stand = i.stand; refute = i.refute; lowest = i.lowest; first = i.first }

-- the law
pub first_outside_is_first_spec : FirstOutsideIsFirst
unfolding first_outside
first_outside_is_first_spec strict cell bounds =
    let small = small_with_cube cell bounds in (
      if_some (λ us. IsFirstOutside strict cell us) (first_outside strict cell) (λ us e. outside_of strict cell us (found-first strict (with_cube cell) small us e)),
      λ ts i. first-found strict (with_cube cell) small ts (of_outside strict cell ts i),
    )
