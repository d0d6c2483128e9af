-- The way down the levels, number by number.
use Rattle.std.proofs.Common.{◌≡◌, ℕ, suc, ◌+◌, ◌<◌, List, [], ◌∷◌, ◌++◌, length, length-append, append_assoc, drop, refl, sym, ap, ◌∙◌, subst, arith}
use Rattle.std.specs.Prelude.{Option, Some, None, slice_index, slice_index_or}
use Rattle.std.proofs.lemmas.List.Elements.{Contains-get_or}
use Rattle.std.proofs.lemmas.List.{get_or_default}
use Rattle.rp_geometry.specs.sets.Chain.{level_of}
use Rattle.rp_access.specs.Chain.{linked_to, IsLinked, AreLinks, IsLevel, IsLeast, AreLevels, PassesTests, IsFirstOfLevel, GoesDown, IsRoute}
use Rattle.rp_access.specs.Searching.{AreBelow}
use Rattle.rp_access.specs.Tests.{IsFirstAmong}
use Rattle.rp_access.proofs.Tested.{below_of_entry}
use Rattle.rp_chains.proofs.One.{one_level}

-- numbers that a number is linked to have entries
pub links_below : (g : List (List ℕ)) → AreLinks g → (n i : ℕ) (js : List ℕ) → n ≡ length g → js ≡ linked_to g i → AreBelow n js
links_below g links n i js e js_is p h =
    let in_list : p < length (linked_to g i) = subst (λ v. p < length v) js_is h in
    let b : slice_index (linked_to g i) p < length g = links.below i (slice_index (linked_to g i) p) (Contains-get_or (linked_to g i) p 0 in_list) in
    let same : slice_index js p ≡ slice_index (linked_to g i) p = ap (λ v. slice_index v p) js_is in
    omega arith

-- what is true on the way: the numbers so far begin with the first, `at` is the last of them and has the level `left`, and a way down from it is one from the first
pub record IsOnWay (g : List (List ℕ)) (last : ℕ) (levels : List (Option ℕ)) (from level : ℕ) (items : List ℕ) (at left : ℕ) : Type 0 where
  pub begins : items ≡ from ∷ drop 1 items
  pub at_level : level_of levels at ≡ Some left
  pub count : length (drop 1 items) + left ≡ level
  pub whole : (js : List ℕ) → length js ≡ left → GoesDown g last at js → GoesDown g last from (drop 1 items ++ js)

module _ (g : List (List ℕ)) (last : ℕ) (levels : List (Option ℕ)) (from level : ℕ) (items : List ℕ) (at left : ℕ) (right : AreLevels g last levels) (passes : PassesTests g last levels) (way : IsOnWay g last levels from level items at left) where
  -- what the entry of a number says is its level
  level_is : (i k : ℕ) → level_of levels i ≡ Some k → IsLevel g last i (Some k)
  level_is i k e = subst (IsLevel g last i) e (right.each i (subst (λ v. i < v) right.as_many (below_of_entry levels i k e)))

  -- the number has a list
  pub at_below : at < length g
  at_below = subst (λ v. at < v) right.as_many (below_of_entry levels at left way.at_level)

  -- some number that it is linked to has a level one less
  pub not_stuck : (less : ℕ) → left ≡ suc less → IsFirstAmong levels less (linked_to g at) None → ⊥
  not_stuck less e none =
      let m = passes.nearer at less (way.at_level ∙ ap Some e) in
      none m.0 (record { listed = m.1; level_is = m.2 })

  -- one number more
  pub way_goes_on : AreLinks g → (less next : ℕ) (longer : List ℕ) → left ≡ suc less → IsFirstAmong levels less (linked_to g at) (Some next) → longer ≡ items ++ next ∷ [] → IsOnWay g last levels from level longer next less
  way_goes_on links less next longer e first l_is = record {
    begins = l_is ∙ ap (λ v. v ++ next ∷ []) way.begins ∙ ap (λ v. from ∷ v) (sym rest);
    at_level = first.0.level_is;
    count = omega (arith, ap length rest, length-append (drop 1 items) (next ∷ []), way.count);
    whole = λ js n d. subst (GoesDown g last from) (sym (append_assoc (drop 1 items) (next ∷ []) js) ∙ ap (λ v. v ++ js) (sym rest)) (way.whole (next ∷ js) (omega arith) (first_of (length js) n, d));
  }
    where
      rest : drop 1 longer ≡ drop 1 items ++ next ∷ []
      rest = ap (drop 1) (l_is ∙ ap (λ v. v ++ next ∷ []) way.begins)

      first_of : (k : ℕ) → k ≡ less → IsFirstOfLevel g last at k next
      first_of k n = record {
        linked = first.0.listed;
        level = subst (λ v. IsLevel g last next (Some v)) (sym n) (level_is next less first.0.level_is);
        first = λ m link h.
            let m_level : level_of levels m ≡ Some less = one_level (IsLinked g) last m (level_of levels m) (Some less) (right.each m (links.below at m link)) (subst (λ v. IsLevel g last m (Some v)) n h) in
            first.1 m (record { listed = link; level_is = m_level });
      }

  -- the same of the lists that the code has
  pub stuck_as : (less : ℕ) (ls : List (Option ℕ)) (js : List ℕ) → left ≡ suc less → ls ≡ levels → js ≡ linked_to g at → IsFirstAmong ls less js None → ⊥
  stuck_as less ls js e ls_is js_is none = not_stuck less e (subst (λ v. IsFirstAmong v less (linked_to g at) None) ls_is (subst (λ v. IsFirstAmong ls less v None) js_is none))

  -- the same of the lists that the code has
  pub goes_on_as : AreLinks g → (less : ℕ) (ls : List (Option ℕ)) (js : List ℕ) → left ≡ suc less → ls ≡ levels → js ≡ linked_to g at → (next : ℕ) (longer : List ℕ) → IsFirstAmong ls less js (Some next) → longer ≡ items ++ next ∷ []
      → IsOnWay g last levels from level longer next less
  goes_on_as links less ls js e ls_is js_is next longer first l_is =
      way_goes_on links less next longer e (subst (λ v. IsFirstAmong v less (linked_to g at) (Some next)) ls_is (subst (λ v. IsFirstAmong ls less v (Some next)) js_is first)) l_is

  -- at the end
  pub way_ends : level_of levels from ≡ Some level → left ≡ 0 → IsRoute g from last items
  way_ends f z = subst (IsRoute g from last) (sym way.begins) (
    refl,
    subst (IsLeast g last from) (let n : level ≡ length (drop 1 items) = omega (arith, way.count) in n) (level_is from level f),
    subst (GoesDown g last from) (none_after (drop 1 items)) (way.whole [] (sym z) ((passes.zero_at_last at at_below).0 (way.at_level ∙ ap Some z))),
  )
    where
      none_after : (xs : List ℕ) → xs ++ [] ≡ xs
      none_after [] = refl
      none_after (x ∷ xs) = ap (λ v. x ∷ v) (none_after xs)

-- an entry that was read, for any value where there is none
pub read_entry : (levels : List (Option ℕ)) (i : ℕ) (o : Option ℕ) → i < length levels → o ≡ slice_index_or levels i o → level_of levels i ≡ o
read_entry levels i o h e = sym (e ∙ get_or_default levels i o None h)
