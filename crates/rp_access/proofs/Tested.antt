-- A list of levels that passes the four tests is the list of levels.
use Rattle.std.proofs.Common.{◌≡◌, ℕ, zero, suc, ◌+◌, ◌<◌, ◌≤◌, true, List, [], ◌∷◌, length, refl, sym, ap, ◌∙◌, subst, arith}
use Rattle.std.specs.Prelude.{Option, Some, None, is_some, slice_index_or}
use Rattle.rp_geometry.specs.sets.Chain.{level_of}
use Rattle.rp_access.specs.Chain.{IsLinked, IsChain, IsLevel, PassesTests}
use Rattle.rp_access.specs.Laws.{PassingLevelsAreLevels}

-- an entry that is there has a value
pub some_of : {A : Type 0} (o : Option A) → is_some o ≡ true → (x : A) × (o ≡ Some x)
some_of None e = absurd (cc)
some_of (Some x) e = (x, refl)

-- only a number below the length has an entry
pub below_of_entry : {A : Type 0} (levels : List (Option A)) (i : ℕ) (k : A) → slice_index_or levels i None ≡ Some k → i < length levels
below_of_entry [] i k e = absurd (cc)
below_of_entry (o ∷ levels) zero k e = omega arith
below_of_entry (o ∷ levels) (suc i) k e = let h : i < length levels = below_of_entry levels i k e in omega arith

-- the same value has one entry
pub same_entry : {A : Type 0} (o : Option A) (k l : A) → o ≡ Some k → o ≡ Some l → k ≡ l
same_entry o k l e f = cc

module _ (g : List (List ℕ)) (last : ℕ) (levels : List (Option ℕ)) (known : last < length g) (as_many : length levels ≡ length g) (passes : PassesTests g last levels) where
  -- a number that is linked to one of some level has a level, one more at most
  level_before : (i j l : ℕ) → IsLinked g i j → level_of levels j ≡ Some l → (k : ℕ) × (level_of levels i ≡ Some k) × (k ≤ l + 1)
  level_before i j l link e =
      let k = some_of (level_of levels i) (passes.together i j link ∙ ap is_some e) in
      (k.0, k.1, (passes.close i j k.0 l link k.1 e).0)

  -- from where a chain begins there is a level, and the chain has as many steps at least
  level_along : (js : List ℕ) (i : ℕ) → IsChain g last i js → (k : ℕ) × (level_of levels i ≡ Some k) × (k ≤ length js)
  level_along [] i e = (0, (passes.zero_at_last i (subst (λ v. v < length g) (sym e) known)).1 e, omega arith)
  level_along (j ∷ js) i (link, rest) =
      let l = level_along js j rest in
      let k = level_before i j l.0 link l.1 in
      (k.0, k.1, omega (arith, k.2, l.2))

  -- a number of some level has a chain of as many steps
  chain_down : (k i : ℕ) → level_of levels i ≡ Some k → (js : List ℕ) × IsChain g last i js × (length js ≡ k)
  chain_down zero i e = ([], (passes.zero_at_last i (subst (λ v. i < v) as_many (below_of_entry levels i 0 e))).0 e, refl)
  chain_down (suc k) i e =
      let j = passes.nearer i k e in
      let rest = chain_down k j.0 j.2 in
      (j.0 ∷ rest.0, (j.1, rest.1), omega (arith, rest.2))

  -- what the entry of a number says is its level
  level_is : (o : Option ℕ) (i : ℕ) → level_of levels i ≡ o → IsLevel g last i o
  level_is None i e = λ js c. let k = level_along js i c in absurd (let f : level_of levels i ≡ Some k.0 = k.1 in cc)
  level_is (Some k) i e = record {
    some = chain_down k i e;
    least = λ js c. let l = level_along js i c in subst (λ v. v ≤ length js) (same_entry (level_of levels i) l.0 k l.1 e) l.2;
  }

-- the law
pub passing_levels_are_levels_spec : PassingLevelsAreLevels
passing_levels_are_levels_spec g last levels known as_many passes = record {
  as_many = as_many;
  each = λ i _. level_is g last levels known as_many passes (level_of levels i) i refl;
}
