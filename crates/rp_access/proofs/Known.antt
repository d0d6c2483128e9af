-- The list of levels passes the four tests, and is the only one; so is the chain that is chosen.
use Rattle.std.proofs.Common.{◌≡◌, ℕ, suc, ◌+◌, ◌<◌, ◌≤◌, true, List, [], ◌∷◌, length, refl, sym, ap, ◌∙◌, subst, arith}
use Rattle.std.specs.Prelude.{Option, Some, None, is_some}
use Rattle.rp_algebra.proofs.Tests.{same_test}
use Rattle.rp_geometry.specs.sets.Chain.{level_of}
use Rattle.rp_access.specs.Chain.{AreLinks, IsLinked, IsChain, IsLevel, AreLevels, PassesTests}
use Rattle.rp_chains.proofs.One.{levels_are_one_by_spec, one_route}
use Rattle.rp_access.specs.Laws.{LevelsPassTests, LevelsAreOne, RouteIsOne}
use Rattle.rp_access.proofs.Tested.{some_of, below_of_entry, same_entry}

-- ---- the four tests

-- a list without numbers is empty
empty_chain : (g : List (List ℕ)) (last i : ℕ) (js : List ℕ) → IsChain g last i js → length js ≡ 0 → i ≡ last
empty_chain g last i [] c e = c
empty_chain g last i (j ∷ js) c e = absurd (omega arith)

module _ (g : List (List ℕ)) (last : ℕ) (levels : List (Option ℕ)) (known : last < length g) (links : AreLinks g) (right : AreLevels g last levels) where
  -- what the entry of a number says is its level
  entry : (i : ℕ) → i < length g → (o : Option ℕ) → level_of levels i ≡ o → IsLevel g last i o
  entry i h o e = subst (λ v. IsLevel g last i v) e (right.each i h)

  -- a number with an entry has a list
  has_list : (i k : ℕ) → level_of levels i ≡ Some k → i < length g
  has_list i k e = subst (λ v. i < v) right.as_many (below_of_entry levels i k e)

  -- the last number has the level 0
  zero_here : (o : Option ℕ) → level_of levels last ≡ o → level_of levels last ≡ Some 0
  zero_here None e = absurd (entry last known None e [] refl)
  zero_here (Some k) e = let h : k ≤ 0 = (entry last known (Some k) e).least [] refl in let z : k ≡ 0 = omega arith in e ∙ ap Some z

  -- no other number has it
  zero_only : (i : ℕ) → level_of levels i ≡ Some 0 → i ≡ last
  zero_only i e = let c = (entry i (has_list i 0 e) (Some 0) e).some in empty_chain g last i c.0 c.1 c.2

  -- a linked number has a level where the other has one, one more at most
  level_before : (i j l : ℕ) → IsLinked g i j → level_of levels j ≡ Some l → (o : Option ℕ) → level_of levels i ≡ o → (k : ℕ) × (level_of levels i ≡ Some k) × (k ≤ l + 1)
  level_before i j l link f None e =
      let c = (entry j (has_list j l f) (Some l) f).some in
      absurd (entry i (links.below j i (links.both_ways i j link)) None e (j ∷ c.0) (link, c.1))
  level_before i j l link f (Some k) e =
      let c = (entry j (has_list j l f) (Some l) f).some in
      let h : k ≤ length (j ∷ c.0) = (entry i (has_list i k e) (Some k) e).least (j ∷ c.0) (link, c.1) in
      (k, e, omega (arith, c.2, h))

  -- the same as a test
  some_before : (i j : ℕ) → IsLinked g i j → is_some (level_of levels j) ≡ true → is_some (level_of levels i) ≡ true
  some_before i j link t =
      let l = some_of (level_of levels j) t in
      let k = level_before i j l.0 link l.1 (level_of levels i) refl in
      ap is_some k.1

  -- the level is at most one more
  at_most_one_more : (i j k l : ℕ) → IsLinked g i j → level_of levels i ≡ Some k → level_of levels j ≡ Some l → k ≤ l + 1
  at_most_one_more i j k l link e f =
      let m = level_before i j l link f (level_of levels i) refl in
      subst (λ v. v ≤ l + 1) (same_entry (level_of levels i) m.0 k m.1 e) m.2

  -- the second number of a shortest chain has a level less by 1
  nearer_by : (i k : ℕ) → level_of levels i ≡ Some (suc k) → (js : List ℕ) → IsChain g last i js → length js ≡ suc k → (j : ℕ) × IsLinked g i j × (level_of levels j ≡ Some k)
  nearer_by i k e [] c n = absurd (omega arith)
  nearer_by i k e (j ∷ js) (link, rest) n = by_entry (level_of levels j) refl
    where
      by_entry : (o : Option ℕ) → level_of levels j ≡ o → (m : ℕ) × IsLinked g i m × (level_of levels m ≡ Some k)
      by_entry None f = absurd (entry j (links.below i j link) None f js rest)
      by_entry (Some l) f =
          let h : l ≤ length js = (entry j (links.below i j link) (Some l) f).least js rest in
          let b : suc k ≤ l + 1 = at_most_one_more i j (suc k) l link e f in
          let same : l ≡ k = omega (arith, n, h, b) in
          (j, link, f ∙ ap Some same)

  -- all four tests
  passing : PassesTests g last levels
  passing = record {
    zero_at_last = λ i h. (zero_only i, λ e. subst (λ v. level_of levels v ≡ Some 0) (sym e) (zero_here (level_of levels last) refl));
    together = λ i j link. same_test (is_some (level_of levels i)) (is_some (level_of levels j)) (some_before j i (links.both_ways i j link)) (some_before i j link);
    close = λ i j k l link e f. (at_most_one_more i j k l link e f, at_most_one_more j i l k (links.both_ways i j link) f e);
    nearer = λ i k e. let c = (entry i (has_list i (suc k) e) (Some (suc k)) e).some in nearer_by i k e c.0 c.1 c.2;
  }

-- the law
pub levels_pass_tests_spec : LevelsPassTests
levels_pass_tests_spec g last levels known links right = passing g last levels known links right

-- ---- no other list, and no other chain

-- the law of levels
pub levels_are_one_spec : LevelsAreOne
levels_are_one_spec g last levels others a b = levels_are_one_by_spec (IsLinked g) (length g) last levels others a b

-- the law of chains
pub route_is_one_spec : RouteIsOne
route_is_one_spec g from last route other a b = one_route (IsLinked g) last from route other a b
