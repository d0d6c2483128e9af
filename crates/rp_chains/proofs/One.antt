-- There is one list of levels, and one chain that is chosen, at most.
use Rattle.std.proofs.Common.{◌≡◌, ℕ, suc, ◌<◌, ◌≤◌, List, [], ◌∷◌, length, refl, sym, ap, ◌∙◌, subst, arith}
use Rattle.std.specs.Prelude.{Option, Some, None}
use Rattle.rp_geometry.specs.sets.Chain.{IsLevelBy, level_of, GoesDownBy, IsRouteBy}
use Rattle.rp_geometry.specs.laws.ChainLaws.{LevelsAreOneBy, ChainIsOneBy}

-- two lists of the same length with the same entries are the same
same_lists : (xs ys : List (Option ℕ)) → length xs ≡ length ys → ((i : ℕ) → i < length xs → level_of xs i ≡ level_of ys i) → xs ≡ ys
same_lists [] [] n h = refl
same_lists [] (y ∷ ys) n h = absurd (omega arith)
same_lists (x ∷ xs) [] n h = absurd (omega arith)
same_lists (x ∷ xs) (y ∷ ys) n h =
    let head : x ≡ y = h 0 (omega arith) in
    let tail : xs ≡ ys = same_lists xs ys (omega arith) (λ i k. h (suc i) (omega arith)) in
    cc

module _ (R : ℕ → ℕ → Type 0) (last : ℕ) where
  -- a number has one level
  pub one_level : (i : ℕ) (o p : Option ℕ) → IsLevelBy R last i o → IsLevelBy R last i p → o ≡ p
  one_level i None None h k = refl
  one_level i None (Some l) h k = absurd (h k.some.0 k.some.1)
  one_level i (Some l) None h k = absurd (k h.some.0 h.some.1)
  one_level i (Some l) (Some m) h k =
      let a : l ≤ length k.some.0 = h.least k.some.0 k.some.1 in
      let b : m ≤ length h.some.0 = k.least h.some.0 h.some.1 in
      let same : l ≡ m = omega (arith, h.some.2, k.some.2) in
      ap Some same

  -- two ways down with as many steps are the same
  one_way_down : (i : ℕ) (js ks : List ℕ) → length js ≡ length ks → GoesDownBy R last i js → GoesDownBy R last i ks → js ≡ ks
  one_way_down i [] [] n a b = refl
  one_way_down i [] (k ∷ ks) n a b = absurd (omega arith)
  one_way_down i (j ∷ js) [] n a b = absurd (omega arith)
  one_way_down i (j ∷ js) (k ∷ ks) n (a, later) (b, after) =
      let m : length js ≡ length ks = omega arith in
      let below : j ≤ k = a.first k b.linked (subst (λ v. IsLevelBy R last k (Some v)) (sym m) b.level) in
      let above : k ≤ j = b.first j a.linked (subst (λ v. IsLevelBy R last j (Some v)) m a.level) in
      let same : j ≡ k = omega arith in
      let rest : js ≡ ks = one_way_down j js ks m later (subst (λ v. GoesDownBy R last v ks) (sym same) after) in
      cc

  -- only one route is chosen
  pub one_route : (from : ℕ) (route other : List ℕ) → IsRouteBy R from last route → IsRouteBy R from last other → route ≡ other
  one_route from [] other a b = absurd a
  one_route from (i ∷ hs) [] a b = absurd b
  one_route from (i ∷ hs) (j ∷ js) a b =
      let head : i ≡ j = a.0 ∙ sym b.0 in
      let as_long : Some (length hs) ≡ Some (length js) = one_level from (Some (length hs)) (Some (length js)) a.1 b.1 in
      let n : length hs ≡ length js = cc in
      let rest : hs ≡ js = one_way_down from hs js n a.2 b.2 in
      cc

-- the law of levels
pub levels_are_one_by_spec : (R : ℕ → ℕ → Type 0) → LevelsAreOneBy R
levels_are_one_by_spec R n last levels others a b =
    same_lists levels others (a.as_many ∙ sym b.as_many)
    (λ i h. let k : i < n = omega (arith, a.as_many) in one_level R last i (level_of levels i) (level_of others i) (a.each i k) (b.each i k))

-- the law of chains
pub chain_is_one_by_spec : (R : ℕ → ℕ → Type 0) → ChainIsOneBy R
chain_is_one_by_spec R from last None None a b = refl
chain_is_one_by_spec R from last None (Some []) a b = absurd b
chain_is_one_by_spec R from last None (Some (i ∷ js)) a b = absurd (a b.1.some.0 b.1.some.1)
chain_is_one_by_spec R from last (Some []) None a b = absurd a
chain_is_one_by_spec R from last (Some (i ∷ js)) None a b = absurd (b a.1.some.0 a.1.some.1)
chain_is_one_by_spec R from last (Some route) (Some other) a b = ap Some (one_route R last from route other a b)
