-- The first number of a level among some numbers, found one number after the other.
use Rattle.std.proofs.Common.{◌≡◌, ℕ, ◌+◌, ◌<◌, ◌≤◌, ⊎_elim, ◌≢◌, Bool, true, false, nat_eq, nat_le, List, [], ◌∷◌, ◌++◌, length, take, refl, sym, ap, ◌∙◌, subst, arith}
use Rattle.std.specs.Prelude.{Option, Some, None, slice_index}
use Rattle.std.proofs.lemmas.List.{take_more}
use Rattle.std.proofs.lemmas.List.Elements.{Contains-push, Contains-push_cases, Contains-append_left}
use Rattle.std.proofs.lemmas.Bool.{eqb-true}
use Rattle.rp_algebra.proofs.Lists.{take_all}
use Rattle.rp_geometry.specs.sets.Chain.{level_of}
use Rattle.rp_access.specs.Tests.{IsOfLevel, IsFirstAmong, earlier, first_with}

module _ (levels : List (Option ℕ)) (level : ℕ) (js : List ℕ) (j : ℕ) where
  -- a number that was there is still there
  still : (m : ℕ) → IsOfLevel levels level js m → IsOfLevel levels level (js ++ j ∷ []) m
  still m h = record { listed = Contains-append_left js (j ∷ []) m h.listed; level_is = h.level_is }

  -- a number of another level changes nothing
  skipped : level_of levels j ≢ Some level → (first : Option ℕ) → IsFirstAmong levels level js first → IsFirstAmong levels level (js ++ j ∷ []) first
  skipped other None h =
      λ m o. ⊎_elim
      (λ old. h m (record { listed = old; level_is = o.level_is }))
      (λ same. other (subst (λ v. level_of levels v ≡ Some level) (sym same) o.level_is))
      (Contains-push_cases js j m o.listed)
  skipped other (Some i) h = (
    still i h.0,
    λ m o. ⊎_elim
        (λ old. h.1 m (record { listed = old; level_is = o.level_is }))
        (λ same. absurd (other (subst (λ v. level_of levels v ≡ Some level) (sym same) o.level_is)))
        (Contains-push_cases js j m o.listed),
  )

  -- the number itself is there
  itself : level_of levels j ≡ Some level → IsOfLevel levels level (js ++ j ∷ []) j
  itself e = record { listed = Contains-push js j; level_is = e }

  -- the lesser of the first one and a further one is the first of all
  lesser : level_of levels j ≡ Some level → (i : ℕ) → IsFirstAmong levels level js (Some i) → (b : Bool) → nat_le i j ≡ b → IsFirstAmong levels level (js ++ j ∷ []) (Some (elim b [ true ↦ i | false ↦ j ]))
  lesser e i h true t = (
    still i h.0,
    λ m o. ⊎_elim
        (λ old. h.1 m (record { listed = old; level_is = o.level_is }))
        (λ same. let le : i ≤ j = grind arith in subst (λ v. i ≤ v) same le)
        (Contains-push_cases js j m o.listed),
  )
  lesser e i h false t = (
    itself e,
    λ m o. ⊎_elim
        (λ old. let a : i ≤ m = h.1 m (record { listed = old; level_is = o.level_is }) in let b : j ≤ i = grind arith in omega arith)
        (λ same. subst (λ v. j ≤ v) same (omega arith))
        (Contains-push_cases js j m o.listed),
  )

  -- a number of the level
  taken : level_of levels j ≡ Some level → (first : Option ℕ) → IsFirstAmong levels level js first → IsFirstAmong levels level (js ++ j ∷ []) (Some (earlier first j))
  taken e None h = (
    itself e,
    λ m o. ⊎_elim
        (λ old. absurd (h m (record { listed = old; level_is = o.level_is })))
        (λ same. subst (λ v. j ≤ v) same (omega arith))
        (Contains-push_cases js j m o.listed),
  )
  taken e (Some i) h = lesser e i h (nat_le i j) refl

  -- one number more
  one_more : (found : Option ℕ) → level_of levels j ≡ found → (first : Option ℕ) → IsFirstAmong levels level js first → IsFirstAmong levels level (js ++ j ∷ []) (first_with found level first j)
  one_more None e first h = skipped (λ f. (let g : None ≡ Some level = sym e ∙ f in cc)) first h
  one_more (Some k) e first h = by_test (nat_eq k level) refl
    where
      by_test : (b : Bool) → nat_eq k level ≡ b → IsFirstAmong levels level (js ++ j ∷ []) (elim b [ true ↦ Some (earlier first j) | false ↦ first ])
      by_test true t = taken (e ∙ ap Some (eqb-true k level t)) first h
      by_test false t = skipped (λ f. (let g : Some k ≡ Some level = sym e ∙ f in let same : k ≡ level = cc in let bad : nat_eq k level ≡ true = grind arith in cc)) first h

-- the next number of a list, as the code reads it
pub next_of_list : (levels : List (Option ℕ)) (level : ℕ) (js : List ℕ) (i : ℕ) (first next : Option ℕ) → i < length js
    → next ≡ first_with (level_of levels (slice_index js i)) level first (slice_index js i) → IsFirstAmong levels level (take i js) first → IsFirstAmong levels level (take (i + 1) js) next
next_of_list levels level js i first next h n a =
    subst (λ v. IsFirstAmong levels level v next) (sym (take_more js i 0 h))
    (subst (IsFirstAmong levels level (take i js ++ slice_index js i ∷ [])) (sym n) (one_more levels level (take i js) (slice_index js i) (level_of levels (slice_index js i)) refl first a))

-- all of the list
pub all_of_list : (levels : List (Option ℕ)) (level : ℕ) (js : List ℕ) (i : ℕ) (first : Option ℕ) → length js ≤ i → IsFirstAmong levels level (take i js) first → IsFirstAmong levels level js first
all_of_list levels level js i first h a = subst (λ v. IsFirstAmong levels level v first) (take_all js i h) a
