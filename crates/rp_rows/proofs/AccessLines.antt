-- The verdict lines of a chain and of levels, along pairs of numbers of ids.
use Rattle.std.proofs.Common.{◌≡◌, ℕ, ◌<◌, ◌≤◌, List, [], ◌∷◌, ◌++◌, length, Option, Some, None, sym, ap, ap₂, ◌∙◌, subst, arith, append_assoc}
use Rattle.std.specs.Prelude.{option_map, MatchOption, IfSome}
use Rattle.std.proofs.lemmas.List.{map-append}
use Rattle.rp_geometry.specs.sets.Chain.{IsChosenBy}
use Rattle.rp_geometry.specs.parts.Levels.{levels_along, chain_along}
use Rattle.rp_language.specs.Name.{Label}
use Rattle.rp_model.specs.commands.Verdict.{Verdict, chain_lines, level_lines, access_lines}
use Rattle.rp_access.specs.Chain.{IsLinked, AreLevels, HasNoChain, IsRoute}
use Rattle.rp_access.specs.Route.{Numbers}
use Rattle.rp_access.specs.Laws.{AreLinksOf}
use Rattle.rp_access.proofs.Routes.{route_below}
use Rattle.rp_access.proofs.Short.{chain_is_short}
use Rattle.rp_access.proofs.Computed.{levels_are_computed_spec, chain_is_computed_spec}
use Rattle.rp_proximity.specs.Near.{AreWithin}
use Rattle.rp_rows.specs.Access.{told_levels}

-- ---- by their ids

-- a level goes behind those told
pub level_told : (told more : List (ℕ × Label)) (ids left_ids : List Label) (levels left_levels : List (Option ℕ)) (x : Label) (k : ℕ) (all : List Verdict) → left_ids ≡ x ∷ ids → left_levels ≡ Some k ∷ levels → more ≡ told ++ (k, x) ∷ [] →
    told_levels told ++ level_lines left_ids left_levels ≡ all → told_levels more ++ level_lines ids levels ≡ all
level_told told more ids left_ids levels left_levels x k all e f made left =
    ap (λ (ls : List (ℕ × Label)). told_levels ls ++ level_lines ids levels) made
    ∙ ap (λ (vs : List Verdict). vs ++ level_lines ids levels) (map-append (λ (l : ℕ × Label). Verdict.level l.0 l.1) told ((k, x) ∷ []))
    ∙ append_assoc (told_levels told) (Verdict.level k x ∷ []) (level_lines ids levels)
    ∙ sym (ap₂ (λ (xs : List Label) (ls : List (Option ℕ)). told_levels told ++ level_lines xs ls) e f)
    ∙ left

-- an id without one is passed over
pub level_passed : (told more : List (ℕ × Label)) (ids left_ids : List Label) (levels left_levels : List (Option ℕ)) (x : Label) (all : List Verdict) → left_ids ≡ x ∷ ids → left_levels ≡ None ∷ levels → more ≡ told →
    told_levels told ++ level_lines left_ids left_levels ≡ all → told_levels more ++ level_lines ids levels ≡ all
level_passed told more ids left_ids levels left_levels x all e f made left =
    ap (λ (ls : List (ℕ × Label)). told_levels ls ++ level_lines ids levels) made
    ∙ sym (ap₂ (λ (xs : List Label) (ls : List (Option ℕ)). told_levels told ++ level_lines xs ls) e f)
    ∙ left

-- ---- along the pairs

module _ (g : List (List ℕ)) (pairs : List (ℕ × ℕ)) (same : AreLinksOf g pairs) (ids : List Label) (many : length g ≡ length ids) (from last : ℕ) (from_below : from < length ids) (last_below : last < length ids) where
  -- the number of an id has a list
  listed : (k : ℕ) → k < length ids → k < length g
  listed k h = omega (arith, many, h)

  -- a chain was sought
  abbrev IsSought : Option Numbers → Type 0
  IsSought o = MatchOption o (HasNoChain g last from) (λ r. IsRoute g from last r.items)

  -- the one that is chosen is computed
  chosen_is : (chosen : Option (List ℕ)) → IsChosenBy (IsLinked g) from last chosen → chosen ≡ chain_along pairs (length ids) from last
  chosen_is chosen right = chain_is_computed_spec g pairs from last chosen same (listed from from_below) (listed last last_below) right ∙ ap (λ (n : ℕ). chain_along pairs n from last) many

  -- so is the one that was found
  found_is : (o : Option Numbers) → IsSought o → option_map (λ r. r.items) o ≡ chain_along pairs (length ids) from last
  found_is None found = chosen_is None found
  found_is (Some r) found = chosen_is (Some r.items) found

  -- its numbers are those of ids
  pub route_within : (o : Option Numbers) → IsSought o → IfSome o (λ r. AreWithin ids r.items)
  route_within None found = tt
  route_within (Some r) found = route_below g (length ids) from last from_below (λ i j l. let below = ((same i j).0 l).1 in omega (arith, many, below)) r.items found

  -- there are no more of them than ids
  pub route_few : (n : ℕ) → length ids ≤ n → (o : Option Numbers) → IsSought o → IfSome o (λ r. length r.items ≤ n)
  route_few n few None found = tt
  route_few n few (Some r) found =
      let short : length r.items ≤ length ids = subst (λ (chosen : Option (List ℕ)). IfSome chosen (λ route. length route ≤ length ids)) (sym (found_is (Some r) found)) (chain_is_short pairs (length ids) from last) in
      omega (arith, short, few)

  -- the lines of both
  pub both_told : (o : Option Numbers) → IsSought o → (levels : List (Option ℕ)) → AreLevels g last levels → (first second : List Verdict) → first ≡ chain_lines ids (option_map (λ r. r.items) o) → second ≡ level_lines ids levels →
      first ++ second ≡ access_lines ids (chain_along pairs (length ids) from last) (levels_along pairs (length ids) last)
  both_told o found levels right first second e f =
      ap₂ ◌++◌ (e ∙ ap (chain_lines ids) (found_is o found))
      (f ∙ ap (level_lines ids) (levels_are_computed_spec g pairs last levels same (listed last last_below) right ∙ ap (λ (n : ℕ). levels_along pairs n last) many))
