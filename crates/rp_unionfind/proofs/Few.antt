-- There are no more groups than numbers.
use Rattle.std.proofs.Common.{◌≡◌, ℕ, ◌≤◌, Bool, true, false, List, [], ◌∷◌, length, sym, ap, ◌∙◌, subst, arith}
use Rattle.std.specs.Prelude.{nat_lt}
use Rattle.std.specs.List.{flat_map}
use Rattle.std.proofs.lemmas.List.{length-map}
use Rattle.std.proofs.lemmas.List.FromFn.{length-range_with_len}
use Rattle.rp_geometry.specs.parts.Groups.{is_listed_number, group_of, groups, groups_of, numbers_to}
use Rattle.rp_lists.specs.Listed.{Listed}
use Rattle.rp_unionfind.specs.Lists.{numbers_of}

-- of the numbers still to come
few_left : (links : List (ℕ × ℕ)) (all ks : List ℕ) → length (groups links all ks) ≤ length ks
few_left links all [] = omega arith
few_left links all (k ∷ ks) = by_test (is_listed_number k (flat_map (λ j. elim (nat_lt j k) [ true ↦ group_of links all j | false ↦ [] ]) all)) (few_left links all ks)
  where
    by_test : (b : Bool) → length (groups links all ks) ≤ length ks → length (elim b as (λ _. List (List ℕ)) [ true ↦ groups links all ks | false ↦ group_of links all k ∷ groups links all ks ]) ≤ length (k ∷ ks)
    by_test true h = omega (arith, h)
    by_test false h = omega (arith, h)

-- of all
few_groups : (links : List (ℕ × ℕ)) (n : ℕ) → length (groups_of links n) ≤ n
unfolding groups_of
few_groups links n = subst (λ (m : ℕ). length (groups links (numbers_to n) (numbers_to n)) ≤ m) (length-range_with_len 1 n) (few_left links (numbers_to n) (numbers_to n))

-- so it is with lists that are the groups
pub few_lists : (list : Listed (Listed ℕ)) (links : List (ℕ × ℕ)) (n : ℕ) → numbers_of list ≡ groups_of links n → length list.items ≤ n
few_lists list links n e = subst (λ (m : ℕ). m ≤ n) (ap (λ (gs : List (List ℕ)). length gs) (sym e) ∙ length-map list.items (λ (group : Listed ℕ). group.items)) (few_groups links n)
