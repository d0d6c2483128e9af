-- The walk over the pairs of parts, pair by pair, and how many pairs there are.
use Rattle.std.proofs.Common.{◌≡◌, ℕ, zero, suc, ◌+◌, ◌-◌, ◌*◌, ◌<◌, List, [], ◌∷◌, length, map, get_or, drop, refl, sym, ap, ◌∙◌, subst, arith}
use Rattle.std.proofs.lemmas.List.{length-map}
use Rattle.std.specs.Prelude.{◌/◌}
use Rattle.std.proofs.Math.Nat.{mul-div_cancel}
use Rattle.rp_algebra.proofs.Lists.{drop_item}
use Rattle.rp_geometry.specs.sets.Shape.{Part}
use Rattle.rp_geometry.specs.parts.Groups.{groups_of}
use Rattle.rp_semantics.specs.Walk.{done, stopped, limit_met, Walk, Tester, pass, after_first, ◌>>=◌}
use Rattle.rp_semantics.specs.Pieces.{pair_count, numbered_from, link_pair, links_with_part, links_among, pieces_of_parts}
use Rattle.rp_oracle.proofs.Left.{IsLeft, all_left, left_as, next_left, end_left}

-- links between numbered parts
abbrev pub Links : Type 0
Links = List (ℕ × ℕ)

-- how many pairs there are
pub pairs_twice : (ps : List Part) → pair_count ps * 2 + length ps ≡ length ps * length ps
pairs_twice [] = refl
pairs_twice (p ∷ ps) = let h = pairs_twice ps in omega (arith, h)

-- half of their product and that less one
pub half_product : (n pairs : ℕ) → pairs * 2 + n ≡ n * n → (n ≡ 0 → ⊥) → n * (n - 1) / 2 ≡ pairs
half_product zero pairs e h = absurd (h refl)
half_product (suc m) pairs e h =
    let less : suc m - 1 ≡ m = omega arith in
    let twice : suc m * m ≡ pairs * 2 = omega (arith, e) in
    ap (λ k. suc m * k / 2) less ∙ ap (λ k. k / 2) twice ∙ mul-div_cancel pairs (omega arith)

-- what is left of a list of numbered parts at a part
pub numbered_item : {X : Type 0} (seen : X → Part) (ps : List X) (k i : ℕ) (p : X) → i < length ps → p ≡ get_or ps i p
    → numbered_from (k + i) (map seen (drop i ps)) ≡ (k + i, seen p) ∷ numbered_from (k + (i + 1)) (map seen (drop (i + 1) ps))
numbered_item seen ps k i p h e =
    let next : k + i + 1 ≡ k + (i + 1) = omega arith in
    ap (λ qs. numbered_from (k + i) (map seen qs)) (drop_item ps i p h e) ∙ ap (λ m. (k + i, seen p) ∷ numbered_from m (map seen (drop (i + 1) ps))) next

module _ {W X : Type 0} (tester : Tester W) (seen : X → Part) where
  -- one pair and the rest are left
  pub pair_left : {start now : W} {whole : Walk W Links} (found : Links) (p : ℕ × Part) (qs : List X) (k i : ℕ) (q : X) → i < length qs → q ≡ get_or qs i q
      → IsLeft start whole now (links_with_part tester found p (numbered_from (k + i) (map seen (drop i qs))))
      → IsLeft start whole now (link_pair tester found p (k + i, seen q) >>= (λ more. links_with_part tester more p (numbered_from (k + (i + 1)) (map seen (drop (i + 1) qs)))))
  pair_left found p qs k i q h e l = left_as (ap (links_with_part tester found p) (numbered_item seen qs k i q h e)) l

  -- one part and the rest are left, where the code has the rest in other words
  pub part_left : {start now : W} {whole : Walk W Links} (found : Links) (ps : List X) (i : ℕ) (p : X) (later : List X) → later ≡ drop (i + 1) ps → i < length ps → p ≡ get_or ps i p
      → IsLeft start whole now (links_among tester found (numbered_from (i + 1) (map seen (drop i ps))))
      → IsLeft start whole now (links_with_part tester found (i + 1, seen p) (numbered_from (i + 1 + 1) (map seen later)) >>= (λ more. links_among tester more (numbered_from (i + 1 + 1) (map seen (drop (i + 1) ps)))))
  part_left found ps i p later r h e l =
      let rest = numbered_from (i + 1 + 1) (map seen (drop (i + 1) ps)) in
      left_as (ap (λ qs. links_among tester found (numbered_from (i + 1) (map seen qs))) (drop_item ps i p h e)
      ∙ ap (λ (qs : List X). links_with_part tester found (i + 1, seen p) (numbered_from (i + 1 + 1) (map seen qs)) >>= (λ more. links_among tester more rest)) (sym r)) l

  -- ---- the whole walk

  -- the groups of the links of each two parts
  abbrev pub grouped_links : List Part → Walk W (List (List ℕ))
  grouped_links ps = links_among tester [] (numbered_from 1 ps) >>= (λ links. pass (groups_of links (length ps)))

  -- as many tests are counted as there are pairs
  pub count_is : (xs : List X) (n : ℕ) → ((pairs : ℕ) → pairs * 2 + length xs ≡ length xs * length xs → n ≡ pairs) → n ≡ pair_count (map seen xs)
  count_is xs n h = h (pair_count (map seen xs)) (subst (λ k. pair_count (map seen xs) * 2 + k ≡ k * k) (length-map xs seen) (pairs_twice (map seen xs)))

  -- they are too many
  pub too_many : (ps : List Part) (n : ℕ) (w u : W) → n ≡ pair_count ps → tester.count n w ≡ stopped limit_met u → pieces_of_parts tester ps w ≡ stopped limit_met u
  too_many ps n w u e m = ap (after_first (λ _. grouped_links ps)) ((λ i. tester.count (sym e i) w) ∙ m)

  -- they are counted: the links are left
  pub links_left : (ps : List Part) (n : ℕ) (w u : W) → n ≡ pair_count ps → tester.count n w ≡ done tt u → IsLeft w (pieces_of_parts tester ps) u (grouped_links ps)
  links_left ps n w u e m = next_left (tester.count (pair_count ps)) (λ _. grouped_links ps) (all_left w (pieces_of_parts tester ps)) ((λ i. tester.count (sym e i) w) ∙ m)

  -- the links are found: so are the groups
  pub groups_found : (xs : List X) (n : ℕ) (found links : Links) (groups : List (List ℕ)) (w u v : W) → n ≡ pair_count (map seen xs) → tester.count n w ≡ done tt u
      → found ≡ [] → links_among tester found (numbered_from 1 (map seen xs)) u ≡ done links v → groups ≡ groups_of links (length xs)
      → pieces_of_parts tester (map seen xs) w ≡ done groups v
  groups_found xs n found links groups w u v e m f made g =
      let ps = map seen xs in
      end_left (done groups v)
      (next_left (links_among tester [] (numbered_from 1 ps)) (λ ls. pass (groups_of ls (length ps))) (links_left ps n w u e m)
      ((λ i. links_among tester (sym f i) (numbered_from 1 ps) u) ∙ made))
      (ap (λ gs. done gs v) (sym (g ∙ ap (groups_of links) (sym (length-map xs seen)))))
