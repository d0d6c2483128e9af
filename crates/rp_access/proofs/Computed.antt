-- Lists of links that link the same numbers as pairs do: levels and chains along them are those that are computed from the pairs.
use Rattle.std.proofs.Common.{◌≡◌, ℕ, zero, suc, ◌+◌, ◌<◌, Bool, true, false, ◌&&◌, ◌||◌, ◌⊎◌, inl, inr, ⊎_elim, List, [], ◌∷◌, ◌++◌, length, get_or, take, sym, ap, ◌∙◌, subst, arith}
use Rattle.std.specs.Prelude.{◌==◌}
use Rattle.std.specs.List.{AllByRecursion}
use Rattle.std.proofs.lemmas.Bool.{or_cases, or_left, or_right, eqb-true, eq-eqb}
use Rattle.std.proofs.lemmas.List.{take_more, get_or_default}
use Rattle.rp_algebra.proofs.Tests.{and_first, and_second, and_true}
use Rattle.rp_geometry.specs.parts.Groups.{is_linked}
use Rattle.rp_geometry.specs.parts.Levels.{levels_along, chain_along}
use Rattle.rp_geometry.specs.laws.ChainLaws.{AreLinkedBelow}
use Rattle.rp_chains.proofs.One.{levels_are_one_by_spec, chain_is_one_by_spec}
use Rattle.rp_chains.proofs.Related.{AreStepsOf, levels_there, chosen_there}
use Rattle.rp_chains.proofs.Levels.{levels_are_found_spec}
use Rattle.rp_chains.proofs.Down.{chain_is_found_spec}
use Rattle.rp_access.specs.Chain.{IsLinked, AreJoined, IsBelow}
use Rattle.rp_access.specs.Laws.{AreLinksOf, LevelsAreComputed, ChainIsComputed}

-- the steps are the same
same_steps : (g : List (List ℕ)) (links : List (ℕ × ℕ)) → AreLinksOf g links → AreStepsOf (AreLinkedBelow links (length g)) (IsLinked g)
same_steps g links same = record { there = λ i j r. (same i j).1 r; back = λ i j l. inl ((same i j).0 l) }

-- the law of levels
pub levels_are_computed_spec : LevelsAreComputed
levels_are_computed_spec g links last levels same below right =
    levels_are_one_by_spec (IsLinked g) (length g) last levels (levels_along links (length g) last) right
    (levels_there (AreLinkedBelow links (length g)) (IsLinked g) (same_steps g links same) (length g) last (levels_along links (length g) last) (levels_are_found_spec links (length g) last below))

-- the law of chains
pub chain_is_computed_spec : ChainIsComputed
chain_is_computed_spec g links from last chosen same from_below below right =
    chain_is_one_by_spec (IsLinked g) from last chosen (chain_along links (length g) from last) right
    (chosen_there (AreLinkedBelow links (length g)) (IsLinked g) (same_steps g links same) from last (chain_along links (length g) from last) (chain_is_found_spec links (length g) from last from_below below))

-- ---- link by link

-- two numbers are those of a pair, in one order or the other
abbrev are_ends : ℕ × ℕ → ℕ → ℕ → Bool
are_ends l i j = (l.0 == i && l.1 == j) || (l.0 == j && l.1 == i)

-- the ends of a pair
ends_are : (a b i j : ℕ) → are_ends (a, b) i j ≡ true → ((i ≡ a) × (j ≡ b)) ⊎ ((i ≡ b) × (j ≡ a))
ends_are a b i j e = ⊎_elim
    (λ (t : (a == i && b == j) ≡ true). inl (sym (eqb-true a i (and_first (a == i) (b == j) t)), sym (eqb-true b j (and_second (a == i) (b == j) t))))
    (λ (t : (a == j && b == i) ≡ true). inr (sym (eqb-true b i (and_second (a == j) (b == i) t)), sym (eqb-true a j (and_first (a == j) (b == i) t))))
    (or_cases (a == i && b == j) (a == j && b == i) e)

-- and they pass
are_ends_of : (a b i j : ℕ) → ((i ≡ a) × (j ≡ b)) ⊎ ((i ≡ b) × (j ≡ a)) → are_ends (a, b) i j ≡ true
are_ends_of a b i j (inl (e, f)) = or_left (a == i && b == j) (a == j && b == i) (and_true (a == i) (b == j) (eq-eqb a i (sym e)) (eq-eqb b j (sym f)))
are_ends_of a b i j (inr (e, f)) = or_right (a == i && b == j) (a == j && b == i) (and_true (a == j) (b == i) (eq-eqb a j (sym f)) (eq-eqb b i (sym e)))

-- with one pair more
more_linked : (links : List (ℕ × ℕ)) (a b i j : ℕ) → is_linked (links ++ (a, b) ∷ []) i j ≡ true → (is_linked links i j ≡ true) ⊎ (are_ends (a, b) i j ≡ true)
more_linked [] a b i j e = ⊎_elim inr (λ (t : false ≡ true). absurd (cc)) (or_cases (are_ends (a, b) i j) false e)
more_linked (l ∷ links) a b i j e = ⊎_elim
    (λ (t : are_ends l i j ≡ true). inl (or_left (are_ends l i j) (is_linked links i j) t))
    (λ (t : is_linked (links ++ (a, b) ∷ []) i j ≡ true). ⊎_elim (λ (s : is_linked links i j ≡ true). inl (or_right (are_ends l i j) (is_linked links i j) s)) inr (more_linked links a b i j t))
    (or_cases (are_ends l i j) (is_linked (links ++ (a, b) ∷ []) i j) e)

-- what was linked is linked, and so are the ends of the pair
linked_more : (links : List (ℕ × ℕ)) (a b i j : ℕ) → (is_linked links i j ≡ true) ⊎ (are_ends (a, b) i j ≡ true) → is_linked (links ++ (a, b) ∷ []) i j ≡ true
linked_more [] a b i j (inl e) = absurd (cc)
linked_more [] a b i j (inr e) = or_left (are_ends (a, b) i j) false e
linked_more (l ∷ links) a b i j (inl e) = ⊎_elim
    (λ (t : are_ends l i j ≡ true). or_left (are_ends l i j) (is_linked (links ++ (a, b) ∷ []) i j) t)
    (λ (t : is_linked links i j ≡ true). or_right (are_ends l i j) (is_linked (links ++ (a, b) ∷ []) i j) (linked_more links a b i j (inl t)))
    (or_cases (are_ends l i j) (is_linked links i j) e)
linked_more (l ∷ links) a b i j (inr e) = or_right (are_ends l i j) (is_linked (links ++ (a, b) ∷ []) i j) (linked_more links a b i j (inr e))

-- two numbers that are joined are one pair more
pub links_go_on : (old new : List (List ℕ)) (links : List (ℕ × ℕ)) (a b : ℕ) → a < length old → b < length old → AreJoined old new a b → AreLinksOf old links → AreLinksOf new (links ++ (a, b) ∷ [])
links_go_on old new links a b a_below b_below joined same i j = (there, back)
  where
    in_new : (k : ℕ) → k < length old → k < length new
    in_new k h = let n = joined.as_many in omega (arith, h, n)

    in_old : (k : ℕ) → k < length new → k < length old
    in_old k h = let n = joined.as_many in omega (arith, h, n)

    ends_below : ((i ≡ a) × (j ≡ b)) ⊎ ((i ≡ b) × (j ≡ a)) → (i < length new) × (j < length new)
    ends_below (inl (e, f)) = (in_new i (omega (arith, e, a_below)), in_new j (omega (arith, f, b_below)))
    ends_below (inr (e, f)) = (in_new i (omega (arith, e, b_below)), in_new j (omega (arith, f, a_below)))

    by_link : IsLinked old i j ⊎ (((i ≡ a) × (j ≡ b)) ⊎ ((i ≡ b) × (j ≡ a))) → AreLinkedBelow (links ++ (a, b) ∷ []) (length new) i j
    by_link (inl l) = let r = (same i j).0 l in (in_new i r.0, in_new j r.1, linked_more links a b i j (inl r.2))
    by_link (inr e) = let r = ends_below e in (r.0, r.1, linked_more links a b i j (inr (are_ends_of a b i j e)))

    there : IsLinked new i j → AreLinkedBelow (links ++ (a, b) ∷ []) (length new) i j
    there l = by_link ((joined.links i j).0 l)

    back : AreLinkedBelow (links ++ (a, b) ∷ []) (length new) i j → IsLinked new i j
    back r = (joined.links i j).1 (⊎_elim (λ (t : is_linked links i j ≡ true). inl ((same i j).1 (in_old i r.0, in_old j r.1, t))) (λ (t : are_ends (a, b) i j ≡ true). inr (ends_are a b i j t)) (more_linked links a b i j r.2))

-- one more pair is joined
pub pair_joined : (old new : List (List ℕ)) (pairs : List (ℕ × ℕ)) (i : ℕ) (p : ℕ × ℕ) (n : ℕ) → i < length pairs → p ≡ get_or pairs i p → length old ≡ n → p.0 < n → p.1 < n → AreJoined old new p.0 p.1 → AreLinksOf old (take i pairs) → AreLinksOf new (take (i + 1) pairs)
pair_joined old new pairs i p n h e many a b joined same =
    subst (AreLinksOf new) (sym (take_more pairs i p h ∙ ap (λ (q : ℕ × ℕ). take i pairs ++ q ∷ []) (sym e)))
    (links_go_on old new (take i pairs) p.0 p.1 (subst (λ m. p.0 < m) (sym many) a) (subst (λ m. p.1 < m) (sym many) b) joined same)

-- a pair of a list of pairs below a count is below it
pub below_at : (n : ℕ) (pairs : List (ℕ × ℕ)) → AllByRecursion (IsBelow n) pairs → (i : ℕ) → i < length pairs → (get_or pairs i (0, 0) ≡ get_or pairs i (get_or pairs i (0, 0))) × IsBelow n (get_or pairs i (0, 0))
below_at n pairs all i h = (get_or_default pairs i (0, 0) (get_or pairs i (0, 0)) h, each pairs all i h)
  where
    each : (ps : List (ℕ × ℕ)) → AllByRecursion (IsBelow n) ps → (k : ℕ) → k < length ps → IsBelow n (get_or ps k (0, 0))
    each [] a k l = absurd (omega (arith, l))
    each (p ∷ ps) a zero l = a.0
    each (p ∷ ps) a (suc k) l = each ps a.1 k (omega (arith, l))
