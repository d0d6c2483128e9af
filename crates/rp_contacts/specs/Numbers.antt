-- Pairs of some lots, by their places and by the numbers of their places.
use Rattle.std.specs.Prelude.{ℕ, ◌<◌, Bool, not, ◌==◌, List, [], ◌∷◌, ◌++◌, map, get_or, cond}
use Rattle.rp_geometry.specs.sets.Shape.{Part}
use Rattle.rp_semantics.specs.Form.{touching_pair}
use Rattle.rp_model.specs.states.State.{Lot}
use Rattle.rp_model.specs.commands.Parts.{count_pairs}
use Rattle.rp_history.specs.Places.{IsOneOf}
use Rattle.rp_contacts.specs.declared.pair.Pair.{Pair}
use Rattle.rp_contacts.specs.Meets.{pair_of, parts_at}

-- the lists of parts of the lots at some places
abbrev pub lists_at : {S : Type 0} → List (Lot S) → List ℕ → List (List Part)
lists_at lots ks = map (λ k. parts_at lots k) ks

-- some part of one list may be in contact with some part of the other, by their boxes
abbrev pub is_touching : List Part → List Part → Bool
is_touching ps qs = not (count_pairs touching_pair ps qs == 0)

-- the pairs of one place with further ones whose lots have parts that may be in contact
abbrev pub places_with : {S : Type 0} → List (Lot S) → ℕ → List ℕ → List Pair
places_with lots j [] = []
places_with lots j (k ∷ ks) = cond (is_touching (parts_at lots j) (parts_at lots k)) (pair_of j k ∷ places_with lots j ks) (places_with lots j ks)

-- the pairs of each two places whose lots have parts that may be in contact
abbrev pub places_among : {S : Type 0} → List (Lot S) → List ℕ → List Pair
places_among lots [] = []
places_among lots (j ∷ ks) = places_with lots j ks ++ places_among lots ks

-- both places of a pair are in the list
abbrev pub IsPairOf : List ℕ → Pair → Type 0
IsPairOf ks p = IsOneOf ks p.first × IsOneOf ks p.second

-- both numbers of a pair are below n
abbrev pub AreBelow : ℕ → Pair → Type 0
AreBelow n p = (p.first < n) × (p.second < n)

-- a pair of numbers, as the pair of the places with these numbers
abbrev pub placed : List ℕ → Pair → Pair
placed ks p = pair_of (get_or ks p.first 0) (get_or ks p.second 0)

-- the links of the numbers of the pairs that meet
abbrev pub links_met : List Pair → List Bool → List (ℕ × ℕ)
links_met [] met = []
links_met (p ∷ ps) [] = []
links_met (p ∷ ps) (b ∷ met) = cond b ((p.first, p.second) ∷ links_met ps met) (links_met ps met)
