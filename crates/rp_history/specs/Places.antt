-- The indexes of live lots among all lots.
use Rattle.std.specs.Prelude.{◌≡◌, ℕ, ◌+◌, ◌<◌, Bool, true, ◌&&◌, cond, List, [], ◌∷◌, length, get_or, Option, Some, None}
use Rattle.std.specs.List.{remove}
use Rattle.rp_language.specs.Name.{Label, label_eq}
use Rattle.rp_model.specs.states.State.{Lot, is_live}

-- the layer is the given one, if one is given
abbrev pub is_asked : Option Label → Label → Bool
is_asked None z = true
is_asked (Some y) z = label_eq z y

-- the lot is live, and of the given layer, if one is given
abbrev pub is_live_in : {S : Type 0} → Option Label → Lot S → Bool
is_live_in o l = is_live l && is_asked o l.layer

-- the indexes of the live lots, of the given layer if one is given; the first of all lots has the index k
abbrev pub live_places : {S : Type 0} → Option Label → ℕ → List (Lot S) → List ℕ
live_places o k [] = []
live_places o k (l ∷ ls) = cond (is_live_in o l) (k ∷ live_places o (k + 1) ls) (live_places o (k + 1) ls)

-- the indexes strictly rise
abbrev pub AreRising : List ℕ → Type 0
AreRising ks = (i j : ℕ) → i < j → j < length ks → get_or ks i 0 < get_or ks j 0

-- the index is in the list, at a position
pub record IsOneOf (ks : List ℕ) (k : ℕ) : Type 0 where
  pub number : ℕ
  pub below : number < length ks
  pub is : get_or ks number 0 ≡ k

-- the second list is the first without one index
pub record AreWithout (ks js : List ℕ) (k : ℕ) : Type 0 where
  pub one : IsOneOf ks k
  pub rest : js ≡ remove ks one.number
