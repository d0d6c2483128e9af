use Rattle.std.proofs.Common.{◌≡◌, ℕ, suc, ◌<◌, Bool, true, false, List, [], ◌∷◌, refl, ap, arith}
use Rattle.std.proofs.lemmas.Slice.Eq.{bytes_eq-Decides}
use Rattle.rp_language.specs.Name.{Label, label_eq}
use Rattle.rp_model.specs.states.State.{place_among}
use Rattle.rp_lot_tests.proofs.lotindex.access_is_told_along_pairs.Goals as goal

-- the next id is the one looked for
number_here : (x y : Label) (ids : List Label) → label_eq x y ≡ true → place_among x (y ∷ ids) ≡ 0
number_here x y ids e = ap (λ (b : Bool). elim b as (λ _. ℕ) [ true ↦ 0 | false ↦ suc (place_among x ids) ]) e

-- or another one
number_later : (x y : Label) (ids : List Label) → label_eq x y ≡ false → place_among x (y ∷ ids) ≡ suc (place_among x ids)
number_later x y ids e = ap (λ (b : Bool). elim b as (λ _. ℕ) [ true ↦ 0 | false ↦ suc (place_among x ids) ]) e

-- a label stands first in a list that begins with it
first_number : (x : Label) (y : Label) → place_among x (x ∷ y ∷ []) < 2
first_number x y = let here = number_here x x (y ∷ []) ((bytes_eq-Decides x x).1 refl) in omega (arith, here)

-- and first or second in one where it is the second
second_number : (x y : Label) → place_among y (x ∷ y ∷ []) < 2
second_number x y = by (label_eq y x) refl
  where
    by : (b : Bool) → label_eq y x ≡ b → place_among y (x ∷ y ∷ []) < 2
    by true e = let here = number_here y x (y ∷ []) e in omega (arith, here)
    by false e = let later = number_later y x (y ∷ []) e in let here = number_here y y [] ((bytes_eq-Decides y y).1 refl) in omega (arith, later, here)

pub along-access-requires-clause-from_there : goal.along-access-requires-clause-from_there
along-access-requires-clause-from_there g c = first_number c.name-first.result c.name-second.result

pub along-access-requires-clause-to_there : goal.along-access-requires-clause-to_there
along-access-requires-clause-to_there g c = second_number c.name-first.result c.name-second.result
