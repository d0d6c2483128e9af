-- Words of tables.
use Rattle.std.proofs.Common.{◌≡◌, Bool, true, false, List, [], ◌∷◌, map, Option, Some, refl}
use Rattle.std.specs.Prelude.{option_map}
use Rattle.rp_language.specs.Name.{label_eq}
use Rattle.rp_language.specs.Grammar.{Word, looked_up}

-- what an entry gives, seen by a view
by_test : {A B : Type 0} (test : Bool) (view : A → B) (x : A) (behind : Option A) (seen : Option B) → option_map view behind ≡ seen
    → option_map view (elim test as (λ _. Option A) [ true ↦ Some x | false ↦ behind ]) ≡ (elim test as (λ _. Option B) [ true ↦ Some (view x) | false ↦ seen ])
by_test true view x behind seen e = refl
by_test false view x behind seen e = e

-- what a word stands for, seen by a view, is what it stands for in the table that is seen so
pub looked_up_as : {A B : Type 0} (view : A → B) (word : Word) (table : List (Word × A)) → option_map view (looked_up word table) ≡ looked_up word (map (λ entry. (entry.0, view entry.1)) table)
looked_up_as view word [] = refl
looked_up_as view word (entry ∷ table) = by_test (label_eq word entry.0) view entry.1 (looked_up word table) _ (looked_up_as view word table)
