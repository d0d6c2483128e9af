-- Tables of words.
use Rattle.std.specs.Prelude.{ℕ, List, map}
use denote.Ref.{Bor}
use Rattle.rp_language.specs.Grammar.{Word}

-- the words of a table in the code, with their values
abbrev pub words_in : {A : Type 0} → List (Bor (List ℕ) × A) → List (Word × A)
words_in table = map (λ entry. (entry.0.now, entry.1)) table
