-- Lines of a text.
use Rattle.std.specs.Prelude.{ℕ, Bool, List, [], ◌∷◌, ◌++◌, IsTrue, nat_eq, not}
use Rattle.std.specs.List.{list_all}

-- the byte is a line end
abbrev pub is_line_end : ℕ → Bool
is_line_end b = nat_eq b 10

-- no byte of a line is a line end
abbrev pub IsLine : List ℕ → Type 0
IsLine line = IsTrue (list_all (λ b. not (is_line_end b)) line)

-- three lines, each with its line end
abbrev pub three_lines : List ℕ → List ℕ → List ℕ → List ℕ
three_lines a b c = a ++ 10 ∷ [] ++ b ++ 10 ∷ [] ++ c ++ 10 ∷ []
