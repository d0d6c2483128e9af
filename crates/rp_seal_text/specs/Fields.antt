-- The fields of a text: lines with a name and a number, and texts of any bytes under a name.
use Rattle.std.specs.Prelude.{ℕ, List, [], ◌∷◌, ◌++◌, length, Option, Some, None, nat_eq, not, slice_index, IsTrue, codes, decimal}

-- a line with a name and a number in decimal
abbrev pub number_line : List ℕ → ℕ → List ℕ
number_line name n = name ++ 32 ∷ decimal n ++ 10 ∷ []

-- a text of any bytes: a line with its name and its length in bytes, the text, and a line end
abbrev pub text_field : List ℕ → List ℕ → List ℕ
text_field name text = number_line name (length text) ++ text ++ 10 ∷ []

-- the line "no NAME" if there is no text; otherwise the text
abbrev pub option_field : List ℕ → Option (List ℕ) → List ℕ
option_field name None = codes "no " ++ name ++ 10 ∷ []
option_field name (Some text) = text_field name text

-- a name does not begin with the letter n, so no text of this name begins with "no "
abbrev pub IsOptionName : List ℕ → Type 0
IsOptionName name = IsTrue (not (nat_eq (slice_index name 0) 110))
