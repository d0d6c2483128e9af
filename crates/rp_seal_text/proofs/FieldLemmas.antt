-- Lines with a name and a number.
use Rattle.std.proofs.Common.{◌≡◌, ℕ, ◌<◌, ◌^◌, List, [], ◌∷◌, ◌++◌, decimal, append_assoc, arith, ap, ◌∙◌}
use Rattle.rp_seal_text.specs.Lines.{IsLine}
use Rattle.rp_seal_text.specs.Fields.{number_line}
use Rattle.rp_seal_text.proofs.LineLemmas.{line-append, line-cons}
use Rattle.rp_seal_text.proofs.SpelledLines.{size_line}

-- a name, a space and a number in decimal are a line
pub named_number_line : (name : List ℕ) (n : ℕ) → IsLine name → n < 2 ^ 64 → IsLine (name ++ 32 ∷ decimal n)
named_number_line name n line fits =
    line-append name (32 ∷ decimal n) line (line-cons 32 (decimal n) (λ e. absurd (omega (arith, e))) (size_line n fits))

-- a line with a name and a number, and more text, is the line, its line end and the text
pub number_line-then : (name : List ℕ) (n : ℕ) (rest : List ℕ) → number_line name n ++ rest ≡ (name ++ 32 ∷ decimal n) ++ 10 ∷ rest
number_line-then name n rest = append_assoc (name ++ 32 ∷ decimal n) (10 ∷ []) rest

-- three texts in a row and a fourth one are the first text and what follows it
pub three_texts : (x y z rest : List ℕ) → (x ++ (y ++ z)) ++ rest ≡ x ++ (y ++ (z ++ rest))
three_texts x y z rest = append_assoc x (y ++ z) rest ∙ ap (λ v. x ++ v) (append_assoc y z rest)
