-- The verdict lines of parts and of pieces.
use Rattle.std.proofs.Common.{◌≡◌, ℕ, ◌≤◌, w32, rules, List, [], ◌∷◌, ◌++◌, suc, length, map, refl, ap}
use mir.Val.{Fits}
use Rattle.rp_geometry.specs.parts.Parts.{most_parts}
use Rattle.rp_geometry.specs.sets.Shape.{Part}
use Rattle.rp_model.specs.commands.Verdict.{Verdict, part_lines_of, piece_lines}
use Rattle.rp_lists.specs.Listed.{Listed}
use Rattle.rp_unionfind.specs.Lists.{lists_of}
use Rattle.rp_answer.specs.declared.answer.Verdict.{Verdict as CodeVerdict}
use Rattle.rp_answer.specs.Views.{verdict_of}

-- so many parts fit into the word that tells their number
pub few_fit : (n : ℕ) → n ≤ most_parts → Fits w32 n
few_fit n few = search rules

-- a line behind others
pub line_told : (vs : List CodeVerdict) (v : CodeVerdict) (rest : List Verdict) → map verdict_of (vs ++ v ∷ []) ++ rest ≡ map verdict_of vs ++ verdict_of v ∷ rest
line_told [] v rest = refl
line_told (x ∷ vs) v rest = ap (λ ls. verdict_of x ∷ ls) (line_told vs v rest)

-- the verdict lines of parts, which the code has in its own words
pub lines_of_parts : {X : Type 0} (seen : X → Part) (xs : List X) → (Verdict.parts (length xs) ∷ map (λ (x : X). Verdict.part (seen x).cell) xs) ≡ part_lines_of (map seen xs)
lines_of_parts {X = X} seen xs = λ i. Verdict.parts (same_length xs i) ∷ same_lines xs i
  where
    same_length : (xs : List X) → length xs ≡ length (map seen xs)
    same_length [] = refl
    same_length (x ∷ xs) = ap suc (same_length xs)

    same_lines : (xs : List X) → map (λ (x : X). Verdict.part (seen x).cell) xs ≡ map (λ (p : Part). Verdict.part p.cell) (map seen xs)
    same_lines [] = refl
    same_lines (x ∷ xs) = ap (λ vs. Verdict.part (seen x).cell ∷ vs) (same_lines xs)

-- the verdict lines of pieces, whose numbers are kept as lists of the code
pub lines_of_pieces : (lists : List (Listed ℕ)) → (Verdict.pieces (length lists) ∷ map (λ (ns : Listed ℕ). Verdict.piece ns.items) lists) ≡ piece_lines (lists_of lists)
lines_of_pieces lists = λ i. Verdict.pieces (same_length lists i) ∷ same_lines lists i
  where
    same_length : (lists : List (Listed ℕ)) → length lists ≡ length (lists_of lists)
    same_length [] = refl
    same_length (ns ∷ lists) = ap suc (same_length lists)

    same_lines : (lists : List (Listed ℕ)) → map (λ (ns : Listed ℕ). Verdict.piece ns.items) lists ≡ map Verdict.piece (lists_of lists)
    same_lines [] = refl
    same_lines (ns ∷ lists) = ap (λ vs. Verdict.piece ns.items ∷ vs) (same_lines lists)
