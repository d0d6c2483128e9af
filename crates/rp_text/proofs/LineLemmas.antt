-- The text of an answer, line by line.
use Rattle.std.proofs.Common.{◌≡◌, ℕ, Bool, false, eqb, List, [], ◌∷◌, ◌++◌, length, map, refl, sym, ap, ◌∙◌, append_assoc, append-nil}
use Rattle.std.proofs.lemmas.List.Concat.{flat_map-append}
use Rattle.rp_language.specs.Grammar.{space, spaced}
use Rattle.rp_geometry.specs.searches.ProofLine.{ProofLine}
use Rattle.rp_reports.specs.Text.{verdict_text, proof_text, proof_texts, echo_text, items_text, line_end, text_of_lines, answer_lines}
use Rattle.rp_cert.specs.declared.proof.Proof.{Proof}
use Rattle.rp_cert.specs.Lines.{line_of}
use Rattle.rp_answer.specs.declared.answer.Answer.{Answer}
use Rattle.rp_answer.specs.declared.answer.Verdict.{Verdict}
use Rattle.rp_text.specs.LineTexts.{lines_text}
use Rattle.rp_answer.specs.Views.{answer_of, verdict_of}

-- a number and others behind spaces are numbers with one space between each two
pub spaced_text : {X : Type 0} (text : X → List ℕ) (first : List ℕ) (xs : List X) → first ++ items_text text xs ≡ spaced (first ∷ map text xs)
spaced_text text first [] = append-nil first
spaced_text text first (x ∷ xs) = ap (λ rest. first ++ space ∷ rest) (spaced_text text (text x) xs)

-- the texts of lines, each with its line end
lines_of : {X Y : Type 0} (view : X → Y) (text : Y → List ℕ) (xs : List X) → lines_text (λ x. text (view x)) xs ≡ text_of_lines (map text (map view xs))
lines_of view text [] = refl
lines_of view text (x ∷ xs) = ap (λ rest. (text (view x) ++ line_end ∷ []) ++ rest) (lines_of view text xs)

-- the text of proof lines
pub proofs_text : (ps : List Proof) → lines_text (λ p. proof_text (line_of p)) ps ≡ text_of_lines (map proof_text (map line_of ps))
proofs_text ps = lines_of line_of proof_text ps

-- the text of verdict lines
abbrev pub verdicts_text : List Verdict → List ℕ
verdicts_text vs = lines_text (λ v. verdict_text (verdict_of v)) vs

-- the text of an answer with verdicts: the echo, then the proof lines that are told, then the verdict lines
answer_text : (brief : Bool) (n : ℕ) (echo : List ℕ) (ps : List ProofLine) (vs : List Verdict) → eqb (length vs) 0 ≡ false
    → (echo_text n echo ++ line_end ∷ []) ++ text_of_lines (proof_texts brief ps) ++ verdicts_text vs ≡ text_of_lines (answer_lines brief (record { number = n; echo = echo; proofs = ps; verdicts = map verdict_of vs }))
answer_text brief n echo ps [] e = cc
answer_text brief n echo ps (v ∷ vs) e =
    append_assoc (echo_text n echo ++ line_end ∷ []) (text_of_lines (proof_texts brief ps)) (verdicts_text (v ∷ vs))
    ∙ ap (λ rest. (echo_text n echo ++ line_end ∷ []) ++ rest)
    (ap (λ rest. text_of_lines (proof_texts brief ps) ++ rest) (lines_of verdict_of verdict_text (v ∷ vs)) ∙ sym (flat_map-append (λ line. line ++ line_end ∷ []) (proof_texts brief ps) (map verdict_text (map verdict_of (v ∷ vs)))))

-- there are verdicts where the test of what was read says so
pub has_verdicts : (a : Answer) (verdicts : List Verdict) (empty : Bool) → verdicts ≡ a.verdicts.items → empty ≡ eqb (length verdicts) 0 → empty ≡ false → eqb (length a.verdicts.items) 0 ≡ false
has_verdicts a verdicts empty v e f = ap (λ (vs : List Verdict). eqb (length vs) 0) (sym v) ∙ sym e ∙ f

-- the three parts of the text, as they are put, are the text of the answer
pub whole_text : (a : Answer) (brief : Bool) (echo proofs : List ℕ) (verdicts : List Verdict) → echo ≡ a.echo.items → proofs ≡ text_of_lines (proof_texts brief (answer_of a).proofs) → verdicts ≡ a.verdicts.items → eqb (length a.verdicts.items) 0 ≡ false
    → (echo_text a.n echo ++ line_end ∷ []) ++ proofs ++ verdicts_text verdicts ≡ text_of_lines (answer_lines brief (answer_of a))
whole_text a brief echo proofs verdicts e p v some =
    (λ i. (echo_text a.n (e i) ++ line_end ∷ []) ++ p i ++ verdicts_text (v i)) ∙ answer_text brief a.n a.echo.items (map line_of a.proofs.items) a.verdicts.items some
