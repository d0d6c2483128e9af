-- The text of an answer with no verdicts, and of no proof lines.
use Rattle.std.proofs.Common.{◌≡◌, ℕ, suc, Bool, true, eqb, List, [], ◌∷◌, length, map, refl, arith}
use Rattle.std.proofs.lemmas.Bool.Decides.{nat_tests}
use Rattle.rp_reports.specs.Text.{proof_text, text_of_lines, answer_lines}
use Rattle.rp_cert.specs.declared.proof.Proof.{Proof}
use Rattle.rp_cert.specs.Lines.{line_of}
use Rattle.rp_answer.specs.declared.answer.Answer.{Answer}
use Rattle.rp_answer.specs.declared.answer.Verdict.{Verdict}
use Rattle.rp_answer.specs.Views.{answer_of, verdict_of}
use Rattle.rp_text.specs.LineTexts.{lines_text}

-- a list with a member is not empty
some_none : (n : ℕ) → eqb (suc n) 0 ≡ true → ⊥
some_none n e = let zero : suc n ≡ 0 = grind (arith, nat_tests) in omega (arith, zero)

-- no proof has no text
pub no_proofs : (ps : List Proof) → eqb (length ps) 0 ≡ true → lines_text (λ p. proof_text (line_of p)) ps ≡ []
no_proofs [] e = refl
no_proofs (p ∷ ps) e = absurd (some_none (length ps) e)

-- an answer without verdicts has no text
pub no_text : (a : Answer) (brief : Bool) → eqb (length a.verdicts.items) 0 ≡ true → text_of_lines (answer_lines brief (answer_of a)) ≡ []
no_text a brief e = none a.verdicts.items e
  where
    none : (vs : List Verdict) → eqb (length vs) 0 ≡ true → text_of_lines (answer_lines brief (record { number = a.n; echo = a.echo.items; proofs = map line_of a.proofs.items; verdicts = map verdict_of vs })) ≡ []
    none [] e = refl
    none (v ∷ vs) e = absurd (some_none (length vs) e)
