-- Which report lines of an answer are refusals.
use Rattle.std.proofs.Common.{◌≡◌, ℕ, Bool, true, false, ◌||◌, List, [], ◌∷◌, ◌++◌, map, refl, sym, ap, ◌∙◌}
use Rattle.std.proofs.Math.Bool.{or_assoc}
use Rattle.std.specs.List.{list_any}
use Rattle.rp_reports.specs.Output.{is_refused_line}
use Rattle.rp_geometry.specs.searches.ProofLine.{ProofLine, in_line, out_line, at_line, apart_line, drop_line, box_line}
use Rattle.rp_reports.specs.Text.{lines_with, echo_text, proof_text, proof_texts, verdict_text, Answer}
use Rattle.rp_answer.specs.Views.{verdict_of}
use Rattle.rp_answer.specs.declared.answer.Verdict.{Verdict}

-- whether the verdict refuses its line
abbrev pub refuses : Verdict → Bool
refuses v = is_refused_line (verdict_text (verdict_of v))

-- no echo is a refusal
pub is_refused_line-echo : (n : ℕ) (echo : List ℕ) → is_refused_line (echo_text n echo) ≡ false
is_refused_line-echo n [] = refl
is_refused_line-echo n (b ∷ bs) = refl

-- no proof line is a refusal
pub is_refused_line-proof : (l : ProofLine) → is_refused_line (proof_text l) ≡ false
is_refused_line-proof (in_line points) = refl
is_refused_line-proof (out_line terms) = refl
is_refused_line-proof (at_line p) = refl
is_refused_line-proof (apart_line terms) = refl
is_refused_line-proof (drop_line h terms) = refl
is_refused_line-proof (box_line b) = refl

-- so none of several is, if they are told at all
list_any-proofs : (brief : Bool) (ls : List ProofLine) → list_any is_refused_line (proof_texts brief ls) ≡ false
list_any-proofs true ls = refl
list_any-proofs false [] = refl
list_any-proofs false (l ∷ ls) = rw (is_refused_line-proof l) (list_any-proofs false ls)

-- one of the lines of two lists passes the test where one of either does
pub list_any-append : (test : List ℕ → Bool) (xs ys : List (List ℕ)) → list_any test (xs ++ ys) ≡ (list_any test xs || list_any test ys)
list_any-append test [] ys = refl
list_any-append test (x ∷ xs) ys = ap (λ b. test x || b) (list_any-append test xs ys) ∙ sym (or_assoc (test x) (list_any test xs) (list_any test ys))

-- the lines of verdicts have a refusal where one of the verdicts is one
list_any-verdicts : (vs : List Verdict) → list_any is_refused_line (map verdict_text (map verdict_of vs)) ≡ list_any refuses vs
list_any-verdicts [] = refl
list_any-verdicts (v ∷ vs) = ap (λ b. refuses v || b) (list_any-verdicts vs)

-- the lines of an answer have a refusal where one of its verdicts is one
pub list_any-lines : (brief : Bool) (a : Answer) (vs : List Verdict) → list_any is_refused_line (lines_with brief a (map verdict_of vs)) ≡ list_any refuses vs
list_any-lines brief a [] = refl
list_any-lines brief a (v ∷ vs) =
    rw (is_refused_line-echo a.number a.echo)
    (list_any-append is_refused_line (proof_texts brief a.proofs) (map verdict_text (map verdict_of (v ∷ vs)))
    ∙ ap (λ b. b || list_any is_refused_line (map verdict_text (map verdict_of (v ∷ vs)))) (list_any-proofs brief a.proofs) ∙ list_any-verdicts (v ∷ vs))
