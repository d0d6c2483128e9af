-- What is left of a walk over whole answers while it is followed step by step.
use Rattle.std.proofs.Common.{◌≡◌, ℕ, ◌+◌, ◌<◌, ◌≤◌, List, ◌∷◌, map, length, drop, get_or, refl, ap, subst}
use Rattle.std.proofs.lemmas.List.{drop_all}
use Rattle.rp_algebra.proofs.Lists.{drop_item}
use Rattle.rp_semantics.specs.Walk.{Outcome, done, Walk, after_first}
use Rattle.rp_reports.specs.Check.{Trail, follow_line, follow_lines}
use Rattle.rp_reports.specs.Text.{verdict_text}
use Rattle.rp_answer.specs.Views.{verdict_of}
use Rattle.rp_answer.specs.declared.answer.Verdict.{Verdict as CodeVerdict}
use Rattle.rp_oracle.proofs.Left.{IsLeft, left_as, next_left, end_left}
use Rattle.rp_checker.specs.declared.halt.Halt.{Halt}
use Rattle.rp_checker.specs.declared.halt.Halt.TheVariants.{Wrong, Memory}
use Rattle.rp_checker.specs.Answers.{HaltsBy}

-- where the first walk halts, so do both
pub halts_on : {A B : Type 0} (next : B → Walk Trail A) (e : Halt) (o : Outcome Trail B) → HaltsBy e o → HaltsBy e (after_first next o)
halts_on next (Wrong n) o h = record { at = h.at; stops = ap (after_first next) h.stops; number = h.number }
halts_on next (Memory e) o h = tt

-- ---- the lines of verdicts, one by one

-- the lines of verdicts
abbrev lines_of : List CodeVerdict → List (List ℕ)
lines_of vs = map verdict_text (map verdict_of vs)

module _ (vs : List CodeVerdict) (i : ℕ) (v : CodeVerdict) (h : i < length vs) (e : v ≡ get_or vs i v) where
  -- the line of the next verdict and those behind it
  next_verdict : follow_lines (lines_of (drop i vs)) ≡ follow_lines (lines_of (v ∷ drop (i + 1) vs))
  next_verdict = ap (λ rest. follow_lines (lines_of rest)) (drop_item vs i v h e)

  -- it was taken: those behind it are left
  pub verdict_taken : {start now new : Trail} {whole : Walk Trail (Unit {0})} → IsLeft start whole now (follow_lines (lines_of (drop i vs))) → (want : List ℕ) → want ≡ verdict_text (verdict_of v) → follow_line want now.lines now ≡ done tt new → IsLeft start whole new (follow_lines (lines_of (drop (i + 1) vs)))
  verdict_taken {now = now} {new = new} l want same m =
      next_left (λ t. follow_line (verdict_text (verdict_of v)) t.lines t) (λ _. follow_lines (lines_of (drop (i + 1) vs))) (left_as next_verdict l) (subst (λ w. follow_line w now.lines now ≡ done tt new) same m)

  -- it is wrong: so are all
  pub verdict_halts : {start now : Trail} {whole : Walk Trail (Unit {0})} → IsLeft start whole now (follow_lines (lines_of (drop i vs))) → (want : List ℕ) → want ≡ verdict_text (verdict_of v) → (x : Halt) → HaltsBy x (follow_line want now.lines now) → HaltsBy x (whole start)
  verdict_halts {now = now} l want same x m =
      subst (λ o. HaltsBy x o) (left_as next_verdict l).same (halts_on (λ _. follow_lines (lines_of (drop (i + 1) vs))) x (follow_line (verdict_text (verdict_of v)) now.lines now) (subst (λ w. HaltsBy x (follow_line w now.lines now)) same m))

-- all were taken
pub verdicts_end : (vs : List CodeVerdict) (i : ℕ) {start now : Trail} {whole : Walk Trail (Unit {0})} → length vs ≤ i → IsLeft start whole now (follow_lines (lines_of (drop i vs))) → whole start ≡ done tt now
verdicts_end vs i {now = now} past l = end_left (done tt now) (left_as (ap (λ rest. follow_lines (lines_of rest)) (drop_all i vs past)) l) refl
