-- Every report that the check accepts is true, whoever wrote it.
use Rattle.std.proofs.Common.{◌≡◌, ℕ, zero, suc, Bool, true, false, ◌==◌, List, [], ◌∷◌, ◌++◌, length, refl, sym, ap, ◌∙◌, subst, arith}
use Rattle.std.specs.Prelude.{IsTrue}
use Rattle.std.specs.List.{flat_map}
use Rattle.rp_geometry.specs.parts.Parts.{IsCheckedPart}
use Rattle.rp_language.specs.Name.{label_eq}
use Rattle.rp_language.specs.Grammar.{Version, one, two}
use Rattle.rp_semantics.specs.Walk.{Outcome, done, stopped}
use Rattle.rp_model.specs.states.State.{State, sets_only, opening}
use Rattle.rp_reports.specs.Check.{Trail, Progress, follow_answer, Finding, all_accepted, wrong_at, is_at_end, find_wrong, first_line_number, finding_by, finding, is_accepting}
use Rattle.rp_reports.specs.Report.{report_mark, version_by, body_of, marked}
use Rattle.rp_reports.specs.TrueReport.{ToldAnswer, told_lines, after_told, AreTrueAnswers}
use Rattle.rp_reports.specs.laws.CheckLaws.{FollowedRowTellsTruth, AcceptedIsTrue}
use Rattle.rp_states.proofs.Computed.{opening_sound_with}
use Rattle.rp_states.proofs.Labels.{label_is}
use Rattle.rp_correctness.proofs.Rows.{followed_row_tells_truth_spec}
use Rattle.rp_correctness.proofs.Followed.{Reaches}
use Rattle.rp_correctness.proofs.Answered.{Agrees, TellsNext, answer_told}

-- the lines are those of true answers from a state on, whose numbers rise from the last one
abbrev TellsTrue : Version → ℕ → State → List (List ℕ) → Type 0
TellsTrue v last s lines = (told : List ToldAnswer) × (lines ≡ flat_map told_lines told) × AreTrueAnswers v last (sets_only s) told

-- where no line is left, there is no answer
at_end : (v : Version) (last : ℕ) (s : State) (lines : List (List ℕ)) → (length lines == 0) ≡ true → TellsTrue v last s lines
at_end v last s [] e = ([], refl, tt)
at_end v last s (line ∷ lines) e = absurd (not_zero (length lines) e)
  where
    not_zero : (n : ℕ) → (suc n == 0) ≡ true → ⊥
    not_zero n f = grind arith

-- an answer and the answers behind it
one_more : (v : Version) (last : ℕ) (s : State) (t : Trail) (q : Progress) (u : Trail) → (h : TellsNext v last s t q u) → TellsTrue v q.last h.after u.lines → TellsTrue v last s t.lines
one_more v last s t q u h further = (
  h.told ∷ further.0,
  h.lines ∙ ap (λ (ls : List (List ℕ)). told_lines h.told ++ ls) further.1,
  (h.next, h.is_true, subst (λ (n : ℕ). AreTrueAnswers v n (after_told v (sets_only s) h.told) further.0) (sym h.number) (subst (λ (after : State). AreTrueAnswers v q.last after further.0) h.same further.2)),
)

module _ (v : Version) (truth : FollowedRowTellsTruth) where
  -- all answers that are accepted are true
  answers_go : (room : ℕ) (s : State) (q : Progress) → Agrees s q → (t : Trail) → IsTrue (is_accepting (find_wrong v room q t)) → TellsTrue v q.last s t.lines
  answers_go zero s q agrees t h = by (is_at_end t) refl h
    where
      by : (b : Bool) → is_at_end t ≡ b → IsTrue (is_accepting (elim b as (λ _. Finding) [ true ↦ all_accepted | false ↦ wrong_at t.number ])) → TellsTrue v q.last s t.lines
      by true e k = at_end v q.last s t.lines e
      by false e k = absurd (cc)
  answers_go (suc room) s q agrees t h = by (λ further u told k. answers_go room told.after further told.agrees u k) (is_at_end t) refl h
    where
      outcome : ((further : Progress) (u : Trail) (told : TellsNext v q.last s t further u) → IsTrue (is_accepting (find_wrong v room further u)) → TellsTrue v further.last told.after u.lines)
          → (o : Outcome Trail Progress) → Reaches o (TellsNext v q.last s t) → IsTrue (is_accepting (elim o as (λ _. Finding) [ done further rest ↦ find_wrong v room further rest | stopped e rest ↦ wrong_at rest.number ])) → TellsTrue v q.last s t.lines
      outcome next (done further u) told k = one_more v q.last s t further u told (next further u told k)
      outcome next (stopped e u) told k = absurd (cc)

      by : ((further : Progress) (u : Trail) (told : TellsNext v q.last s t further u) → IsTrue (is_accepting (find_wrong v room further u)) → TellsTrue v further.last told.after u.lines)
          → (b : Bool) → is_at_end t ≡ b → IsTrue (is_accepting (elim b as (λ _. Finding) [ true ↦ all_accepted | false ↦ elim (follow_answer v q t) as (λ _. Finding) [ done further rest ↦ find_wrong v room further rest | stopped e rest ↦ wrong_at rest.number ] ])) → TellsTrue v q.last s t.lines
      by next true e k = at_end v q.last s t.lines e
      by next false e k = outcome next (follow_answer v q t) (answer_told v truth s q agrees t) k

-- nothing is kept yet
pub opening_agrees : Agrees opening (record { last = 0; state = opening })
opening_agrees = record {
  sound = opening_sound_with IsCheckedPart;
  late = record { births = tt; ends = tt };
  plain = refl;
}

-- lines are those behind the mark of their version, behind the mark
marked_again : (lines : List (List ℕ)) → lines ≡ marked report_mark (version_by report_mark lines) (body_of (version_by report_mark lines) lines)
marked_again [] = refl
marked_again (line ∷ lines) = by (label_eq line report_mark) refl
  where
    by : (b : Bool) → label_eq line report_mark ≡ b → line ∷ lines ≡ marked report_mark (elim b as (λ _. Version) [ true ↦ two | false ↦ one ]) (body_of (elim b as (λ _. Version) [ true ↦ two | false ↦ one ]) (line ∷ lines))
    by false e = refl
    by true e = ap (λ (l : List ℕ). l ∷ lines) (label_is line report_mark e)

-- what is accepted by a version
accepted_by : FollowedRowTellsTruth → (v : Version) (lines : List (List ℕ)) → IsTrue (is_accepting (finding_by v lines)) → TellsTrue v 0 opening (body_of v lines)
accepted_by truth v lines h = answers_go v truth (length lines) opening (record { last = 0; state = opening }) opening_agrees (record { lines = body_of v lines; number = first_line_number v; tests = 0 }) h

-- what is accepted is true, where followed rows tell the truth
pub accepted_is_true_from : FollowedRowTellsTruth → AcceptedIsTrue
unfolding finding
accepted_is_true_from truth lines h =
    let v = version_by report_mark lines in
    let found = accepted_by truth v lines h in
    (found.0, marked_again lines ∙ ap (marked report_mark v) found.1, found.2)

-- what is accepted is true
pub accepted_is_true_spec : AcceptedIsTrue
accepted_is_true_spec = accepted_is_true_from followed_row_tells_truth_spec
