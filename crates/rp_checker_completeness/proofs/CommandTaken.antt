-- The check takes the program's answer to a command, and comes to the program's state.
use Rattle.std.proofs.Common.{◌≡◌, ℕ, Bool, true, false, ◌&&◌, ◌⊎◌, inl, inr, List, [], ◌∷◌, ◌++◌, map, refl, sym, ap, ◌∙◌, subst}
use Rattle.std.specs.List.{AllByRecursion}
use Rattle.rp_algebra.proofs.Tests.{and_fails}
use Rattle.rp_geometry.specs.Geometry.{IsKeptHalfSpace}
use Rattle.rp_geometry.specs.sections.Slice.{Slice}
use Rattle.rp_language.specs.Name.{Label}
use Rattle.rp_geometry.specs.laws.PartLaws.{SlimPartIsPart}
use Rattle.rp_semantics.specs.Walk.{Stop, limit_met, limit_told, line_wrong, taken_wrong, Outcome, done, stopped, after_first, Work, no_work, slices_found, first_tester}
use Rattle.rp_language.specs.Expression.{Command}
use Rattle.rp_model.specs.states.State.{PlainState, changed}
use Rattle.rp_model.specs.commands.Verdict.{Verdict, refused, limit, section_lines}
use Rattle.rp_model.specs.commands.Reply.{Reply, reply_lines}
use Rattle.rp_model.specs.commands.Rule.{walked, proofs_walked}
use Rattle.rp_reports.specs.Machine.{verdicts_walked, change_walked}
use Rattle.rp_reports.specs.Text.{verdict_text}
use Rattle.rp_reports.specs.Check.{Trail, tells_limit, limit_allowed, follow_limit, follow_reply, follow_command, line_tester}
use Rattle.rp_parametricity.proofs.Kept.{IsVerdictProper, IsTold, StateHas, CommandHas, ChangeHas}
use Rattle.rp_checker_completeness.proofs.Due.{Due, DueHas, replied, sliced, due_row, due_alike, finish, row_is_due, due_is_ready}
use Rattle.rp_checker_completeness.proofs.TakenParts.{trail, texts_before}
use Rattle.rp_checker_completeness.proofs.Taken.{Reaches, Goes, Follows, following, followed, audited}
use Rattle.rp_checker_completeness.proofs.Commands.{ready}
use Rattle.rp_checker_completeness.proofs.LimitAhead.{limit_line, AtLimit, row_at_limit}
use Rattle.rp_checker_completeness.proofs.ToldLines.{told_no_limit, lines_taken}
use Rattle.rp_checker_completeness.proofs.Shown.{reply_at, follow_due, command_is_due, section_reply, found_slices, shown_taken}

-- ---- the row follows

module _ (law : SlimPartIsPart) (N : Label → Type 0) where
  -- the row of a command, over the two testers
  pub row_follows : (s : PlainState) (c : Command) → StateHas IsKeptHalfSpace N s → CommandHas IsKeptHalfSpace N c → Follows (DueHas IsKeptHalfSpace N) (due_row first_tester s c) (due_row line_tester s c)
  unfolding following
  row_follows s c h k = due_alike following IsKeptHalfSpace N first_tester line_tester (followed law) audited s h c k

-- ---- a limit

-- the one line of a limit is taken, and leaves the state
pub limit_taken : (s : PlainState) (rest : List (List ℕ)) (n tests : ℕ) → (k : ℕ) × (follow_limit s (trail (limit_line ∷ rest) n tests) ≡ done s (trail rest k tests))
limit_taken s rest n tests = let l = lines_taken (limit_line ∷ []) rest n tests in (l.0, ap (after_first (λ _. λ t. done s t)) l.1)

-- whatever a walk comes to that has not gone wrong, a limit may be told
pub limit_accepted : (n : ℕ) (s : PlainState) (rest : List (List ℕ)) (allowed : Bool) → allowed ≡ true → (o : Outcome Trail Due) → AtLimit rest o
    → (k : ℕ) × (tests : ℕ) × (follow_due n s allowed o ≡ done s (trail rest k tests))
limit_accepted n s rest allowed a o l = by_outcome o l
  where
    end : (t : Trail) → t.lines ≡ limit_line ∷ rest → (k : ℕ) × (tests : ℕ) × (follow_limit s t ≡ done s (trail rest k tests))
    end t e = let f = limit_taken s rest t.number t.tests in (f.0, t.tests, ap (λ ls. follow_limit s (trail ls t.number t.tests)) e ∙ f.1)

    -- the answer, by what the row comes to
    by_outcome : (o : Outcome Trail Due) → AtLimit rest o → (k : ℕ) × (tests : ℕ) × (follow_due n s allowed o ≡ done s (trail rest k tests))
    by_outcome (done d t) l =
        let f = end t l.1 in
        (f.0, f.1, ap (λ (b : Bool). elim b as (λ _. Outcome Trail PlainState) [ true ↦ follow_limit s t | false ↦ follow_reply n s (reply_at d t) t ]) ((λ i. a i && tells_limit (l.1 i))) ∙ f.2)
    by_outcome (stopped line_wrong t) l = absurd l.0
    by_outcome (stopped taken_wrong t) l = absurd l.0
    by_outcome (stopped limit_met t) l = let f = end t l.1 in (f.0, f.1, ap (λ (b : Bool). elim b as (λ _. Outcome Trail PlainState) [ true ↦ follow_limit s t | false ↦ stopped line_wrong t ]) a ∙ f.2)
    by_outcome (stopped limit_told t) l = let f = end t l.1 in (f.0, f.1, ap (λ (b : Bool). elim b as (λ _. Outcome Trail PlainState) [ true ↦ follow_limit s t | false ↦ stopped line_wrong t ]) a ∙ f.2)

-- ---- verdict lines

-- the reply of the program: the slices are those that are found
abbrev pub reply_found : Due → Reply
reply_found (replied r) = r
reply_found (sliced z ps) = reply_lines (section_lines (found_slices z ps))

-- what the program's row comes to, with the slices that are found
abbrev pub found : Outcome Work Due → Outcome Work Reply
found (done d w) = done (reply_found d) w
found (stopped e w) = stopped e w

-- the program shows the slices so
found_is : (o : Outcome Work Due) → after_first (finish first_tester) o ≡ found o
unfolding slices_found
found_is (done (replied r) w) = refl
found_is (done (sliced z ps) w) = refl
found_is (stopped e w) = refl

-- the lines of slices are proper
pub slices_proper : (N : Label → Type 0) (slices : List Slice) → AllByRecursion (IsVerdictProper N) (map Verdict.slice slices)
slices_proper N [] = tt
slices_proper N (s ∷ slices) = (tt, slices_proper N slices)

-- the verdict lines of a reply are proper
told_of : (N : Label → Type 0) (d : Due) → DueHas IsKeptHalfSpace N d → IsTold N (reply_found d).verdicts
told_of N (replied r) h = h.0
told_of N (sliced z ps) h = (tt, slices_proper N (found_slices z ps))

-- what a reply changes has what all half-spaces and labels have
change_of_due : (N : Label → Type 0) (d : Due) → DueHas IsKeptHalfSpace N d → ChangeHas IsKeptHalfSpace N (reply_found d).change
change_of_due N (replied r) h = h.1
change_of_due N (sliced z ps) h = tt

-- the verdict lines of the program's reply, and then the state
lines_then : (n : ℕ) (s : PlainState) (d : Due) (rest : List (List ℕ)) (m tests : ℕ)
    → (k : ℕ) × (follow_reply n s (reply_at d (trail (map verdict_text (reply_found d).verdicts ++ rest) m tests)) (trail (map verdict_text (reply_found d).verdicts ++ rest) m tests) ≡ done (changed n s (reply_found d).change) (trail rest k tests))
lines_then n s (replied r) rest m tests = let l = lines_taken (map verdict_text r.verdicts) rest m tests in (l.0, ap (after_first (λ _. λ t. done (changed n s r.change) t)) l.1)
lines_then n s (sliced z ps) rest m tests =
    let l = shown_taken z ps rest m tests in
    (l.0, section_reply n s z ps (trail (map verdict_text (section_lines (found_slices z ps)) ++ rest) m tests) ∙ ap (after_first (λ _. λ t. done s t)) l.1)

-- the verdict lines of a reply are taken, and give the state after it
pub reply_taken : (N : Label → Type 0) (n : ℕ) (s : PlainState) (allowed : Bool) (d : Due) → DueHas IsKeptHalfSpace N d → (rest : List (List ℕ)) (m tests : ℕ)
    → (k : ℕ) × (follow_due n s allowed (done d (trail (map verdict_text (reply_found d).verdicts ++ rest) m tests)) ≡ done (changed n s (reply_found d).change) (trail rest k tests))
reply_taken N n s allowed d h rest m tests =
    let t : Trail = trail (map verdict_text (reply_found d).verdicts ++ rest) m tests in
    let l = lines_then n s d rest m tests in
    (l.0, ap (λ (b : Bool). elim b as (λ _. Outcome Trail PlainState) [ true ↦ follow_limit s t | false ↦ follow_reply n s (reply_at d t) t ]) (and_fails allowed _ (told_no_limit N (reply_found d).verdicts (told_of N d h) rest)) ∙ l.1)

-- ---- the answer to a command

-- what is said of a command that the program's walk ends so
pub record AnswerTaken (N : Label → Type 0) (n : ℕ) (s : PlainState) (c : Command) (o : Outcome Work Reply) (rest : List (List ℕ)) (m : ℕ) : Type 0 where
  pub after : ℕ
  pub tests : ℕ
  pub is : follow_command n s c (trail (texts_before (proofs_walked o) (map verdict_text (verdicts_walked o) ++ rest)) m 0) ≡ done (changed n s (change_walked o)) (trail rest after tests)
  pub some : IsTold N (verdicts_walked o) ⊎ (verdicts_walked o ≡ refused limit ∷ [])
  pub state : ChangeHas IsKeptHalfSpace N (change_walked o)

module _ (law : SlimPartIsPart) (N : Label → Type 0) (n : ℕ) (s : PlainState) (c : Command) (h : StateHas IsKeptHalfSpace N s) (k : CommandHas IsKeptHalfSpace N c) where
  -- a row that is stopped may tell of a limit
  stopped_allowed : (e : Stop) (w : Work) → due_row first_tester s c no_work ≡ stopped e w → limit_allowed s c ≡ true
  stopped_allowed e w is = by_test (limit_allowed s c) refl
    where
      apart : (d : Due) (v w : Work) (e : Stop) → ◌≡◌ {A = Outcome Work Due} (done d v) (stopped e w) → ⊥
      apart d v w e f = cc

      by_test : (b : Bool) → limit_allowed s c ≡ b → b ≡ true
      by_test true f = refl
      by_test false f = absurd (apart (replied (ready s c)) no_work w e (sym (due_is_ready first_tester s c f no_work) ∙ is))

  by_outcome : (o : Outcome Work Due) → due_row first_tester s c no_work ≡ o → Reaches o (Goes (DueHas IsKeptHalfSpace N) (due_row line_tester s c) no_work) → (rest : List (List ℕ)) (m : ℕ) → AnswerTaken N n s c (found o) rest m
  by_outcome (done d w) is g rest m =
      let lines : List (List ℕ) = map verdict_text (reply_found d).verdicts ++ rest in
      let a = g.goes lines m in
      let f = reply_taken N n s (limit_allowed s c) d g.fact rest a.0 w.tests in
      record {
        after = f.0;
        tests = w.tests;
        is = command_is_due n s c (trail (texts_before w.proofs lines) m 0)
            ∙ ap (λ ls. follow_due n s (limit_allowed s c) (due_row line_tester s c (trail (texts_before ls lines) m 0))) g.made
            ∙ ap (follow_due n s (limit_allowed s c)) a.1 ∙ f.1;
        some = inl (told_of N d g.fact);
        state = change_of_due N d g.fact;
      }
  by_outcome (stopped e w) is g rest m =
      let f = limit_accepted n s rest (limit_allowed s c) (stopped_allowed e w is) (due_row line_tester s c (trail (limit_line ∷ rest) m 0)) (row_at_limit s c rest (trail (limit_line ∷ rest) m 0) refl) in
      record { after = f.0; tests = f.1; is = command_is_due n s c (trail (limit_line ∷ rest) m 0) ∙ f.2; some = inr refl; state = tt }

  -- the check takes the program's answer
  pub command_taken : (rest : List (List ℕ)) (m : ℕ) → AnswerTaken N n s c (walked s c) rest m
  unfolding walked
  command_taken rest m =
      subst (λ o. AnswerTaken N n s c o rest m) (sym (row_is_due first_tester s c no_work ∙ found_is (due_row first_tester s c no_work)))
      (by_outcome (due_row first_tester s c no_work) refl (row_follows law N s c h k no_work) rest m)
