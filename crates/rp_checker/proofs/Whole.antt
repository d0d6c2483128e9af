-- Whole reports: what is found from now on is what is found at all.
use Rattle.std.proofs.Common.{◌≡◌, ℕ, zero, suc, ◌+◌, ◌<◌, ◌≤◌, Bool, true, false, ◌==◌, List, [], ◌∷◌, length, Option, Some, None, refl, sym, ap, ◌∙◌, subst, arith, add-one}
use Rattle.std.specs.Prelude.{is_some, option_map}
use denote.Ref.{Bor}
use Rattle.rp_language.specs.Grammar.{Version, one, two}
use Rattle.rp_semantics.specs.Walk.{Outcome, done}
use Rattle.rp_model.specs.states.State.{State, PlainState, opening, state_of_parts}
use Rattle.rp_model.specs.states.Sound.{IsLaterThan}
use Rattle.rp_reports.specs.Check.{Trail, Progress, follow_answer, Finding, all_accepted, wrong_at, find_wrong, first_line_number, finding_by, finding, is_accepting}
use Rattle.rp_reports.specs.Output.{most_script_bytes, report_lines}
use Rattle.rp_reports.specs.Report.{IsReport, report_mark, version_by, body_of}
use Rattle.rp_reports.specs.Text.{text_of_lines}
use Rattle.rp_reports.specs.laws.CheckLaws.{WrittenReportIsAccepted}
use Rattle.rp_correctness.proofs.Rows.{followed_row_tells_truth_spec}
use Rattle.rp_checker_completeness.proofs.FirstWrong.{finds_first_wrong_spec}
use Rattle.rp_checker_completeness.proofs.GoneWrong.{found_after, find_next, DonePast, answer_past}
use Rattle.rp_checker_completeness.proofs.ReportTaken.{body_few}
use Rattle.rp_correctness.proofs.Accepted.{accepted_is_true_spec, opening_agrees}
use Rattle.rp_correctness.proofs.Answered.{Agrees, TellsNext, answer_told}
use Rattle.rp_correctness.proofs.Followed.{Reaches}
use Rattle.rp_trail.specs.Lines.{next_line}
use Rattle.rp_checker.specs.Answers.{IsWrongAt}
use Rattle.rp_checker.specs.Found.{found_of, TellsRight}
use Rattle.rp_checker.specs.Marks.{behind_mark}
use Rattle.rp_checker.specs.declared.report.Found.{Found}
use Rattle.rp_checker.specs.declared.report.Found.TheVariants.{Accepted, Wrong}
use Rattle.rp_register_state.proofs.States.{later_by_parts}

-- the number of the last answer, and what is kept after it
abbrev pub progress : ℕ → PlainState → Progress
progress last p = record { last = last; state = p }

-- from here on the same is found as from the first line, and what is kept are the parts of the sets of a sound state
pub record IsGoing (lines : List (List ℕ)) (v : Version) (last : ℕ) (p : PlainState) (t : Trail) : Type 0 where
  pub room : ℕ
  pub enough : length t.lines ≤ room
  pub finds : find_wrong v room (progress last p) t ≡ finding lines
  pub sets : State
  pub agrees : Agrees sets (progress last p)

-- behind the mark of a version
marked_trail : (v : Version) (lines : List (List ℕ)) → behind_mark v (record { lines = lines; number = 1; tests = 0 }) ≡ record { lines = body_of v lines; number = first_line_number v; tests = 0 }
marked_trail one lines = refl
marked_trail two lines = refl

-- at the first line of an answer, by the version that the first line of the report tells
pub begins : (lines : List (List ℕ)) (v : Version) (start t : Trail) → start ≡ record { lines = lines; number = 1; tests = 0 } → v ≡ version_by report_mark start.lines → t ≡ behind_mark v start → IsGoing lines v 0 opening t
unfolding finding
begins lines v start t first told behind =
    subst (IsGoing lines v 0 opening) (sym (behind ∙ ap (behind_mark v) first ∙ marked_trail v lines))
    (record {
      room = length lines;
      enough = body_few v lines;
      finds = ap (λ (w : Version). finding_by w lines) (told ∙ ap (λ (s : Trail). version_by report_mark s.lines) first);
      sets = opening;
      agrees = opening_agrees;
    })

-- the next number is above all births and ends
pub going_late : (lines : List (List ℕ)) (v : Version) (last : ℕ) (p : PlainState) (t : Trail) → IsGoing lines v last p t → IsLaterThan (last + 1) (state_of_parts p)
going_late lines v last p t g = subst (λ (n : ℕ). IsLaterThan n (state_of_parts p)) (sym (add-one last)) (later_by_parts (suc last) g.sets p g.agrees.late g.agrees.plain)

-- the room that is needed while a line is left
needs_room : (room n : ℕ) → suc n ≤ room → (k : ℕ) × (room ≡ suc k) × (n ≤ k)
needs_room zero n h = absurd (omega (arith, h))
needs_room (suc k) n h = (k, refl, omega (arith, h))

-- where a line is left, what is found is found behind the next answer
found_behind : (lines : List (List ℕ)) (v : Version) (last : ℕ) (p : PlainState) (t : Trail) (line : List ℕ) (rest : List (List ℕ)) → t.lines ≡ line ∷ rest → IsGoing lines v last p t
    → (k : ℕ) × (length rest ≤ k) × (found_after v k (follow_answer v (progress last p) t) ≡ finding lines)
found_behind lines v last p t line rest e g =
    let r = needs_room g.room (length rest) (subst (λ (ls : List (List ℕ)). length ls ≤ g.room) e g.enough) in (
      r.0,
      r.2,
      sym (find_next v r.0 (progress last p) t line rest e) ∙ ap (λ (n : ℕ). find_wrong v n (progress last p) t) (sym r.1) ∙ g.finds,
    )

-- the sets behind an answer
sets_behind : (v : Version) (s : State) (q r : Progress) (t u : Trail) → Agrees s q → follow_answer v q t ≡ done r u → (a : State) × Agrees a r
sets_behind v s q r t u agrees e = by (subst (λ (o : Outcome Trail Progress). Reaches o (TellsNext v q.last s t)) e (answer_told v followed_row_tells_truth_spec s q agrees t))
  where
    by : TellsNext v q.last s t r u → (a : State) × Agrees a r
    by h = (h.after, h.agrees)

-- a line is taken at least
takes_line : (number left rest n : ℕ) → number + 1 ≤ n → n + left ≡ (number + 1) + rest → left ≤ rest
takes_line number left rest n h e = omega (arith, h, e)

-- behind an answer it goes on, with fewer lines
goes_from : (lines : List (List ℕ)) (v : Version) (last next : ℕ) (p after : PlainState) (t u : Trail) (line : List ℕ) (rest : List (List ℕ)) → t.lines ≡ line ∷ rest → IsGoing lines v last p t → follow_answer v (progress last p) t ≡ done (progress next after) u
    → IsGoing lines v next after u × (length u.lines < length t.lines)
goes_from lines v last next p after t u line rest e g a =
    let b = found_behind lines v last p t line rest e g in
    let past = subst (λ (o : Outcome Trail Progress). DonePast (t.number + 1) rest o) a (answer_past v (progress last p) t line rest e) in
    let fewer : length u.lines ≤ length rest = takes_line t.number (length u.lines) (length rest) u.number past.reached past.left in
    let behind = sets_behind v g.sets (progress last p) (progress next after) t u g.agrees a in (
      record {
        room = b.0;
        enough = omega (arith, fewer, b.1);
        finds = sym (ap (found_after v b.0) a) ∙ b.2;
        sets = behind.0;
        agrees = behind.1;
      },
      subst (λ (ls : List (List ℕ)). length u.lines < length ls) (sym e) (omega (arith, fewer)),
    )

-- a wrong line is what is found
wrong_from : (lines : List (List ℕ)) (v : Version) (last : ℕ) (p : PlainState) (t : Trail) (line : List ℕ) (rest : List (List ℕ)) (n : ℕ) → t.lines ≡ line ∷ rest → IsGoing lines v last p t → IsWrongAt n (follow_answer v (progress last p) t) → wrong_at n ≡ finding lines
wrong_from lines v last p t line rest n e g w =
    let b = found_behind lines v last p t line rest e g in
    ap wrong_at w.number ∙ sym (ap (found_after v b.0) w.stops) ∙ b.2

-- ---- by whether a line is left

-- whether a line is left, as it was seen
pub seen : (o : Option (Bor (List ℕ))) (lines : List (List ℕ)) (b v : Bool) → option_map (λ line. line.now) o ≡ next_line lines → b ≡ is_some o → b ≡ v → is_some (next_line lines) ≡ v
seen o lines b v e f g = sym (ap is_some e) ∙ same o ∙ sym f ∙ g
  where
    same : (o : Option (Bor (List ℕ))) → is_some (option_map (λ line. line.now) o) ≡ is_some o
    same None = refl
    same (Some line) = refl

-- a line is left
is_left : (lines : List (List ℕ)) → is_some (next_line lines) ≡ true → (line : List ℕ) × (rest : List (List ℕ)) × (lines ≡ line ∷ rest)
is_left [] h = absurd (cc)
is_left (line ∷ rest) h = (line, rest, refl)

-- behind an answer it goes on, with fewer lines
pub goes_on : (lines : List (List ℕ)) (v : Version) (last next : ℕ) (p after : PlainState) (t u : Trail) → is_some (next_line t.lines) ≡ true → IsGoing lines v last p t → follow_answer v (progress last p) t ≡ done (progress next after) u
    → IsGoing lines v next after u × (length u.lines < length t.lines)
goes_on lines v last next p after t u h g a = let l = is_left t.lines h in goes_from lines v last next p after t u l.0 l.1 l.2 g a

-- a wrong line is what is found
pub goes_wrong : (lines : List (List ℕ)) (v : Version) (last : ℕ) (p : PlainState) (t : Trail) (n : ℕ) → is_some (next_line t.lines) ≡ true → IsGoing lines v last p t → IsWrongAt n (follow_answer v (progress last p) t) → wrong_at n ≡ finding lines
goes_wrong lines v last p t n h g w = let l = is_left t.lines h in wrong_from lines v last p t l.0 l.1 n l.2 g w

-- at the end all was accepted
pub ends : (lines : List (List ℕ)) (v : Version) (last : ℕ) (p : PlainState) (t : Trail) → is_some (next_line t.lines) ≡ false → IsGoing lines v last p t → all_accepted ≡ finding lines
ends lines v last p t h g = by t.lines refl h
  where
    at_end : (room : ℕ) → t.lines ≡ [] → find_wrong v room (progress last p) t ≡ all_accepted
    at_end zero e = ap (λ (b : Bool). elim b as (λ _. Finding) [ true ↦ all_accepted | false ↦ wrong_at t.number ]) (ap (λ (ls : List (List ℕ)). length ls == 0) e)
    at_end (suc k) e = ap (λ (b : Bool). elim b as (λ _. Finding) [ true ↦ all_accepted | false ↦ found_after v k (follow_answer v (progress last p) t) ]) (ap (λ (ls : List (List ℕ)). length ls == 0) e)

    by : (ls : List (List ℕ)) → t.lines ≡ ls → is_some (next_line ls) ≡ false → all_accepted ≡ finding lines
    by [] e f = sym (at_end g.room e) ∙ g.finds
    by (line ∷ rest) e f = absurd (cc)

-- ---- what the finding says

-- what is found is right
pub found_right : (f : Found) (lines : List (List ℕ)) → found_of f ≡ finding lines → TellsRight f lines
found_right Accepted lines e = accepted_is_true_spec lines (sym (ap is_accepting e))
found_right (Wrong n) lines e = finds_first_wrong_spec lines n (sym e)

-- what accepts is accepted
accepted_found : (f : Found) → is_accepting (found_of f) ≡ true → f ≡ Accepted
accepted_found Accepted e = refl
accepted_found (Wrong n) e = absurd (cc)

-- the report of a script is accepted
pub whole_accepted : WrittenReportIsAccepted → (f : Found) (bytes script : List ℕ) → length script ≤ most_script_bytes → (told : List (List ℕ)) → IsReport script told → bytes ≡ text_of_lines told → found_of f ≡ finding (report_lines bytes) → f ≡ Accepted
whole_accepted accepts f bytes script short told is_report same e =
    accepted_found f (ap is_accepting (e ∙ ap (λ (b : List ℕ). finding (report_lines b)) same) ∙ accepts script short told is_report)
