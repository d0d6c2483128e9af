-- The report of a script, as it is computed from parts, is accepted.
use Rattle.std.proofs.Common.{◌≡◌, ℕ, zero, suc, ◌+◌, ◌<◌, ◌≤◌, Bool, true, false, ◌==◌, nat_lt, ◌⊎◌, ⊎_elim, List, [], ◌∷◌, ◌++◌, map, length, Option, Some, None, refl, sym, ap, ◌∙◌, subst, arith, length-append, append_assoc}
use Rattle.std.specs.Prelude.{IsTrue}
use Rattle.std.specs.List.{slice_split, onto_first}
use Rattle.std.proofs.lemmas.List.Splits.{slice_split-cons_yes, slice_split-cons_no}
use Rattle.rp_geometry.specs.Geometry.{IsKeptHalfSpace}
use Rattle.rp_geometry.specs.searches.ProofLine.{ProofLine}
use Rattle.rp_geometry.specs.laws.PartLaws.{SlimPartIsPart}
use Rattle.rp_geometry.specs.laws.PrismLaws.{TrapezoidIsKept}
use Rattle.std.proofs.lemmas.Slice.Eq.{bytes_eq-Decides}
use Rattle.rp_language.specs.Name.{Label, label_eq}
use Rattle.rp_language.specs.Laws.{ReadExpressionsAreKept}
use Rattle.rp_semantics.specs.Walk.{line_wrong, Outcome, done, stopped, after_first}
use Rattle.rp_language.specs.Expression.{Command, expressions_of}
use Rattle.rp_model.specs.states.State.{PlainState, base_layer, opening, changed}
use Rattle.rp_model.specs.commands.Verdict.{Refusal, Verdict, refused, limit}
use Rattle.rp_model.specs.commands.Rule.{walked, proofs_of}
use Rattle.rp_language.specs.Grammar.{Version, one, two, Fault, too_long, bad_syntax, out_of_range, zero_half_space, too_many_nodes, Reading, blank, command, bad, reading}
use Rattle.rp_reports.specs.Text.{proof_text, verdict_text, echo_text, answer_lines, line_end}
use Rattle.rp_reports.specs.Report.{lines_of_pieces, script_lines, report_mark, version_by, body_of, marked, script_version, script_body, echoed, bad_answer}
use Rattle.rp_reports.specs.Machine.{verdicts_walked, change_walked, answer_read, state_read, step_answer, step_state, lines_from, report}
use Rattle.rp_reports.specs.ProofText.{echo_read}
use Rattle.rp_reports.specs.Output.{most_script_bytes}
use Rattle.rp_reports.specs.Check.{Trail, refusal_line, follow_command, follow_fault, follow_reading, may_be_echoed, follow_text, follow_echo, Progress, with_no_tests, follow_numbered, follow_answer, Finding, all_accepted, wrong_at, find_wrong, finding_by, finding, is_accepting, is_accepted}
use Rattle.rp_parametricity.proofs.Kept.{IsTold, StateHas, CommandHas, changed_has}
use Rattle.rp_checker_completeness.proofs.TakenParts.{trail}
use Rattle.rp_checker_completeness.proofs.Commands.{Any, expressions_kept}
use Rattle.rp_checker_completeness.proofs.ToldLines.{lines_taken}
use Rattle.rp_checker_completeness.proofs.CommandTaken.{command_taken}
use Rattle.rp_checker_completeness.proofs.EchoAgain.{echoed_text, echo_again}

-- ---- one answer

-- a number above 0 is not 0
pub suc_not_zero : (n : ℕ) → (suc n == 0) ≡ false
suc_not_zero n = grind arith

-- an empty line is blank
pub empty_is_blank : (v : Version) → reading v [] ≡ blank
unfolding reading
empty_is_blank one = refl
empty_is_blank two = refl

module _ (v : Version) where
  -- the check goes through an answer, and comes to the state
  abbrev Through : PlainState → PlainState → ℕ → List (List ℕ) → Type 0
  Through s after n lines = (q : Progress) → q.last < n → q.state ≡ s → (rest : List (List ℕ)) (m tests : ℕ) → (k : ℕ) × (counted : ℕ) × (follow_answer v q (trail (lines ++ rest) m tests) ≡ done (record { last = n; state = after }) (trail rest k counted))

  -- the answer behind the echo
  abbrev Behind : PlainState → PlainState → ℕ → Option (List ℕ) → List ℕ → List (List ℕ) → Type 0
  Behind s after n text first body = (rest : List (List ℕ)) (m : ℕ) → (k : ℕ) × (counted : ℕ) × (follow_echo v n s text (trail (first ∷ body ++ rest) m 0) ≡ done after (trail rest k counted))

  -- a number below another passes the test
  less_is : (a b : ℕ) → a < b → nat_lt a b ≡ true
  less_is a b h = grind arith

  -- an echo, and then the answer behind it
  through_echo : (s after : PlainState) (n : ℕ) (text : Option (List ℕ)) (first : List ℕ) (body : List (List ℕ)) → echo_read first ≡ Some (record { number = n; text = text }) → Behind s after n text first body → Through s after n (first ∷ body)
  unfolding follow_answer
  through_echo s after n text first body e b q l is rest m tests =
      let k = b rest m in (
        k.0,
        k.1,
        ap (λ o. follow_numbered v q o (trail (first ∷ body ++ rest) m tests)) e
            ∙ ap (λ (t : Bool). (elim t as (λ _. Trail → Outcome Trail Progress) [ false ↦ (λ t. stopped line_wrong t) | true ↦ (λ t. after_first (λ s. λ t. done (record { last = n; state = s }) t) (follow_echo v n q.state text (with_no_tests t))) ]) (trail (first ∷ body ++ rest) m tests)) (less_is q.last n l)
            ∙ ap (λ s. after_first (λ s. λ t. done (record { last = n; state = s }) t) (follow_echo v n s text (trail (first ∷ body ++ rest) m 0))) is
            ∙ ap (after_first (λ s. λ t. done (record { last = n; state = s }) t)) k.2,
      )

  -- a fault behind its echo
  fault_taken : (s : PlainState) (f : Fault) (rest : List (List ℕ)) (m : ℕ) → (k : ℕ) × (follow_fault s f (trail (refusal_line (Refusal.bad f) ∷ rest) m 0) ≡ done s (trail rest k 0))
  fault_taken s f rest m = let l = lines_taken (refusal_line (Refusal.bad f) ∷ []) rest m 0 in (l.0, ap (after_first (λ _. λ t. done s t)) l.1)

  -- what is said of a line: nothing, or an answer that the check goes through
  pub data Said (s after : PlainState) (n : ℕ) : List (List ℕ) → Type 0 where
    silent : after ≡ s → Said s after n []
    spoken : (first : List ℕ) (body : List (List ℕ)) → Through s after n (first ∷ body) → Said s after n (first ∷ body)

  -- the text that is echoed reads as the line does
  text_behind : (s after : PlainState) (n : ℕ) (r : Reading) (first : List ℕ) (body : List (List ℕ)) → may_be_echoed r ≡ true
      → ((rest : List (List ℕ)) (m : ℕ) → (k : ℕ) × (counted : ℕ) × (follow_reading n s r (trail (body ++ rest) m 0) ≡ done after (trail rest k counted)))
      → (line : List ℕ) → reading v line ≡ r → Behind s after n (Some line) first body
  text_behind s after n r first body e b line is rest m =
      let k = b rest (m + 1) in (
        k.0,
        k.1,
        ap (λ r. follow_text n s r (trail (first ∷ body ++ rest) m 0)) is
            ∙ ap (λ (t : Bool). elim t as (λ _. Outcome Trail PlainState) [ true ↦ follow_reading n s r (trail (body ++ rest) (m + 1) 0) | false ↦ stopped line_wrong (trail (first ∷ body ++ rest) m 0) ]) e
            ∙ k.2,
      )

  -- a line that is read so is not empty
  pub not_empty : (r : Reading) → may_be_echoed r ≡ true → (line : List ℕ) → reading v line ≡ r → echoed_text line ≡ Some line
  not_empty r e (b ∷ bs) is = refl
  not_empty r e [] is = absurd (no (ap may_be_echoed (sym (empty_is_blank v) ∙ is) ∙ e))
    where
      no : false ≡ true → ⊥
      no f = cc

  -- ---- each line of a script

  module _ (N : Label → Type 0) (s : PlainState) (n : ℕ) (some : 1 ≤ n) (few : n ≤ 16777216) where
    -- what is said of a line that is no command
    said_bad : (f : Fault) (line : List ℕ) → reading v line ≡ bad f → Said s s n (answer_lines false (bad_answer n line f))
    said_bad f line is = spoken (echo_text n (echoed f line)) (refusal_line (Refusal.bad f) ∷ []) (by_fault f is)
      where
        told : (f : Fault) → may_be_echoed (bad f) ≡ true → reading v line ≡ bad f → Through s s n (echo_text n line ∷ refusal_line (Refusal.bad f) ∷ [])
        told f e is = through_echo s s n (Some line) (echo_text n line) (refusal_line (Refusal.bad f) ∷ []) (echo_again n some few line ∙ ap (λ o. Some (record { number = n; text = o })) (not_empty (bad f) e line is))
            (text_behind s s n (bad f) (echo_text n line) (refusal_line (Refusal.bad f) ∷ []) e (λ rest m. let k = fault_taken s f rest m in (k.0, 0, k.1)) line is)

        by_fault : (f : Fault) → reading v line ≡ bad f → Through s s n (echo_text n (echoed f line) ∷ refusal_line (Refusal.bad f) ∷ [])
        by_fault too_long is = through_echo s s n None (echo_text n []) (refusal_line (Refusal.bad too_long) ∷ []) (echo_again n some few []) (λ rest m. let k = fault_taken s too_long rest (m + 1) in (k.0, 0, k.1))
        by_fault bad_syntax is = told bad_syntax refl is
        by_fault out_of_range is = told out_of_range refl is
        by_fault zero_half_space is = told zero_half_space refl is
        by_fault too_many_nodes is = told too_many_nodes refl is

    -- an answer with a verdict has an echo
    lines_spoken : (line : List ℕ) (proofs : List ProofLine) (vs : List Verdict) → IsTold N vs ⊎ (vs ≡ refused limit ∷ [])
        → echo_text n line ∷ (map proof_text proofs ++ map verdict_text vs) ≡ answer_lines false (record { number = n; echo = line; proofs = proofs; verdicts = vs })
    lines_spoken line proofs (v ∷ vs) h = refl
    lines_spoken line proofs [] h = absurd (⊎_elim (λ t. t) (λ e. not_one e) h)
      where
        not_one : ◌≡◌ {A = List Verdict} [] (refused limit ∷ []) → ⊥
        not_one e = cc

    module _ (law : SlimPartIsPart) (h : StateHas IsKeptHalfSpace N s) where
      -- what is said of a command
      said_command : (c : Command) → CommandHas IsKeptHalfSpace N c → (line : List ℕ) → reading v line ≡ command c → Said s (state_read s n (command c)) n (answer_lines false (answer_read s n line (command c)))
      said_command c k line is =
          let after = changed n s (change_walked (walked s c)) in
          let body = map proof_text (proofs_of s c) ++ map verdict_text (verdicts_walked (walked s c)) in
          subst (Said s after n) (lines_spoken line (proofs_of s c) (verdicts_walked (walked s c)) (command_taken law N n s c h k [] 0).some)
          (spoken (echo_text n line) body
          (through_echo s after n (Some line) (echo_text n line) body (echo_again n some few line ∙ ap (λ o. Some (record { number = n; text = o })) (not_empty (command c) refl line is))
          (text_behind s after n (command c) (echo_text n line) body refl (λ rest m.
          let a = command_taken law N n s c h k rest m in
          (a.after, a.tests, ap (λ ls. follow_command n s c (trail ls m 0)) (append_assoc (map proof_text (proofs_of s c)) (map verdict_text (verdicts_walked (walked s c))) rest) ∙ a.is)) line is)))

      -- what is said of a line, and the state behind it
      pub record LineSaid (line : List ℕ) : Type 0 where
        pub said : Said s (step_state v s n line) n (answer_lines false (step_answer v s n line))
        pub state : StateHas IsKeptHalfSpace N (step_state v s n line)

      -- so it is for each line
      pub line_said : (slant : TrapezoidIsKept) (kept : ReadExpressionsAreKept) (labels : (line : List ℕ) (c : Command) → reading v line ≡ command c → CommandHas Any N c) (line : List ℕ) → LineSaid line
      unfolding step_state step_answer
      line_said slant kept labels line = by_reading (reading v line) refl
        where
          by_reading : (r : Reading) → reading v line ≡ r → LineSaid line
          by_reading blank e = record {
            said = subst (λ r. Said s (state_read s n r) n (answer_lines false (answer_read s n line r))) (sym e) (silent refl);
            state = subst (λ r. StateHas IsKeptHalfSpace N (state_read s n r)) (sym e) h;
          }
          by_reading (bad f) e = record {
            said = subst (λ r. Said s (state_read s n r) n (answer_lines false (answer_read s n line r))) (sym e) (said_bad f line e);
            state = subst (λ r. StateHas IsKeptHalfSpace N (state_read s n r)) (sym e) h;
          }
          by_reading (command c) e =
              let k : CommandHas IsKeptHalfSpace N c = record { shapes = expressions_kept slant N (expressions_of c) (kept v line c e) (labels line c e).shapes; labels = (labels line c e).labels } in
              record {
                said = subst (λ r. Said s (state_read s n r) n (answer_lines false (answer_read s n line r))) (sym e) (said_command c k line e);
                state = subst (λ r. StateHas IsKeptHalfSpace N (state_read s n r)) (sym e) (changed_has IsKeptHalfSpace N n s (change_walked (walked s c)) h (command_taken law N n s c h k [] 0).state);
              }

  -- ---- all lines

  -- no line is left
  pub at_end : (room : ℕ) (q : Progress) (m tests : ℕ) → find_wrong v room q (trail [] m tests) ≡ all_accepted
  at_end zero q m tests = refl
  at_end (suc room) q m tests = refl

  -- an answer, and then what is found behind it
  find_behind : (room : ℕ) (q further : Progress) (line : List ℕ) (lines : List (List ℕ)) (m tests : ℕ) (rest : Trail) → follow_answer v q (trail (line ∷ lines) m tests) ≡ done further rest → find_wrong v (suc room) q (trail (line ∷ lines) m tests) ≡ find_wrong v room further rest
  find_behind room q further line lines m tests rest e =
      ap (λ (b : Bool). elim b as (λ _. Finding) [ true ↦ all_accepted | false ↦ elim (follow_answer v q (trail (line ∷ lines) m tests)) as (λ _. Finding) [ done f r ↦ find_wrong v room f r | stopped z r ↦ wrong_at r.number ] ]) (suc_not_zero (length lines))
      ∙ ap (λ o. elim o as (λ _. Finding) [ done f r ↦ find_wrong v room f r | stopped z r ↦ wrong_at r.number ]) e

-- ---- the lines of a script

-- one line end more
end_more : (ps : List (List ℕ)) (n : ℕ) → length (lines_of_pieces ps) ≤ n → length (lines_of_pieces ([] ∷ ps)) ≤ suc n
end_more [] n h = omega arith
end_more (p ∷ ps) n h = omega (arith, h)

-- one byte more in the first piece
byte_more : (b : ℕ) (ps : List (List ℕ)) (n : ℕ) → length (lines_of_pieces ps) ≤ n → length (lines_of_pieces (onto_first b ps)) ≤ suc n
byte_more b [] n h = omega arith
byte_more b (p ∷ []) n h = omega arith
byte_more b (p ∷ q ∷ ps) n h = omega (arith, h)

-- a script has no more lines than bytes
pieces_few : (bytes : List ℕ) → length (lines_of_pieces (slice_split (λ b. b == line_end) bytes)) ≤ length bytes
pieces_few [] = omega arith
pieces_few (b ∷ bs) = by_end (b == line_end) refl (pieces_few bs)
  where
    by_end : (t : Bool) → (b == line_end) ≡ t → length (lines_of_pieces (slice_split (λ b. b == line_end) bs)) ≤ length bs → length (lines_of_pieces (slice_split (λ b. b == line_end) (b ∷ bs))) ≤ suc (length bs)
    by_end true e h = subst (λ ps. length (lines_of_pieces ps) ≤ suc (length bs)) (sym (slice_split-cons_yes (λ b. b == line_end) b bs e)) (end_more (slice_split (λ b. b == line_end) bs) (length bs) h)
    by_end false e h = subst (λ ps. length (lines_of_pieces ps) ≤ suc (length bs)) (sym (slice_split-cons_no (λ b. b == line_end) b bs e)) (byte_more b (slice_split (λ b. b == line_end) bs) (length bs) h)

-- the body of a script has no more lines than the script
pub body_few : (v : Version) (lines : List (List ℕ)) → length (body_of v lines) ≤ length lines
body_few one lines = omega arith
body_few two [] = omega arith
body_few two (line ∷ lines) = omega arith

-- the lines of a script have numbers within the bound
pub script_few : (bytes : List ℕ) → length bytes ≤ most_script_bytes → 1 + length (script_body bytes) ≤ 16777217
unfolding script_lines script_body
script_few bytes few = let h = pieces_few bytes in let k = body_few (script_version bytes) (script_lines bytes) in omega (arith, h, k, few)

-- ---- the version of a report

-- the beginning of the check
abbrev pub start : Progress
start = record { last = 0; state = opening }

-- lines that begin with the mark of the second version are not accepted in the first
mark_not_accepted : (lines : List (List ℕ)) → find_wrong one (suc (length lines)) start (trail (report_mark ∷ lines) 1 0) ≡ all_accepted → ⊥
unfolding follow_answer echo_read
mark_not_accepted lines f = wrong (sym (ap (λ (b : Bool). elim b as (λ _. Finding) [ true ↦ all_accepted | false ↦ wrong_at 1 ]) (suc_not_zero (length lines))) ∙ f)
  where
    wrong : wrong_at 1 ≡ all_accepted → ⊥
    wrong g = cc

-- lines that are accepted in the first version do not begin with the mark of the second
version_one : (lines : List (List ℕ)) → find_wrong one (length lines) start (trail lines 1 0) ≡ all_accepted → version_by report_mark lines ≡ one
version_one [] e = refl
version_one (line ∷ lines) e = by_test (label_eq line report_mark) refl
  where
    by_test : (b : Bool) → label_eq line report_mark ≡ b → elim b as (λ _. Version) [ true ↦ two | false ↦ one ] ≡ one
    by_test false f = refl
    by_test true f = absurd (mark_not_accepted lines (subst (λ (l : List ℕ). find_wrong one (suc (length lines)) start (trail (l ∷ lines) 1 0) ≡ all_accepted) ((bytes_eq-Decides line report_mark).0 f) e))

module _ (law : SlimPartIsPart) (slant : TrapezoidIsKept) (kept : ReadExpressionsAreKept) (N : Label → Type 0) (labels : (v : Version) (line : List ℕ) (c : Command) → reading v line ≡ command c → CommandHas Any N c) where
  -- what is found in what is said of a line, and in what follows
  found_said : (v : Version) (s after : PlainState) (n : ℕ) (said more : List (List ℕ)) → Said v s after n said → (q : Progress) → q.last < n → q.state ≡ s → (room m tests : ℕ) → length (said ++ more) ≤ room
      → ((q : Progress) → q.last < suc n → q.state ≡ after → (room m tests : ℕ) → length more ≤ room → find_wrong v room q (trail more m tests) ≡ all_accepted) → find_wrong v room q (trail (said ++ more) m tests) ≡ all_accepted
  found_said v s after n said more (silent e) q l is room m tests fits rest = rest q (omega (arith, l)) (is ∙ sym e) room m tests fits
  found_said v s after n said more (spoken first body t) q l is zero m tests fits rest = absurd (omega (arith, fits))
  found_said v s after n said more (spoken first body t) q l is (suc room) m tests fits rest =
      let k = t q l is more m tests in
      find_behind v room q (record { last = n; state = after }) first (body ++ more) m tests (trail more k.0 k.1) k.2
      ∙ rest (record { last = n; state = after }) (omega arith) refl room k.0 k.1 (let long = length-append body more in omega (arith, fits, long))

  -- the lines from a state on
  pub lines_accepted : (v : Version) (lines : List (List ℕ)) (s : PlainState) (n : ℕ) → StateHas IsKeptHalfSpace N s → 1 ≤ n → n + length lines ≤ 16777217 → (q : Progress) → q.last < n → q.state ≡ s → (room m tests : ℕ) → length (lines_from v false s n lines) ≤ room
      → find_wrong v room q (trail (lines_from v false s n lines) m tests) ≡ all_accepted
  lines_accepted v [] s n h some few q l is room m tests fits = at_end v room q m tests
  lines_accepted v (line ∷ lines) s n h some few q l is room m tests fits =
      let k = line_said v N s n some (omega (arith, few)) law h slant kept (labels v) line in
      found_said v s (step_state v s n line) n (answer_lines false (step_answer v s n line)) (lines_from v false (step_state v s n line) (suc n) lines) k.said q l is room m tests fits
      (λ p below at. lines_accepted v lines (step_state v s n line) (suc n) k.state (omega arith) (omega (arith, few)) p below at)

  -- the computed lines of a version, behind its mark, are accepted
  marked_accepted : N base_layer → (v : Version) (body : List (List ℕ)) → 1 + length body ≤ 16777217 → finding (marked report_mark v (lines_from v false opening 1 body)) ≡ all_accepted
  unfolding finding
  marked_accepted base two body few =
      let lines = lines_from two false opening 1 body in
      lines_accepted two body opening 1 (record { layer = base; names = tt; lots = tt }) (omega arith) few start (omega arith) refl (suc (length lines)) 2 0 (omega arith)
  marked_accepted base one body few =
      let lines = lines_from one false opening 1 body in
      let found = lines_accepted one body opening 1 (record { layer = base; names = tt; lots = tt }) (omega arith) few start (omega arith) refl (length lines) 1 0 (omega arith) in
      ap (λ v. finding_by v lines) (version_one lines found) ∙ found

  -- the computed report of a script is accepted
  pub report_accepted : N base_layer → (bytes : List ℕ) → length bytes ≤ most_script_bytes → IsTrue (is_accepted (report false bytes))
  unfolding report
  report_accepted base bytes few = ap is_accepting (marked_accepted base (script_version bytes) (script_body bytes) (script_few bytes few))
