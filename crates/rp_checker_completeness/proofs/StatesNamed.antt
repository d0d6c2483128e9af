-- The labels of the check's states, and of the replies of its rows, are names.
use Rattle.std.proofs.Common.{◌≡◌, ℕ, Bool, true, false, ◌&&◌, nat_lt, List, [], ◌∷◌, map, Option, Some, None, refl, sym, subst}
use Rattle.rp_geometry.specs.Geometry.{HalfSpace}
use Rattle.rp_semantics.specs.Walk.{Stop, limit_met, limit_told, line_wrong, taken_wrong, Outcome, done, stopped, after_first, Walk, pass, stop}
use Rattle.rp_language.specs.Expression.{Command}
use Rattle.rp_model.specs.states.State.{PlainState, changed}
use Rattle.rp_model.specs.commands.Verdict.{Refusal, Verdict, limit}
use Rattle.rp_model.specs.commands.Reply.{Reply}
use Rattle.rp_language.specs.Grammar.{Version, too_long, Reading, blank, command, bad, reading}
use Rattle.rp_reports.specs.Text.{verdict_text}
use Rattle.rp_reports.specs.ProofText.{Echo, proof_read}
use Rattle.rp_reports.specs.Check.{Trail, AreLines, tells_limit, next_proof, taken, strict_by_line, without, dropped_by, follow_drops, follow_lines, limit_allowed, follow_limit, follow_reply, follow_reading, may_be_echoed, follow_echo, Progress, with_no_tests, follow_numbered, next_echo, follow_answer, line_tester}
use Rattle.rp_parametricity.proofs.Likeness.{Anything}
use Rattle.rp_parametricity.proofs.Kept.{StateHas, CommandHas, ReplyHas, IsTold, changed_has}
use Rattle.rp_checker_completeness.proofs.Commands.{Any}
use Rattle.rp_checker_completeness.proofs.ReadNames.{Named, read_names}
use Rattle.rp_checker_completeness.proofs.LineTexts.{verdicts_are_lines}
use Rattle.rp_checker_completeness.proofs.Beside.{Reads, takes, due, strict_reader, StaysLost, FoundStays, Knowledge}
use Rattle.rp_checker_completeness.proofs.LimitAhead.{row_beside}
use Rattle.rp_checker_completeness.proofs.Due.{Due, DueHas, replied, sliced, due_row}
use Rattle.rp_checker_completeness.proofs.Shown.{reply_at, follow_due, command_is_due, follow_shown, section_reply}

-- ---- nothing is known of a trail

-- nothing is known
abbrev Unknown : Trail → Type 0
Unknown t = Unit {0}

-- nothing is known of a stop
abbrev UnknownStop : Stop → Trail → Type 0
UnknownStop s t = Unit {0}

-- a walk that takes the next line if a test passes
unknown_reads : {A : Type 0} (Q : A → Type 0) (m : Walk Trail A) → Reads Q m → (t : Trail) → StaysLost Unknown UnknownStop Q (m t)
unknown_reads Q m (takes true x q) t = (q, tt)
unknown_reads Q m (takes false x q) t = tt
unknown_reads {A} Q m due t = here (tells_limit t.lines)
  where
    here : (b : Bool) → StaysLost Unknown UnknownStop Q (elim b as (λ _. Outcome Trail A) [ true ↦ stopped limit_told t | false ↦ stopped line_wrong t ])
    here true = tt
    here false = tt

-- a strict test of an audit
unknown_found : (m : Walk Trail Bool) → Reads Anything m → (t : Trail) → FoundStays Unknown UnknownStop (m t)
unknown_found m (takes true x q) t = (tt, λ _. tt)
unknown_found m (takes false x q) t = tt
unknown_found m due t = here (tells_limit t.lines)
  where
    here : (b : Bool) → FoundStays Unknown UnknownStop (elim b as (λ _. Outcome Trail Bool) [ true ↦ stopped limit_told t | false ↦ stopped line_wrong t ])
    here true = tt
    here false = tt

-- lines that drop
unknown_drops : (lines : List (List ℕ)) (kept : List HalfSpace) (t : Trail) → StaysLost Unknown UnknownStop Anything (follow_drops lines kept t)
unknown_drops [] kept t = (tt, tt)
unknown_drops (line ∷ lines) kept t = here (dropped_by kept (proof_read line)) (λ h. unknown_drops lines (without h kept) (taken t))
  where
    here : (o : Option HalfSpace) → ((h : HalfSpace) → StaysLost Unknown UnknownStop Anything (follow_drops lines (without h kept) (taken t))) → StaysLost Unknown UnknownStop Anything (elim o as (λ _. Outcome Trail (List HalfSpace)) [ Some h ↦ follow_drops lines (without h kept) (taken t) | None ↦ done kept t ])
    here None rest = (tt, tt)
    here (Some h) rest = rest h

-- nothing is known, whatever is done
nothing_known : Knowledge 0 []
nothing_known = record {
  Lost = Unknown;
  LostStop = UnknownStop;
  enters = λ t m e. tt;
  counted = λ t n p. tt;
  met = λ t p. tt;
  reads = λ Q f r t p. unknown_reads Q (f (next_proof t.lines)) (r.each (next_proof t.lines)) t;
  found = λ cell t p. unknown_found (strict_by_line cell (next_proof t.lines)) ((strict_reader cell).each (next_proof t.lines)) t;
  drops = λ kept t p. unknown_drops t.lines kept t;
}

-- ---- replies

-- what is true of what a row comes to
abbrev pub RowNamed : Outcome Trail Due → Type 0
RowNamed o = StaysLost Unknown UnknownStop (DueHas Any Named) o

-- the labels of a reply of the check are names
pub row_named : (s : PlainState) → StateHas Any Named s → (c : Command) → CommandHas Any Named c → (t : Trail) → RowNamed (due_row line_tester s c t)
unfolding nothing_known
row_named s h c k t = (row_beside 0 [] [] nothing_known Named s h c k).lost t tt

-- the reply of a row that is done
pub reply_of : (r : Reply) (t : Trail) → RowNamed (done (replied r) t) → ReplyHas Any Named r
reply_of r t l = l.0

-- what is said of a reply, where there is one
abbrev pub NamedReply : Outcome Trail Due → Type 0
NamedReply (done d t) = DueHas Any Named d
NamedReply (stopped s t) = Unit {0}

-- the verdict lines of such a reply are lines
told_are_lines : (vs : List Verdict) → IsTold Named vs → AreLines (map verdict_text vs)
told_are_lines [] h = absurd h
told_are_lines (v ∷ vs) h = verdicts_are_lines (v ∷ vs) h

-- the verdict lines of a reply are lines
pub told_lines : (r : Reply) → ReplyHas Any Named r → AreLines (map verdict_text r.verdicts)
told_lines r h = told_are_lines r.verdicts h.0

-- the labels of what was read are names
abbrev pub ReadsNames : Reading → Type 0
ReadsNames (command c) = CommandHas Any Named c
ReadsNames _ = Unit {0}

-- so it is for each line
pub reads_names : (v : Version) (line : List ℕ) → ReadsNames (reading v line)
reads_names v line = here (reading v line) refl
  where
    here : (r : Reading) → reading v line ≡ r → ReadsNames r
    here blank e = tt
    here (bad f) e = tt
    here (command c) e = read_names v line c e

-- ---- states

-- the state that a walk comes to
abbrev DoneNamed : Outcome Trail PlainState → Type 0
DoneNamed (done s t) = StateHas Any Named s
DoneNamed (stopped z t) = Unit {0}

-- a state behind lines that are wanted
passed_named : (s : PlainState) → StateHas Any Named s → (o : Outcome Trail (Unit {0})) → DoneNamed (after_first (λ _. pass s) o)
passed_named s h (done x t) = h
passed_named s h (stopped z t) = tt

-- the state behind the verdict lines of a reply
reply_named : (n : ℕ) (s : PlainState) → StateHas Any Named s → (d : Due) → DueHas Any Named d → (t : Trail) → DoneNamed (follow_reply n s (reply_at d t) t)
reply_named n s h (replied r) g t = passed_named (changed n s r.change) (changed_has Any Named n s r.change h g.1) (follow_lines (map verdict_text r.verdicts) t)
reply_named n s h (sliced z ps) g t = subst DoneNamed (sym (section_reply n s z ps t)) (passed_named s h (follow_shown z ps t))

-- the state behind a row
walk_named : (n : ℕ) (s : PlainState) → StateHas Any Named s → (allowed : Bool) (o : Outcome Trail Due) → RowNamed o → DoneNamed (follow_due n s allowed o)
walk_named n s h allowed (done d t) l = here (allowed && tells_limit t.lines)
  where
    here : (b : Bool) → DoneNamed (elim b as (λ _. Outcome Trail PlainState) [ true ↦ follow_limit s t | false ↦ follow_reply n s (reply_at d t) t ])
    here true = passed_named s h (follow_lines (verdict_text (Verdict.refused limit) ∷ []) t)
    here false = reply_named n s h d l.0 t
walk_named n s h allowed (stopped line_wrong t) l = tt
walk_named n s h allowed (stopped taken_wrong t) l = tt
walk_named n s h true (stopped limit_met t) l = passed_named s h (follow_lines (verdict_text (Verdict.refused limit) ∷ []) t)
walk_named n s h false (stopped limit_met t) l = tt
walk_named n s h true (stopped limit_told t) l = passed_named s h (follow_lines (verdict_text (Verdict.refused limit) ∷ []) t)
walk_named n s h false (stopped limit_told t) l = tt

-- the state behind a text that is read so
reading_named : (n : ℕ) (s : PlainState) → StateHas Any Named s → (r : Reading) → ReadsNames r → (t : Trail) → DoneNamed (follow_reading n s r t)
reading_named n s h (command c) k t = subst DoneNamed (sym (command_is_due n s c t)) (walk_named n s h (limit_allowed s c) (due_row line_tester s c t) (row_named s h c k t))
reading_named n s h (bad f) k t = passed_named s h (follow_lines (verdict_text (Verdict.refused (Refusal.bad f)) ∷ []) t)
reading_named n s h blank k t = tt

-- the state behind an echo
echo_named : (v : Version) (n : ℕ) (s : PlainState) → StateHas Any Named s → (o : Option (List ℕ)) (t : Trail) → DoneNamed (follow_echo v n s o t)
echo_named v n s h None t = passed_named s h (follow_lines (verdict_text (Verdict.refused (Refusal.bad too_long)) ∷ []) (taken t))
echo_named v n s h (Some text) t = here (may_be_echoed (reading v text))
  where
    here : (b : Bool) → DoneNamed (elim b as (λ _. Outcome Trail PlainState) [ true ↦ follow_reading n s (reading v text) (taken t) | false ↦ stopped line_wrong t ])
    here true = reading_named n s h (reading v text) (reads_names v text) (taken t)
    here false = tt

-- the state after an answer
abbrev pub AnswerNamed : Outcome Trail Progress → Type 0
AnswerNamed (done q t) = StateHas Any Named q.state
AnswerNamed (stopped z t) = Unit {0}

-- the labels of the state behind an answer are names
pub answer_named : (v : Version) (q : Progress) → StateHas Any Named q.state → (u : Trail) → AnswerNamed (follow_answer v q u)
unfolding follow_answer
answer_named v q h u = by_echo (next_echo u.lines)
  where
    passed : (n : ℕ) (o : Outcome Trail PlainState) → DoneNamed o → AnswerNamed (after_first (λ s. pass (record { last = n; state = s })) o)
    passed n (done s t) p = p
    passed n (stopped z t) p = tt

    by_number : (x : Echo) (b : Bool) → AnswerNamed ((elim b as (λ _. Walk Trail Progress) [ false ↦ stop line_wrong | true ↦ (λ t. after_first (λ s. pass (record { last = x.number; state = s })) (follow_echo v x.number q.state x.text (with_no_tests t))) ]) u)
    by_number x true = passed x.number (follow_echo v x.number q.state x.text (with_no_tests u)) (echo_named v x.number q.state h x.text (with_no_tests u))
    by_number x false = tt

    by_echo : (o : Option Echo) → AnswerNamed (follow_numbered v q o u)
    by_echo None = tt
    by_echo (Some x) = by_number x (nat_lt q.last x.number)
