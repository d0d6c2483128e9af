-- The machine of parts: it computes the answers and changes of the machine of sets from the lists of parts alone.
use Rattle.std.specs.Prelude.{ℕ, suc, Bool, List, [], ◌∷◌, ◌++◌}
use Rattle.rp_semantics.specs.Walk.{Outcome, done, stopped, Work}
use Rattle.rp_model.specs.states.State.{PlainState, opening, Change, nothing_changes, changed}
use Rattle.rp_model.specs.commands.Verdict.{Verdict, refused, limit}
use Rattle.rp_model.specs.commands.Reply.{Reply}
use Rattle.rp_model.specs.commands.Rule.{walked, proofs_of}
use Rattle.rp_language.specs.Grammar.{Version, Reading, blank, command, bad, reading}
use Rattle.rp_reports.specs.Text.{Answer, answer_lines}
use Rattle.rp_reports.specs.Report.{marked, report_mark, script_version, script_body, blank_answer, bad_answer}

-- the verdict lines of a walked row; the limit if it was stopped
abbrev pub verdicts_walked : Outcome Work Reply → List Verdict
verdicts_walked (done r w) = r.verdicts
verdicts_walked (stopped e w) = refused limit ∷ []

-- the change of a walked row; a stop changes nothing
abbrev pub change_walked : Outcome Work Reply → Change (Unit {0})
change_walked (done r w) = r.change
change_walked (stopped e w) = nothing_changes

-- the answer to a line with the given reading
abbrev pub answer_read : PlainState → ℕ → List ℕ → Reading → Answer
answer_read s n line blank = blank_answer n
answer_read s n line (bad f) = bad_answer n line f
answer_read s n line (command c) = record { number = n; echo = line; proofs = proofs_of s c; verdicts = verdicts_walked (walked s c) }

-- the state after a line with the given reading
abbrev pub state_read : PlainState → ℕ → Reading → PlainState
state_read s n (command c) = changed n s (change_walked (walked s c))
state_read s n _ = s

-- the answer to a line of a script of a version
unfoldable pub step_answer : Version → PlainState → ℕ → List ℕ → Answer
step_answer v s n line = answer_read s n line (reading v line)

-- the state after a line
unfoldable pub step_state : Version → PlainState → ℕ → List ℕ → PlainState
step_state v s n line = state_read s n (reading v line)

-- the report lines of all lines from a state on, full or brief
abbrev pub lines_from : Version → Bool → PlainState → ℕ → List (List ℕ) → List (List ℕ)
lines_from v brief s n [] = []
lines_from v brief s n (line ∷ lines) = answer_lines brief (step_answer v s n line) ++ lines_from v brief (step_state v s n line) (suc n) lines

-- the computed report lines of a script, full or brief
unfoldable pub report : Bool → List ℕ → List (List ℕ)
report brief bytes = marked report_mark (script_version bytes) (lines_from (script_version bytes) brief opening 1 (script_body bytes))

-- ---- the machine as a contract sees it

-- a machine between two lines: the version of its script, which no line changes, and its state
pub record Running : Type 0 where
  pub version : Version
  pub state : PlainState

-- the machine after a line
abbrev pub after_line : Running → ℕ → List ℕ → Running
after_line m n line = record { version = m.version; state = step_state m.version m.state n line }
