-- The laws over steps, runs and reports, as statements. Each is proved by the function whose contract names it.
use Rattle.std.specs.Prelude.{◌≡◌, ℕ, suc, ◌≤◌, Bool, true, false, ◌==◌, IsTrue, ◌↔◌, List, [], ◌∷◌, ◌++◌, length, map, Option, Some, None, filter}
use Rattle.rp_geometry.specs.Geometry.{RationalPoint}
use Rattle.rp_geometry.specs.sets.Shape.{Shape}
use Rattle.rp_geometry.specs.sets.Sets.{SameMembers}
use Rattle.rp_language.specs.Expression.{Command, ask_at, ask_as_of}
use Rattle.rp_language.specs.Grammar.{Version, command, reading}
use Rattle.rp_model.specs.states.State.{State, opening, parts_only, sets_only, changed}
use Rattle.rp_model.specs.states.Sound.{IsSound, IsLaterThan, SameState}
use Rattle.rp_model.specs.commands.Verdict.{Verdict, says_ok}
use Rattle.rp_model.specs.commands.Rule.{rule_of, change_of}
use Rattle.rp_model.specs.commands.Sets.{union_of}
use Rattle.rp_reports.specs.Machine.{step_answer, step_state, report}
use Rattle.rp_reports.specs.TrueReport.{is_accepted_change}
use Rattle.rp_reports.specs.Text.{Answer}
use Rattle.rp_reports.specs.Report.{IsAnswerTo, IsReport, IsBriefReport}
use Rattle.rp_reports.specs.laws.StateLaws.{next_state, state_after, in_layer, reshapes_lots}

-- ---- steps

-- every step from a sound state leads to a sound state, and the next line is later
abbrev pub StepsKeepSoundness : Type 0
StepsKeepSoundness = (v : Version) (s : State) → IsSound s → (n : ℕ) → IsLaterThan n s → (line : List ℕ) →
    IsSound (next_state v n s line) × IsLaterThan (suc n) (next_state v n s line)

-- The sets after a command depend on its right verdict alone. After one ok they are those that the command gives; after every other verdict the state is as before.
abbrev pub SetsFollowVerdicts : Type 0
SetsFollowVerdicts = (v : Version) (s : State) → IsSound s → (n : ℕ) (line : List ℕ) (c : Command) → reading v line ≡ command c → (given : List Verdict) → rule_of s c given →
    (is_accepted_change given ≡ true → sets_only (next_state v n s line) ≡ changed n (sets_only s) (change_of s c)) × (is_accepted_change given ≡ false → next_state v n s line ≡ s)

-- two sound states of the same layer, names, lots, parts and members give the same answers, and lead to two such states
abbrev pub AnswersDependOnMembers : Type 0
AnswersDependOnMembers = (v : Version) (s t : State) → IsSound s → IsSound t → SameState s t → (n : ℕ) → IsLaterThan n s → (line : List ℕ) →
    ((a : Answer) → IsAnswerTo s n line (reading v line) a ↔ IsAnswerTo t n line (reading v line) a)
    × SameState (next_state v n s line) (next_state v n t line)

-- in a sound state the answer computed from the parts is the only one, and the computed parts are those after the line
abbrev pub StepIsComputed : Type 0
StepIsComputed = (v : Version) (s : State) → IsSound s → (n : ℕ) → IsLaterThan n s → (line : List ℕ) →
    ((a : Answer) → IsAnswerTo s n line (reading v line) a ↔ (a ≡ step_answer v (parts_only s) n line))
    × (parts_only (next_state v n s line) ≡ step_state v (parts_only s) n line)

-- line n is the end of the lot
abbrev pub ends_at : ℕ → Option ℕ → Bool
ends_at n None = false
ends_at n (Some m) = n == m

-- the sets of the lots of a state that ended at line n
abbrev pub sets_ended_at : ℕ → State → List Shape
sets_ended_at n s = map (λ l. l.set) (filter (λ l. ends_at n l.ended) s.lots)

-- the sets of the lots of a state that were born at line n
abbrev pub sets_born_at : ℕ → State → List Shape
sets_born_at n s = map (λ l. l.set) (filter (λ l. n == l.born) s.lots)

-- in the state after an accepted cut, subdivision or consolidation, the lots born at its line have together exactly the points of those that ended at it
abbrev pub ReshapingStepsKeepPoints : Type 0
ReshapingStepsKeepPoints = (v : Version) (s : State) → IsSound s → (n : ℕ) → IsLaterThan n s → (line : List ℕ) (c : Command) → reading v line ≡ command c → IsTrue (reshapes_lots c) → rule_of s c (says_ok ∷ [])
    → SameMembers (union_of (sets_ended_at n (next_state v n s line))) (union_of (sets_born_at n (next_state v n s line)))

-- ---- whole scripts

-- a script has exactly one report
abbrev pub ReportIsOne : Type 0
ReportIsOne = (bytes : List ℕ) → (told : List (List ℕ)) × IsReport bytes told × ((other : List (List ℕ)) → IsReport bytes other → other ≡ told)

-- a script has exactly one brief report
abbrev pub BriefReportIsOne : Type 0
BriefReportIsOne = (bytes : List ℕ) → (told : List (List ℕ)) × IsBriefReport bytes told × ((other : List (List ℕ)) → IsBriefReport bytes other → other ≡ told)

-- the report computed from the parts is the only one, in full and brief
abbrev pub ReportIsComputed : Type 0
ReportIsComputed = (bytes : List ℕ) (told : List (List ℕ)) → (IsReport bytes told ↔ (told ≡ report false bytes)) × (IsBriefReport bytes told ↔ (told ≡ report true bytes))

-- ---- runs from the opening state

-- the state after the lines of the body of a script
abbrev pub state_of_run : Version → List (List ℕ) → State
state_of_run v lines = state_after v 1 opening lines

-- every state of a run is sound, and the next line is later than all births and ends in it
abbrev pub RunsAreSound : Type 0
RunsAreSound = (v : Version) (lines : List (List ℕ)) → IsSound (state_of_run v lines) × IsLaterThan (suc (length lines)) (state_of_run v lines)

-- in a run, a question as of a line, after any further lines, has the verdict that was right for the point after that line, in the layer present now
abbrev pub AsOfInRuns : Type 0
AsOfInRuns = (v : Version) (lines later : List (List ℕ)) (p : RationalPoint) (given : List Verdict) → rule_of (state_of_run v (lines ++ later)) (ask_as_of (length lines) p) given ↔ rule_of (in_layer (state_of_run v (lines ++ later)).layer (state_of_run v lines)) (ask_at p) given

-- in a run, a question as of a line that has not come yet has the verdict that is right for the point now
abbrev pub AsOfNow : Type 0
AsOfNow = (v : Version) (lines : List (List ℕ)) (n : ℕ) → length lines ≤ n → (p : RationalPoint) (given : List Verdict) → rule_of (state_of_run v lines) (ask_as_of n p) given ↔ rule_of (state_of_run v lines) (ask_at p) given
