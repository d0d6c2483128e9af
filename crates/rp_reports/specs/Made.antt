-- Made scripts: a building with a number of storeys, drawn from a seed, and the counts in its report.
use Rattle.std.specs.Prelude.{ℕ, zero, suc, ◌+◌, ◌*◌, ◌/◌, ◌%◌, ◌^◌, Bool, true, false, List, [], ◌∷◌, ◌++◌, length, codes, count_by}
use Rattle.std.specs.List.{flat_map}
use Rattle.std.specs.Fmt.{decimal}
use Rattle.rp_language.specs.Grammar.{one}
use Rattle.rp_model.specs.states.State.{PlainState, opening, live_lots}
use Rattle.rp_model.specs.commands.Verdict.{Verdict}
use Rattle.rp_reports.specs.Text.{Answer}
use Rattle.rp_reports.specs.Machine.{step_answer, step_state}

-- ---- a building, storey by storey

-- the state of the random numbers after a draw
abbrev pub next_seed : ℕ → ℕ
next_seed seed = (seed * 6364136223846793005 + 1) % 2 ^ 64

-- the number below m that the state of the random numbers gives
abbrev pub drawn : ℕ → ℕ → ℕ
drawn seed m = (seed / 2 ^ 33) % m

-- the three lines of a storey
abbrev pub storey_lines : ℕ → ℕ → ℕ → List (List ℕ)
storey_lines i a b =
    (codes "register s" ++ decimal i ++ codes " box 0 0 " ++ decimal (3000 * i) ++ codes " 60000 40000 " ++ decimal (3000 * (i + 1)))
    ∷ (codes "cut s" ++ decimal i ++ codes " half " ++ decimal a ++ codes " " ++ decimal b ++ codes " 0 -" ++ decimal (30000 * a + 20000 * b) ++ codes " s" ++ decimal i ++ codes "a s" ++ decimal i ++ codes "b")
    ∷ (codes "neighbours s" ++ decimal i ++ codes "a") ∷ []

-- the lines of the script of n more storeys, from storey i on, with audit and list at the end
abbrev pub building_lines : ℕ → ℕ → ℕ → List (List ℕ)
building_lines zero i seed = codes "audit" ∷ codes "list" ∷ []
building_lines (suc n) i seed = storey_lines i (drawn (next_seed seed) 9 + 1) (drawn (next_seed (next_seed seed)) 9 + 1) ++ building_lines n (i + 1) (next_seed (next_seed seed))

-- the lines of the script of n storeys
unfoldable pub made_script : ℕ → ℕ → List (List ℕ)
made_script n seed = building_lines n 0 seed

-- ---- trial: counts in the report of a made script

-- a run: all answers to the lines, from a state on, and the state at the end
pub record Run : Type 0 where
  pub answers : List Answer
  pub state : PlainState

-- the run with one more answer before it
abbrev pub with_answer : Answer → Run → Run
with_answer a r = record { answers = a ∷ r.answers; state = r.state }

-- the run of lines of version 1, from a state on
unfoldable pub run_from : PlainState → ℕ → List (List ℕ) → Run
run_from s n [] = record { answers = []; state = s }
run_from s n (line ∷ lines) = with_answer (step_answer one s n line) (run_from (step_state one s n line) (suc n) lines)

-- the verdict is a refusal
abbrev pub is_refusal : Verdict → Bool
is_refusal (Verdict.refused r) = true
is_refusal _ = false

-- all verdict lines of answers
abbrev pub all_verdicts : List Answer → List Verdict
all_verdicts as_given = flat_map (λ a. a.verdicts) as_given

-- the number of all proof lines of answers
abbrev pub count_proofs : List Answer → ℕ
count_proofs as_given = length (flat_map (λ a. a.proofs) as_given)

-- a word, a space and a number
abbrev pub told_count : List ℕ → ℕ → List ℕ
told_count word n = word ++ codes " " ++ decimal n

-- the four lines of counts of a run
abbrev pub trial_of_run : List (List ℕ) → Run → List (List ℕ)
trial_of_run lines r =
    told_count (codes "lines") (length lines) ∷ told_count (codes "refused") (count_by is_refusal (all_verdicts r.answers))
    ∷ told_count (codes "live") (length (live_lots r.state.lots)) ∷ told_count (codes "proofs") (count_proofs r.answers) ∷ []

-- the lines of counts of the report of a made script
unfoldable pub trial_lines : ℕ → ℕ → List (List ℕ)
trial_lines n seed = trial_of_run (made_script n seed) (run_from opening 1 (made_script n seed))
