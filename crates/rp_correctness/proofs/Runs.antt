-- The states of a run are sound, and what is asked as of a line is what was right after it.
use Rattle.std.proofs.Common.{◌≡◌, ℕ, suc, ◌+◌, List, [], ◌∷◌, ◌++◌, length, sym, ap, ◌∙◌, subst, arith}
use Rattle.std.specs.Prelude.{◌↔◌}
use Rattle.rp_language.specs.Expression.{ask_as_of, ask_at}
use Rattle.rp_language.specs.Grammar.{Version}
use Rattle.rp_model.specs.commands.Rule.{rule_of}
use Rattle.rp_model.specs.states.Sound.{IsLaterThan, IsSound}
use Rattle.rp_model.specs.states.State.{State, opening}
use Rattle.rp_reports.specs.laws.RunLaws.{AsOfInRuns, AsOfNow, RunsAreSound, state_of_run}
use Rattle.rp_reports.specs.laws.StateLaws.{next_state, state_after, in_layer}
use Rattle.rp_correctness.proofs.Rows.{first_rows}
use Rattle.rp_states.proofs.Computed.{opening_sound}
use Rattle.rp_states.proofs.Steps.{steps_keep_soundness_spec}
use Rattle.rp_states.proofs.Then.{as_of_answers_then_spec}
use Rattle.rp_states.proofs.Added.{later_further}

-- the state after some lines and more is that after more lines from the state after the first
further : (v : Version) (n : ℕ) (s : State) (lines later : List (List ℕ)) → state_after v n s (lines ++ later) ≡ state_after v (n + length lines) (state_after v n s lines) later
further v n s [] later = ap (λ (m : ℕ). state_after v m s later) (let e : n ≡ n + 0 = omega arith in e)
further v n s (line ∷ lines) later = further v (suc n) (next_state v n s line) lines later ∙ ap (λ (m : ℕ). state_after v m (state_after v (suc n) (next_state v n s line) lines) later) (let e : suc n + length lines ≡ n + suc (length lines) = omega arith in e)

-- states of a run from a sound state
run_sound : (v : Version) (n : ℕ) (s : State) → IsSound s → IsLaterThan n s → (lines : List (List ℕ)) → IsSound (state_after v n s lines) × IsLaterThan (n + length lines) (state_after v n s lines)
run_sound v n s sound late [] = (sound, subst (λ (m : ℕ). IsLaterThan m s) (let e : n ≡ n + 0 = omega arith in e) late)
run_sound v n s sound late (line ∷ lines) =
    let step = steps_keep_soundness_spec first_rows v s sound n late line in
    let rest = run_sound v (suc n) (next_state v n s line) step.0 step.1 lines in
    (rest.0, subst (λ (m : ℕ). IsLaterThan m (state_after v (suc n) (next_state v n s line) lines)) (let e : suc n + length lines ≡ n + suc (length lines) = omega arith in e) rest.1)

-- every state of a run is sound
pub runs_are_sound_spec : RunsAreSound
runs_are_sound_spec v lines =
    let run = run_sound v 1 opening opening_sound (record { births = tt; ends = tt }) lines in
    (run.0, subst (λ (m : ℕ). IsLaterThan m (state_of_run v lines)) (let e : 1 + length lines ≡ suc (length lines) = omega arith in e) run.1)

-- what is asked as of a line after further lines
pub as_of_in_runs_spec : AsOfInRuns
as_of_in_runs_spec v lines later p given =
    let run = runs_are_sound_spec v lines in
    let same : state_of_run v (lines ++ later) ≡ state_after v (suc (length lines)) (state_of_run v lines) later = further v 1 opening lines later ∙ ap (λ (m : ℕ). state_after v m (state_of_run v lines) later) (let e : 1 + length lines ≡ suc (length lines) = omega arith in e) in
    subst (λ (s : State). rule_of s (ask_as_of (length lines) p) given ↔ rule_of (in_layer s.layer (state_of_run v lines)) (ask_at p) given) (sym same) (as_of_answers_then_spec v (state_of_run v lines) run.0 (length lines) run.1 later p given)

-- what is asked as of a line that has not come yet
pub as_of_now_spec : AsOfNow
as_of_now_spec v lines n past p given =
    let run = runs_are_sound_spec v lines in
    as_of_answers_then_spec v (state_of_run v lines) run.0 n (later_further (suc (length lines)) (suc n) (omega arith) (state_of_run v lines) run.1) [] p given
