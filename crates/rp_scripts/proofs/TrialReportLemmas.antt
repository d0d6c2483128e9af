-- The summary of a made script is counted in its report.
use Rattle.std.proofs.Common.{◌≡◌, ℕ, zero, suc, false, List, [], ◌∷◌, length, Option, count_by, refl, sym, ap, ◌∙◌, subst}
use Rattle.std.specs.Prelude.{codes}
use Rattle.std.proofs.lemmas.List.{length-map}
use Rattle.rp_io.specs.Bytes.{Appends}
use Rattle.rp_language.specs.Grammar.{Version, one}
use Rattle.rp_model.specs.states.State.{State, PlainState, opening, live_lots, plain_lot, parts_only}
use Rattle.rp_reports.specs.Machine.{lines_from, report}
use Rattle.rp_reports.specs.Made.{building_lines, made_script, run_from, told_count, trial_of_run, trial_lines}
use Rattle.rp_reports.specs.Output.{Task, try_script, IsOutput, is_refused_line}
use Rattle.rp_reports.specs.Report.{script_mark, report_mark, version_by, marked, script_version, script_body}
use Rattle.rp_reports.specs.Text.{text_of_lines}
use Rattle.rp_reports.specs.laws.RunLaws.{state_of_run}
use Rattle.rp_correctness.proofs.Rows.{first_rows, meets_rule}
use Rattle.rp_states.proofs.Computed.{opening_sound, report_is_computed_spec, step_is_computed_spec}
use Rattle.rp_states.proofs.Plain.{live_same}
use Rattle.rp_states.proofs.Steps.{steps_keep_soundness_spec}
use Rattle.rp_scripts.specs.TrialReport.{is_proof_line, PutsTrial, TellsCounts}
use Rattle.rp_scripts.proofs.MadeTextLemmas.{made_lines_again}
use Rattle.rp_scripts.proofs.MarkLemmas.{body_one}
use Rattle.rp_scripts.proofs.ReportCountLemmas.{RunIsCounted, run_counted}
use Rattle.rp_scripts.proofs.TrialLemmas.{count_refused, count_shown}

-- ---- the version of a made script

-- the first line of a building is no mark
building_one : (n i seed : ℕ) → version_by script_mark (building_lines n i seed) ≡ one
building_one zero i seed = refl
building_one (suc n) i seed = refl

-- a made script is of the first version
made_version : (n seed : ℕ) → one ≡ script_version (text_of_lines (made_script n seed))
unfolding script_version made_script
made_version n seed = sym (ap (version_by script_mark) (made_lines_again n seed) ∙ building_one n 0 seed)

-- so its body is the whole of it
made_body : (n seed : ℕ) → script_body (text_of_lines (made_script n seed)) ≡ made_script n seed
made_body n seed = sym (body_one (text_of_lines (made_script n seed)) (made_version n seed)) ∙ made_lines_again n seed

-- the report of a script of the first version is that of its body
report_one : (script : List ℕ) (lines : List (List ℕ)) → one ≡ script_version script → script_body script ≡ lines → report false script ≡ lines_from one false opening 1 lines
unfolding report
report_one script lines version body = ap (λ (v : Version). marked report_mark v (lines_from v false opening 1 (script_body script))) (sym version) ∙ ap (lines_from one false opening 1) body

-- ---- the summary

-- the counts over a run of lines of the first version from the opening state
opening_counted : (lines : List (List ℕ)) → RunIsCounted opening 1 lines (parts_only (state_of_run one lines))
opening_counted lines = run_counted (step_is_computed_spec meets_rule) (steps_keep_soundness_spec first_rows) lines opening opening_sound 1 (record { births = tt; ends = tt })

-- the live lots of the last state
live_counted : (lines : List (List ℕ)) → length (live_lots (run_from opening 1 lines).state.lots) ≡ length (live_lots (state_of_run one lines).lots)
live_counted lines =
    ap (λ (s : PlainState). length (live_lots s.lots)) (opening_counted lines).ends
    ∙ ap length (live_same (state_of_run one lines).lots) ∙ length-map (live_lots (state_of_run one lines).lots) plain_lot

-- four lines about lines, a report and a state
abbrev told_lines : List (List ℕ) → List (List ℕ) → State → List (List ℕ)
told_lines lines told s =
    told_count (codes "lines") (length lines) ∷ told_count (codes "refused") (count_by is_refused_line told) ∷ told_count (codes "live") (length (live_lots s.lots))
    ∷ told_count (codes "proofs") (count_by is_proof_line told) ∷ []

-- the counts of a run in the lines of the report
run_told : (lines : List (List ℕ)) → trial_of_run lines (run_from opening 1 lines) ≡ told_lines lines (lines_from one false opening 1 lines) (state_of_run one lines)
run_told lines =
    let run = opening_counted lines in
    let refused : count_refused (run_from opening 1 lines) ≡ count_by is_refused_line (lines_from one false opening 1 lines) = sym run.refused in
    let proofs : count_shown (run_from opening 1 lines) ≡ count_by is_proof_line (lines_from one false opening 1 lines) = sym run.proofs in
    let live = live_counted lines in
    λ i. told_count (codes "lines") (length lines) ∷ told_count (codes "refused") (refused i) ∷ told_count (codes "live") (live i) ∷ told_count (codes "proofs") (proofs i) ∷ []

-- the summary of a made script is counted in the report that is computed
made_told : (n seed : ℕ) (script : List ℕ) → one ≡ script_version script → script_body script ≡ made_script n seed
    → trial_lines n seed ≡ told_lines (script_body script) (report false script) (state_of_run (script_version script) (script_body script))
unfolding trial_lines
made_told n seed script version body =
    let lines = made_script n seed in
    run_told lines ∙ ap (λ (told : List (List ℕ)). told_lines lines told (state_of_run one lines)) (sym (report_one script lines version body))
    ∙ ap (λ (v : Version). told_lines lines (report false script) (state_of_run v lines)) version
    ∙ ap (λ (ls : List (List ℕ)). told_lines ls (report false script) (state_of_run (script_version script) ls)) (sym body)

-- and that is the one report of its text
TellsCounts-trial : (n seed : ℕ) → TellsCounts (text_of_lines (made_script n seed)) (trial_lines n seed)
TellsCounts-trial n seed =
    let script = text_of_lines (made_script n seed) in
    let computed = report_is_computed_spec meets_rule first_rows script in
    record {
      report = report false script;
      is_report = (computed (report false script)).0.1 refl;
      is_alone = λ other h. (computed other).0.0 h;
      counts = made_told n seed script (made_version n seed) (made_body n seed);
    }

-- ---- the output

-- where the output is that of a trial, it is counted in the report
pub PutsTrial-lines : (n seed : ℕ) (task : Task) (input : List ℕ) (lines : List (List ℕ)) (old new : Option (List ℕ)) → task ≡ try_script n seed → IsOutput task input lines → Appends old new (text_of_lines lines) → PutsTrial n seed old new
PutsTrial-lines n seed task input lines old new e output text =
    let same : lines ≡ trial_lines n seed = subst (λ (t : Task). IsOutput t input lines) e output in
    record { lines = lines; counts = subst (TellsCounts (text_of_lines (made_script n seed))) (sym same) (TellsCounts-trial n seed); text = text }
