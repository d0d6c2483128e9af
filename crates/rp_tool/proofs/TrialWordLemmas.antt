-- Words that name a trial: what was put is counted in the report of the made script, and no other task is named.
use Rattle.std.proofs.Common.{◌≡◌, ℕ, true, false, List, Option, Some, refl, sym, ap, ◌∙◌}
use Rattle.std.proofs.lemmas.Bool.{both_ways}
use Rattle.rp_reports.specs.Output.{Task, run_script, run_brief, check_report, spell_script, upgrade_script, try_script, task_of}
use Rattle.rp_scripts.specs.declared.task.GivenTask.{GivenTask}
use Rattle.rp_scripts.specs.declared.task.GivenTask.TheVariants.{Run, RunBrief, Spell, Upgrade}
use Rattle.rp_scripts.specs.Task.{meaning_of_given}
use Rattle.rp_scripts.specs.TrialReport.{PutsTrial}
use Rattle.rp_scripts.proofs.TrialReportLemmas.{PutsTrial-lines}
use Rattle.rp_tool.specs.Status.{IsOutputOf, reads_task}

-- where words name a task, they name no other one
same_task : (task other : Task) → Some task ≡ Some other → task ≡ other
same_task task other e = cc

-- a task that reads its input is no trial
no_trial : (task : Task) (n seed : ℕ) → Some task ≡ Some (try_script n seed) → reads_task task ≡ true → ⊥
no_trial task n seed e reads =
    let unread : reads_task task ≡ false = ap reads_task (same_task task (try_script n seed) e) in
    both_ways (reads_task task) unread reads

-- what was put for words that name a trial is counted in the report
pub PutsTrial-output : (n seed : ℕ) (words : List (List ℕ)) (input : List ℕ) (old new : Option (List ℕ)) (status : ℕ) → task_of words ≡ Some (try_script n seed) → IsOutputOf words input old new status → PutsTrial n seed old new
PutsTrial-output n seed words input old new status e h = PutsTrial-lines n seed h.task input h.lines old new (same_task h.task (try_script n seed) (sym h.listed ∙ e)) h.output h.written

-- words that name a task on a script that is read name no trial
pub given_no_trial : (t : GivenTask) (n seed : ℕ) (words : List (List ℕ)) → task_of words ≡ Some (meaning_of_given t) → task_of words ≡ Some (try_script n seed) → ⊥
given_no_trial Run n seed words e h = no_trial run_script n seed (sym e ∙ h) refl
given_no_trial RunBrief n seed words e h = no_trial run_brief n seed (sym e ∙ h) refl
given_no_trial Spell n seed words e h = no_trial spell_script n seed (sym e ∙ h) refl
given_no_trial Upgrade n seed words e h = no_trial upgrade_script n seed (sym e ∙ h) refl

-- nor do those that name the check
pub check_no_trial : (n seed : ℕ) (words : List (List ℕ)) → task_of words ≡ Some check_report → task_of words ≡ Some (try_script n seed) → ⊥
check_no_trial n seed words e h = no_trial check_report n seed (sym e ∙ h) refl
