-- The task of the words of a command line, as a task of the model.
use Rattle.std.specs.Prelude.{ℕ}
use Rattle.rp_reports.specs.Output.{Task as ModelTask, run_script, run_brief, check_report, spell_script, upgrade_script, make_script, try_script}
use Rattle.rp_scripts.specs.declared.task.Task.{Task}
use Rattle.rp_scripts.specs.declared.task.Task.TheVariants.{Given, Check, Made}
use Rattle.rp_scripts.specs.declared.task.GivenTask.{GivenTask}
use Rattle.rp_scripts.specs.declared.task.GivenTask.TheVariants.{Run, RunBrief, Spell, Upgrade}
use Rattle.rp_scripts.specs.declared.task.MadeTask.{MadeTask}
use Rattle.rp_scripts.specs.declared.task.MadeTask.TheVariants.{Write, Try}

-- the task of the model for a task with a script to read
abbrev pub meaning_of_given : GivenTask → ModelTask
meaning_of_given Run = run_script
meaning_of_given RunBrief = run_brief
meaning_of_given Spell = spell_script
meaning_of_given Upgrade = upgrade_script

-- the task of the model for a task with the script of a building
abbrev pub meaning_of_made : MadeTask → ℕ → ℕ → ModelTask
meaning_of_made Write n seed = make_script n seed
meaning_of_made Try n seed = try_script n seed

-- the task of the model for a task of the code
abbrev pub meaning_of : Task → ModelTask
meaning_of (Given t) = meaning_of_given t
meaning_of Check = check_report
meaning_of (Made t b) = meaning_of_made t b.storeys b.seed
