-- The output for one line of a script, and for a whole script.
use Rattle.std.specs.Prelude.{◌≡◌, ◌↔◌, ℕ, Bool, true, false, IsTrue, List, Option}
use Rattle.std.specs.List.{list_any}
use Rattle.rp_io.specs.Bytes.{Appends, AppendsPrefix}
use Rattle.rp_io.specs.Faults.{HasRisen}
use Rattle.rp_language.specs.Grammar.{Reading}
use Rattle.rp_reports.specs.Output.{Task, run_script, run_brief, IsOutput, IsRefused, is_refused_line, is_bad_reading}
use Rattle.rp_reports.specs.Machine.{Running, step_answer}
use Rattle.rp_reports.specs.Text.{answer_lines, text_of_lines}
use Rattle.rp_scripts.specs.declared.fault.OutputFault.{OutputFault}
use Rattle.rp_scripts.specs.declared.fault.OutputFault.TheVariants.{Put, Memory}

-- the task of a report, full or brief
abbrev pub report_task : Bool → Task
report_task true = run_brief
report_task false = run_script

-- the report lines, full or brief, of the answer of a machine to a line were appended to the output of a sink; the mark says whether one is a refusal
pub record PutsAnswer (brief : Bool) (before : Running) (number : ℕ) (line : List ℕ) (old new : Option (List ℕ)) (refused : Bool) : Type 0 where
  pub text : Appends old new (text_of_lines (answer_lines brief (step_answer before.version before.state number line)))
  pub mark : refused ≡ list_any is_refused_line (answer_lines brief (step_answer before.version before.state number line))

-- the lines for a line with the given reading were appended to the output of a sink; the mark says whether the line is bad
pub record PutsLines (lines : List (List ℕ)) (r : Reading) (old new : Option (List ℕ)) (bad : Bool) : Type 0 where
  pub text : Appends old new (text_of_lines lines)
  pub mark : bad ≡ is_bad_reading r

-- the whole output of a task was appended to the output of a sink; the mark says whether something was refused
pub record PutsOutput (task : Task) (input : List ℕ) (old new : Option (List ℕ)) (refused : Bool) : Type 0 where
  pub lines : List (List ℕ)
  pub output : IsOutput task input lines
  pub text : Appends old new (text_of_lines lines)
  pub mark : IsTrue refused ↔ IsRefused task input lines

-- a prefix of the whole output of a task was appended to the output of a sink
pub record PutsFront (task : Task) (input : List ℕ) (old new : Option (List ℕ)) : Type 0 where
  pub lines : List (List ℕ)
  pub output : IsOutput task input lines
  pub text : AppendsPrefix old new (text_of_lines lines)

-- why an output was not put whole; nothing is stated if memory ran out
abbrev pub HasOutputCause : ℕ → ℕ → OutputFault → Type 0
HasOutputCause before after Put = HasRisen before after
HasOutputCause before after (Memory e) = Unit {0}
