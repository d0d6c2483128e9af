-- The tasks that read an input, and the meaning of a status for their output.
use Rattle.std.specs.Prelude.{◌≡◌, ◌↔◌, ℕ, Bool, true, false, List, ◌++◌, Option, Some, None, Result, Ok, Err}
use Rattle.rp_io.specs.Bytes.{Appends, AppendsPrefix}
use Rattle.rp_io.specs.declared.intake.IntakeFault.{IntakeFault}
use Rattle.rp_io.specs.declared.intake.IntakeFault.TheVariants.{Failed, TooLong, Memory}
use Rattle.rp_reports.specs.Text.{text_of_lines}
use Rattle.rp_reports.specs.Output.{Task as ModelTask, run_script, run_brief, check_report, spell_script, upgrade_script, make_script, try_script, task_of, most_script_bytes, most_report_bytes, IsOutput, IsRefused}
use Rattle.rp_tool.specs.declared.status.TheConstants.{DONE, REFUSED, READ_FAILED, PUT_FAILED, OUT_OF_MEMORY, TOO_LONG}
use Rattle.rp_scripts.specs.declared.fault.OutputFault.{OutputFault}
use Rattle.rp_scripts.specs.declared.fault.OutputFault.TheVariants.{Put, Memory as OutputMemory}

-- the task reads its input
abbrev pub reads_task : ModelTask → Bool
reads_task run_script = true
reads_task run_brief = true
reads_task check_report = true
reads_task spell_script = true
reads_task upgrade_script = true
reads_task (make_script n seed) = false
reads_task (try_script n seed) = false

-- there is a task, and it reads its input
abbrev pub reads_if_listed : Option ModelTask → Bool
reads_if_listed None = false
reads_if_listed (Some t) = reads_task t

-- the words name a task that reads its input
abbrev pub reads_input : List (List ℕ) → Bool
reads_input words = reads_if_listed (task_of words)

-- the most bytes of the input of a task
abbrev pub most_bytes_of : ModelTask → ℕ
most_bytes_of run_script = most_script_bytes
most_bytes_of run_brief = most_script_bytes
most_bytes_of check_report = most_report_bytes
most_bytes_of spell_script = most_script_bytes
most_bytes_of upgrade_script = most_script_bytes
most_bytes_of (make_script n seed) = most_script_bytes
most_bytes_of (try_script n seed) = most_script_bytes

-- the most bytes of the input of a task; of a script if there is no task
abbrev pub most_if_listed : Option ModelTask → ℕ
most_if_listed None = most_script_bytes
most_if_listed (Some t) = most_bytes_of t

-- the most bytes of the input for the words of a command line
abbrev pub most_input_bytes : List (List ℕ) → ℕ
most_input_bytes words = most_if_listed (task_of words)

-- the words name a task, and its whole output on the input was appended to the output of the sink,
-- and the status is 1 iff something was refused
pub record IsOutputOf (words : List (List ℕ)) (input : List ℕ) (old new : Option (List ℕ)) (status : ℕ) : Type 0 where
  pub task : ModelTask
  pub lines : List (List ℕ)
  pub listed : task_of words ≡ Some task
  pub output : IsOutput task input lines
  pub written : Appends old new (text_of_lines lines)
  pub refused : (status ≡ 1) ↔ IsRefused task input lines

-- the words name a task, the bytes of the sink are those before and the text of its whole output, and the status is 1 iff something was refused
pub record HasWritten (words : List (List ℕ)) (input old new : List ℕ) (status : ℕ) : Type 0 where
  pub task : ModelTask
  pub lines : List (List ℕ)
  pub listed : task_of words ≡ Some task
  pub output : IsOutput task input lines
  pub written : new ≡ old ++ text_of_lines lines
  pub refused : (status ≡ 1) ↔ IsRefused task input lines

-- the words name a task, and a prefix of its whole output on the input was appended to the output of the sink
pub record IsFrontOf (words : List (List ℕ)) (input : List ℕ) (old new : Option (List ℕ)) : Type 0 where
  pub task : ModelTask
  pub lines : List (List ℕ)
  pub listed : task_of words ≡ Some task
  pub output : IsOutput task input lines
  pub written : AppendsPrefix old new (text_of_lines lines)

-- the status if the input was not read to its end
abbrev pub status_of_intake : IntakeFault → ℕ
status_of_intake Failed = READ_FAILED
status_of_intake TooLong = TOO_LONG
status_of_intake (Memory e) = OUT_OF_MEMORY

-- the status if an output was not put whole
abbrev pub status_of_fault : OutputFault → ℕ
status_of_fault Put = PUT_FAILED
status_of_fault (OutputMemory e) = OUT_OF_MEMORY

-- the status of an output of a task that refuses nothing
abbrev pub status_of_made : Result (Unit {0}) OutputFault → ℕ
status_of_made (Ok done) = DONE
status_of_made (Err fault) = status_of_fault fault

-- the status of an output: that of a refusal if something was refused
abbrev pub status_of_output : Result Bool OutputFault → ℕ
status_of_output (Ok true) = REFUSED
status_of_output (Ok false) = DONE
status_of_output (Err fault) = status_of_fault fault
