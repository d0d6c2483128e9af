-- Machines that answer lines.
use Rattle.std.specs.Prelude.{◌≡◌, ℕ, Bool, false, List, ◌++◌, Option}
use Rattle.std.specs.List.{list_any}
use Rattle.rp_io.specs.Bytes.{Appends}
use Rattle.rp_model.specs.states.State.{opening}
use Rattle.rp_language.specs.Grammar.{Version}
use Rattle.rp_reports.specs.Text.{text_of_lines}
use Rattle.rp_reports.specs.Report.{script_lines}
use Rattle.rp_reports.specs.Machine.{Running, lines_from}
use Rattle.rp_reports.specs.Output.{is_refused_line}

-- the report lines, full or brief, of a machine's answers to lines, of which the first has the number
abbrev pub lines_by : Running → Bool → ℕ → List (List ℕ) → List (List ℕ)
lines_by m brief number lines = lines_from m.version brief m.state number lines

-- a machine has answered a text and goes on, in the same version, with the next number; the report lines, full or brief, were put, and the mark says whether one is a refusal
pub record Answers (brief : Bool) (machine : Running) (number : ℕ) (text : List ℕ) (after : Running) (next : ℕ) (old new : Option (List ℕ)) (mark : Bool) : Type 0 where
  pub put : Appends old new (text_of_lines (lines_by machine brief number (script_lines text)))
  pub marks : mark ≡ list_any is_refused_line (lines_by machine false number (script_lines text))
  pub version : after.version ≡ machine.version
  pub goes_on : (more : List (List ℕ)) → lines_by machine false number (script_lines text) ++ lines_by after false next more ≡ lines_by machine false number (script_lines text ++ more)

-- of a body and the lines behind it, the report lines of those lines were put; the mark says whether one of all is a refusal
pub record AnswersBehind (version : Version) (body lines : List ℕ) (old new : Option (List ℕ)) (mark : Bool) : Type 0 where
  pub told : List (List ℕ)
  pub whole : lines_from version false opening 1 (script_lines body) ++ told ≡ lines_from version false opening 1 (script_lines body ++ script_lines lines)
  pub put : Appends old new (text_of_lines told)
  pub marks : mark ≡ list_any is_refused_line (lines_from version false opening 1 (script_lines body) ++ told)
