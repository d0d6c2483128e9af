-- Questions that come in pieces after a script, and the answers to those that are complete.
use Rattle.std.specs.Prelude.{◌≡◌, ℕ, ◌+◌, ◌≤◌, Bool, true, false, ◌||◌, List, [], ◌∷◌, ◌++◌, length, Option, Some, IfSome, option_map}
use Rattle.std.specs.List.{list_any}
use Rattle.rp_book.specs.Lines.{HasEnd, IsEnded}
use Rattle.rp_command.specs.Versions.{version_of}
use Rattle.rp_io.specs.Bytes.{Appends}
use Rattle.rp_io.specs.Faults.{HasRisen}
use Rattle.rp_language.specs.Grammar.{reading}
use Rattle.rp_model.specs.states.Sound.{IsLaterThan}
use Rattle.rp_model.specs.states.State.{opening, state_of_parts}
use Rattle.rp_reports.specs.Machine.{Running, lines_from}
use Rattle.rp_reports.specs.Output.{is_refused_line, most_script_bytes}
use Rattle.rp_reports.specs.Report.{script_body, script_lines, script_version}
use Rattle.rp_reports.specs.Text.{line_end, text_of_lines}
use Rattle.rp_scripts.specs.Lines.{is_line_end}
use Rattle.rp_book_service.specs.Added.{changes, has_change}
use Rattle.rp_book_service.specs.Answered.{Answers, lines_by}
use Rattle.rp_book_service.specs.declared.first.First.{First}
use Rattle.rp_book_service.specs.declared.first.First.TheVariants.{All, Lines}
use Rattle.rp_book_service.specs.declared.session.Session.{Session}
use Rattle.rp_book_service.specs.declared.stop.Stop.{Stop}
use Rattle.rp_book_service.specs.declared.stop.Stop.TheVariants.{Read, Put, Memory, TooLong, Change, Book}

-- no byte of a text ends a line
abbrev pub HasNoEnd : List ℕ → Type 0
HasNoEnd text = list_any is_line_end text ≡ false

-- a text is its complete lines, up to its last line end, and the bytes after them
pub record IsCut (text lines rest : List ℕ) : Type 0 where
  pub whole : text ≡ lines ++ rest
  pub ended : IsEnded lines
  pub unended : HasNoEnd rest

-- the line end that an unfinished line lacks; nothing if no line is unfinished
abbrev pub missing_end : List ℕ → List ℕ
missing_end [] = []
missing_end (b ∷ bs) = line_end ∷ []

-- the bytes of a source, with bytes before them
abbrev pub with_front : List ℕ → Option (List ℕ) → Option (List ℕ)
with_front bytes left = option_map (λ more. bytes ++ more) left

-- the first bytes of a source were read: all of them, or complete lines and the bytes that came after them
abbrev pub IsFirst : Option (List ℕ) → Option (List ℕ) → First → Type 0
IsFirst before after (All bytes) = IfSome before (λ input. input ≡ bytes.items)
IsFirst before after (Lines lines rest) = HasEnd lines.items × HasNoEnd rest.items × IfSome before (λ input. (more : List ℕ) × (after ≡ Some more) × (input ≡ (lines.items ++ rest.items) ++ more))

-- the bytes that were read first are at most as many as a script may have
abbrev pub IsShort : First → Type 0
IsShort (All bytes) = length bytes.items ≤ most_script_bytes
IsShort (Lines lines rest) = length lines.items + length rest.items ≤ most_script_bytes

-- a session reads lines in the version of its machine; the number of its next line is above every birth and every end of a lot; its unfinished line has no line end
pub record IsReady (s : Session) : Type 0 where
  pub version : version_of s.version ≡ s.machine.version
  pub later : IsLaterThan s.next (state_of_parts s.machine.state)
  pub unended : HasNoEnd s.unfinished.items

-- a session has answered a script and no line after the script: the report lines of the script, and then those of any lines that the session answers next, are the report lines of all; the session's mark says whether a line of the report of the script is a refusal
pub record IsBehind (script : List ℕ) (s : Session) : Type 0 where
  pub version : s.machine.version ≡ script_version script
  pub few : s.next ≤ length script + 1
  pub marks : s.refused ≡ list_any is_refused_line (lines_from (script_version script) false opening 1 (script_body script))
  pub goes_on : (more : List (List ℕ)) → lines_from (script_version script) false opening 1 (script_body script) ++ lines_by s.machine false s.next more ≡ lines_from (script_version script) false opening 1 (script_body script ++ more)

-- a session has answered lines, none of which changes which lots there are: their report lines were put, and the session's mark is set if one of them is a refusal
pub record AnswersLines (lines : List ℕ) (before after : Session) (old new : Option (List ℕ)) : Type 0 where
  pub mark : Bool
  pub questions : has_change before.machine.version lines ≡ false
  pub answers : Answers false before.machine before.next lines after.machine after.next old new mark
  pub marks : after.refused ≡ (before.refused || mark)

-- a piece of an input came to a session: all lines that are complete with it have been answered, and the bytes after them are the unfinished line
pub record Replies (piece : List ℕ) (before after : Session) (old new : Option (List ℕ)) : Type 0 where
  pub lines : List ℕ
  pub cut : IsCut (before.unfinished.items ++ piece) lines after.unfinished.items
  pub answers : AnswersLines lines before after old new

-- a machine has answered lines up to one that changes lots: the report lines of the lines before it were put, and none of these lines changes lots
pub record StopsAtChange (machine : Running) (number : ℕ) (lines : List (List ℕ)) (old new : Option (List ℕ)) : Type 0 where
  pub front : List (List ℕ)
  pub line : List ℕ
  pub behind : List (List ℕ)
  pub whole : lines ≡ front ++ line ∷ behind
  pub change : changes (reading machine.version line) ≡ true
  pub questions : list_any (λ l. changes (reading machine.version l)) front ≡ false
  pub put : Appends old new (text_of_lines (lines_by machine false number front))

-- a session has answered the complete lines of a text up to one that changes lots
pub record HasChangeIn (s : Session) (text : List ℕ) (old new : Option (List ℕ)) : Type 0 where
  pub lines : List ℕ
  pub rest : List ℕ
  pub cut : IsCut text lines rest
  pub stop : StopsAtChange s.machine s.next (script_lines lines) old new

-- what was put is the answers to the lines after a script up to one that changes which lots there are: the report lines of the script, and then what was put, are the report lines of the script with the lines before that line
pub record PutsBeforeChange (script lines : List ℕ) (old new : Option (List ℕ)) : Type 0 where
  pub front : List (List ℕ)
  pub line : List ℕ
  pub behind : List (List ℕ)
  pub whole : script_lines lines ≡ front ++ line ∷ behind
  pub change : changes (reading (script_version script) line) ≡ true
  pub questions : list_any (λ l. changes (reading (script_version script) l)) front ≡ false
  pub told : List (List ℕ)
  pub put : Appends old new (text_of_lines told)
  pub answers : lines_from (script_version script) false opening 1 (script_body script) ++ told ≡ lines_from (script_version script) false opening 1 (script_body script ++ front)

-- the statement, if a call stopped at a line that changes lots
abbrev pub IfChange : Stop → Type 0 → Type 0
IfChange Change P = P
IfChange Read P = Unit {0}
IfChange Put P = Unit {0}
IfChange (Memory e) P = Unit {0}
IfChange (TooLong n) P = Unit {0}
IfChange (Book f) P = Unit {0}

-- why the lines of a text were not all answered by a machine: a put failed, or one of them changes lots; nothing is stated if memory ran out
abbrev pub HasAnswerCause : ℕ → ℕ → Running → ℕ → List ℕ → Option (List ℕ) → Option (List ℕ) → Stop → Type 0
HasAnswerCause before after machine number lines old new Put = HasRisen before after
HasAnswerCause before after machine number lines old new (Memory e) = Unit {0}
HasAnswerCause before after machine number lines old new Change = StopsAtChange machine number (script_lines lines) old new
HasAnswerCause before after machine number lines old new Read = ⊥
HasAnswerCause before after machine number lines old new (TooLong n) = ⊥
HasAnswerCause before after machine number lines old new (Book f) = ⊥

-- why the complete lines of a text were not all answered by a session: a put failed, or one of them changes lots; nothing is stated if memory ran out
abbrev pub HasPieceCause : ℕ → ℕ → Session → List ℕ → Option (List ℕ) → Option (List ℕ) → Stop → Type 0
HasPieceCause before after s text old new Put = HasRisen before after
HasPieceCause before after s text old new (Memory e) = Unit {0}
HasPieceCause before after s text old new Change = HasChangeIn s text old new
HasPieceCause before after s text old new Read = ⊥
HasPieceCause before after s text old new (TooLong n) = ⊥
HasPieceCause before after s text old new (Book f) = ⊥
