-- Why calls stopped.
use Rattle.std.specs.Prelude.{◌≡◌, ◌<◌, ◌+◌, ◌++◌, ℕ, true, List, length, Option, IfSome}
use Rattle.rp_io.specs.Faults.{HasRisen}
use Rattle.rp_io.specs.declared.intake.IntakeFault.{IntakeFault}
use Rattle.rp_io.specs.declared.intake.IntakeFault.TheVariants as input
use Rattle.rp_book.specs.Kept.{HasBookCause}
use Rattle.rp_language.specs.Name.{Label}
use Rattle.rp_reports.specs.Output.{most_script_bytes}
use Rattle.rp_reports.specs.Report.{script_version}
use Rattle.rp_scripts.specs.declared.fault.OutputFault.{OutputFault}
use Rattle.rp_scripts.specs.declared.fault.OutputFault.TheVariants as output
use Rattle.rp_book_service.specs.declared.stop.Length.{Length}
use Rattle.rp_book_service.specs.declared.stop.Length.TheVariants.{Exactly, MoreThan}
use Rattle.rp_book_service.specs.declared.stop.Stop.{Stop}
use Rattle.rp_book_service.specs.declared.stop.Stop.TheVariants.{Read, Put, Memory, TooLong, Change, Book}
use Rattle.rp_book_service.specs.Added.{ended, has_change}
use Rattle.rp_book_service.specs.Layers.{lines_in}

-- the stop of a call for the fault of an output
abbrev pub stop_of_output : OutputFault → Stop
stop_of_output output.Put = Put
stop_of_output (output.Memory e) = Memory e

-- a script with the lines of an input, in a layer if one is named, would have the given length, more than a script may have
abbrev pub HasLength : List ℕ → Option Label → List ℕ → Length → Type 0
HasLength script layer input (Exactly n) = (n ≡ length script + length (lines_in layer (ended input))) × (most_script_bytes < n)
HasLength script layer input (MoreThan n) = (n ≡ length script + most_script_bytes) × (n < length script + length input)

-- the stop of a call for the fault of an input, whose lines come after a script of this many bytes
abbrev pub stop_of_intake : ℕ → IntakeFault → Stop
stop_of_intake bytes input.Failed = Read
stop_of_intake bytes input.TooLong = TooLong (MoreThan (bytes + most_script_bytes))
stop_of_intake bytes (input.Memory e) = Memory e

-- why lines to come after a script were not read: a read failed, or there are too many bytes; nothing is stated if memory ran out
abbrev pub HasInputCause : ℕ → ℕ → List ℕ → Option Label → Option (List ℕ) → Stop → Type 0
HasInputCause before after script layer left Read = HasRisen before after
HasInputCause before after script layer left (Memory e) = Unit {0}
HasInputCause before after script layer left (TooLong n) = IfSome left (λ input. HasLength script layer input n)
HasInputCause before after script layer left Put = ⊥
HasInputCause before after script layer left Change = ⊥
HasInputCause before after script layer left (Book f) = ⊥

-- why answers were not put: a put failed; nothing is stated if memory ran out
abbrev pub HasPutCause : ℕ → ℕ → Stop → Type 0
HasPutCause before after Put = HasRisen before after
HasPutCause before after (Memory e) = Unit {0}
HasPutCause before after _ = ⊥

-- a script with the lines of an input has the given length, more than a script may have; an input that is too long need not be read to its end
abbrev pub IsTooLong : List ℕ → List ℕ → Length → Type 0
IsTooLong script input (Exactly n) = (n ≡ length script + length (ended input)) × (most_script_bytes < n)
IsTooLong script input (MoreThan n) = (n ≡ most_script_bytes) × (n < length script + length (ended input))

-- why the questions of an input after a script were not all answered: a fault of the source or the sink rose in the call, the lines are too long, or one changes lots; nothing is stated if memory ran out
abbrev pub HasAskCause : ℕ → ℕ → ℕ → ℕ → List ℕ → Option (List ℕ) → Stop → Type 0
HasAskCause reads reads_after puts puts_after script left Read = HasRisen reads reads_after
HasAskCause reads reads_after puts puts_after script left Put = HasRisen puts puts_after
HasAskCause reads reads_after puts puts_after script left (Memory e) = Unit {0}
HasAskCause reads reads_after puts puts_after script left (TooLong n) = IfSome left (λ input. IsTooLong script input n)
HasAskCause reads reads_after puts puts_after script left Change = IfSome left (λ input. has_change (script_version (script ++ ended input)) (ended input) ≡ true)
HasAskCause reads reads_after puts puts_after script left (Book f) = ⊥

-- why the first lines of all were not answered: they are too long, a put failed, or a line changes lots; nothing is stated if memory ran out
abbrev pub HasFirstCause : ℕ → ℕ → List ℕ → Stop → Type 0
HasFirstCause before after lines Put = HasRisen before after
HasFirstCause before after lines (Memory e) = Unit {0}
HasFirstCause before after lines (TooLong (Exactly n)) = (n ≡ length lines) × (most_script_bytes < n)
HasFirstCause before after lines (TooLong (MoreThan n)) = ⊥
HasFirstCause before after lines Change = has_change (script_version lines) lines ≡ true
HasFirstCause before after lines Read = ⊥
HasFirstCause before after lines (Book f) = ⊥

-- why one question after a script was not answered: a put failed, or the script with its line would be too long; nothing is stated if memory ran out
abbrev pub HasQuestionCause : ℕ → ℕ → (ℕ → Type 0) → Stop → Type 0
HasQuestionCause before after IsLong Put = HasRisen before after
HasQuestionCause before after IsLong (Memory e) = Unit {0}
HasQuestionCause before after IsLong (TooLong (Exactly n)) = IsLong n × (most_script_bytes < n)
HasQuestionCause before after IsLong (TooLong (MoreThan n)) = ⊥
HasQuestionCause before after IsLong Read = ⊥
HasQuestionCause before after IsLong Change = ⊥
HasQuestionCause before after IsLong (Book f) = ⊥

-- counts of the faults of a source, a sink and a book
pub record Counts : Type 0 where
  pub reads : ℕ
  pub puts : ℕ
  pub book : ℕ

-- why a call stopped, by the counts of faults before and after it, the named layer, the script of the book and the bytes of the source; nothing is stated if memory ran out
abbrev pub HasStopCause : Counts → Counts → Option Label → Option (List ℕ) → Option (List ℕ) → Stop → Type 0
HasStopCause before after layer told left Read = HasRisen before.reads after.reads
HasStopCause before after layer told left Put = HasRisen before.puts after.puts
HasStopCause before after layer told left (Memory e) = Unit {0}
HasStopCause before after layer told left (TooLong n) = IfSome told (λ script. IfSome left (λ input. HasLength script layer input n))
HasStopCause before after layer told left Change = IfSome told (λ script. IfSome left (λ input. has_change (script_version (script ++ ended input)) (ended input) ≡ true))
HasStopCause before after layer told left (Book f) = HasBookCause before.book after.book f

-- the statement, if a call stopped before it used the book, or if the book failed and its count of faults stayed
abbrev pub IfSpared : ℕ → ℕ → Stop → Type 0 → Type 0
IfSpared before after (Book f) P = after ≡ before → P
IfSpared before after Read P = P
IfSpared before after Put P = P
IfSpared before after (Memory e) P = P
IfSpared before after (TooLong n) P = P
IfSpared before after Change P = P
