-- Why calls stopped.
use Rattle.std.proofs.Common.{◌≡◌, ℕ, ◌≤◌, true, List, ◌++◌, [], length, Option, Some, IfSome, arith}
use Rattle.rp_io.specs.Faults.{HasRisen}
use Rattle.rp_reports.specs.Machine.{Running}
use Rattle.rp_reports.specs.Report.{script_version}
use Rattle.rp_scripts.specs.declared.fault.OutputFault.{OutputFault}
use Rattle.rp_scripts.specs.declared.fault.OutputFault.TheVariants as output
use Rattle.rp_scripts.specs.Output.{HasOutputCause}
use Rattle.rp_book.specs.Lines.{HasEnd}
use Rattle.rp_reports.specs.Output.{most_script_bytes}
use Rattle.rp_book_service.specs.declared.stop.Length.TheVariants.{Exactly, MoreThan}
use Rattle.rp_book_service.specs.declared.session.Session.{Session}
use Rattle.rp_book_service.specs.declared.stop.Stop.{Stop}
use Rattle.rp_book_service.specs.declared.stop.Stop.TheVariants.{Read, Put, Memory, TooLong, Change, Book}
use Rattle.rp_book_service.specs.Added.{ended, has_change}
use Rattle.rp_book_service.specs.Cause.{HasAskCause, HasFirstCause, IsTooLong, stop_of_output}
use Rattle.rp_book_service.specs.Session.{HasAnswerCause, HasChangeIn, HasPieceCause, IfChange, IsCut, PutsBeforeChange, with_front}
use Rattle.rp_book_service.proofs.SessionLemmas.{TellsChange, from_all, from_first, input_change_after, input_change_first, too_long_after}

-- a count that rose after a later count rose after an earlier one
HasRisen-earlier : (k m n : ℕ) → k ≤ m → HasRisen m n → HasRisen k n
HasRisen-earlier k m n f h = omega (arith, f, h)

-- where no put failed, memory ran out
pub quiet_cause : (k n : ℕ) (f : OutputFault) → HasOutputCause 0 0 f → HasOutputCause k n f
quiet_cause k n output.Put h = absurd (omega (arith, h))
quiet_cause k n (output.Memory e) h = tt

-- a script that was not run stops the answers to an input
pub open_cause : (reads k : ℕ) (script : List ℕ) (left : Option (List ℕ)) (f : OutputFault) → HasOutputCause 0 0 f → HasAskCause reads reads k k script left (stop_of_output f)
open_cause reads k script left output.Put h = absurd (omega (arith, h))
open_cause reads k script left (output.Memory e) h = tt

-- no change was met where a script was not run
pub open_before : (P : Type 0) (f : OutputFault) → IfChange (stop_of_output f) P
open_before P output.Put = tt
open_before P (output.Memory e) = tt

-- an answer that was not put stops the answers to lines
pub answer_cause : (k m n : ℕ) (machine : Running) (number : ℕ) (lines : List ℕ) (old new : Option (List ℕ)) (f : OutputFault) → k ≤ m → HasOutputCause m n f
    → HasAnswerCause k n machine number lines old new (stop_of_output f)
answer_cause k m n machine number lines old new output.Put f h = HasRisen-earlier k m n f h
answer_cause k m n machine number lines old new (output.Memory e) f h = tt

-- what stops the answers to the complete lines of a text
pub piece_cause : (k n : ℕ) (s : Session) (text lines rest : List ℕ) (old new : Option (List ℕ)) (stop : Stop) → IsCut text lines rest
    → HasAnswerCause k n s.machine s.next lines old new stop → HasPieceCause k n s text old new stop
piece_cause k n s text lines rest old new Read cut h = h
piece_cause k n s text lines rest old new Put cut h = h
piece_cause k n s text lines rest old new (Memory e) cut h = tt
piece_cause k n s text lines rest old new (TooLong l) cut h = h
piece_cause k n s text lines rest old new Change cut h = record { lines = lines; rest = rest; cut = cut; stop = h }
piece_cause k n s text lines rest old new (Book f) cut h = h

-- what stops the answers to a piece stops the answers to an input, if a change in the piece is one in the input
pub ask_cause : (reads later k m n : ℕ) (script : List ℕ) (left : Option (List ℕ)) (s : Session) (text : List ℕ) (old middle new : Option (List ℕ)) (stop : Stop) → k ≤ m
    → (HasChangeIn s text middle new → TellsChange script left old new) → HasPieceCause m n s text middle new stop → HasAskCause reads later k n script left stop
ask_cause reads later k m n script left s text old middle new Read f change h = absurd h
ask_cause reads later k m n script left s text old middle new Put f change h = HasRisen-earlier k m n f h
ask_cause reads later k m n script left s text old middle new (Memory e) f change h = tt
ask_cause reads later k m n script left s text old middle new (TooLong l) f change h = absurd h
ask_cause reads later k m n script left s text old middle new Change f change h = (change h).0
ask_cause reads later k m n script left s text old middle new (Book e) f change h = h

-- what was answered before the change
pub ask_before : (m n : ℕ) (script : List ℕ) (left : Option (List ℕ)) (s : Session) (text : List ℕ) (old middle new : Option (List ℕ)) (stop : Stop)
    → (HasChangeIn s text middle new → TellsChange script left old new) → HasPieceCause m n s text middle new stop → IfChange stop (IfSome left (λ input. PutsBeforeChange script (ended input) old new))
ask_before m n script left s text old middle new Read change h = tt
ask_before m n script left s text old middle new Put change h = tt
ask_before m n script left s text old middle new (Memory e) change h = tt
ask_before m n script left s text old middle new (TooLong l) change h = tt
ask_before m n script left s text old middle new Change change h = (change h).1
ask_before m n script left s text old middle new (Book e) change h = tt

-- what stops the answers to the first lines of an input stops those to the input
pub first_cause : (reads k n : ℕ) (lines rest : List ℕ) (left : Option (List ℕ)) (stop : Stop) → HasEnd lines → length lines ≤ most_script_bytes
    → HasFirstCause k n lines stop → HasAskCause reads reads k n [] (with_front (lines ++ rest) left) stop
first_cause reads k n lines rest left Read ends short h = absurd h
first_cause reads k n lines rest left Put ends short h = h
first_cause reads k n lines rest left (Memory e) ends short h = tt
first_cause reads k n lines rest left (TooLong (Exactly l)) ends short h = absurd (omega (arith, h.0, h.1, short))
first_cause reads k n lines rest left (TooLong (MoreThan l)) ends short h = absurd h
first_cause reads k n lines rest left Change ends short h = input_change_first lines rest left ends h
first_cause reads k n lines rest left (Book f) ends short h = h

-- what stops the answers to the lines after them
pub after_cause : (reads later k m n : ℕ) (lines rest : List ℕ) (left : Option (List ℕ)) (stop : Stop) → HasEnd lines → k ≤ m
    → HasAskCause reads later m n lines (with_front rest left) stop → HasAskCause reads later k n [] (with_front (lines ++ rest) left) stop
after_cause reads later k m n lines rest left Read ends f h = h
after_cause reads later k m n lines rest left Put ends f h = HasRisen-earlier k m n f h
after_cause reads later k m n lines rest left (Memory e) ends f h = tt
after_cause reads later k m n lines rest left (TooLong l) ends f h = too_long_after lines rest left l ends h
after_cause reads later k m n lines rest left Change ends f h = input_change_after lines rest left ends h
after_cause reads later k m n lines rest left (Book e) ends f h = h

-- what stops the answers to all lines of a source
pub whole_cause : (reads later k n : ℕ) (bytes : List ℕ) (left : Option (List ℕ)) (stop : Stop) → IfSome left (λ input. input ≡ bytes) → HasFirstCause k n (ended bytes) stop → HasAskCause reads later k n [] left stop
whole_cause reads later k n bytes left Read is h = absurd h
whole_cause reads later k n bytes left Put is h = h
whole_cause reads later k n bytes left (Memory e) is h = tt
whole_cause reads later k n bytes left (TooLong (Exactly l)) is h = from_all (λ input. IsTooLong [] input (Exactly l)) bytes left is (omega (arith, h.0), h.1)
whole_cause reads later k n bytes left (TooLong (MoreThan l)) is h = absurd h
whole_cause reads later k n bytes left Change is h = from_all (λ input. has_change (script_version (ended input)) (ended input) ≡ true) bytes left is h
whole_cause reads later k n bytes left (Book f) is h = h

-- what stops a call that goes on with what was read first
pub later_cause : (reads middle later k n : ℕ) (bytes : List ℕ) (before after : Option (List ℕ)) (stop : Stop) → reads ≤ middle
    → IfSome before (λ input. (more : List ℕ) × (after ≡ Some more) × (input ≡ bytes ++ more))
    → HasAskCause middle later k n [] (with_front bytes after) stop → HasAskCause reads later k n [] before stop
later_cause reads middle later k n bytes before after Read f is h = HasRisen-earlier reads middle later f h
later_cause reads middle later k n bytes before after Put f is h = h
later_cause reads middle later k n bytes before after (Memory e) f is h = tt
later_cause reads middle later k n bytes before after (TooLong l) f is h = from_first (λ input. IsTooLong [] input l) bytes before after is h
later_cause reads middle later k n bytes before after Change f is h = from_first (λ input. has_change (script_version (ended input)) (ended input) ≡ true) bytes before after is h
later_cause reads middle later k n bytes before after (Book e) f is h = h
