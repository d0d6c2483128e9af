-- Acts of another book, taken into a book.
use Rattle.std.specs.Prelude.{◌≡◌, ◌⊎◌, ℕ, ◌+◌, ◌≤◌, ⊤, Bool, List, [], ◌∷◌, ◌++◌, flat_map, length, take, Option, Some, IfSome, IsTrue}
use Rattle.rp_book.specs.Act.{Told}
use Rattle.rp_book.specs.Kept.{Recoverable}
use Rattle.rp_book.specs.Lines.{HasEnd, first_number, last_number}
use Rattle.rp_reports.specs.Output.{most_script_bytes}
use Rattle.rp_seal.specs.Act.{ActEntry}
use Rattle.rp_sealed_book.specs.Log.{log_of}
use Rattle.rp_book_service.specs.declared.replay.Replayed.{Replayed}
use Rattle.rp_book_service.specs.declared.replay.Replayed.TheVariants.{Whole, Refused, Unlike}

-- the lines of entries, one entry after another
abbrev pub entry_lines : List ActEntry → List ℕ
entry_lines entries = flat_map (λ e. e.lines) entries

-- an entry can come after a script with `count` acts: it has the next number, its last line has a line end, its lines have the numbers of the report, and the script with them is not too long
pub record IsNext (script : List ℕ) (count : ℕ) (e : ActEntry) : Type 0 where
  pub number : e.number ≡ count + 1
  pub ended : HasEnd e.lines
  pub first : e.first ≡ first_number script e.lines
  pub last : e.last ≡ last_number (script ++ e.lines)
  pub short : length script + length e.lines ≤ most_script_bytes

-- entries continue a script with `count` acts: each can come after the script and the entries before it
abbrev pub Continue : List ℕ → ℕ → List ActEntry → Type 0
Continue script count [] = ⊤
Continue script count (e ∷ entries) = IsNext script count e × Continue (script ++ e.lines) (count + 1) entries

-- the number is that of the first entry that cannot come after the script and the entries before it
abbrev pub IsFirstUnlike : List ℕ → ℕ → List ActEntry → ℕ → Type 0
IsFirstUnlike script count [] number = ⊥
IsFirstUnlike script count (e ∷ entries) number = ((¬ IsNext script count e) × (e.number ≡ number)) ⊎ (IsNext script count e × IsFirstUnlike (script ++ e.lines) (count + 1) entries number)

-- the script and the acts of a book were known before, and entries were appended to its log
pub record LogGrew (told : Option (List ℕ)) (listed : Option (List Told)) (script : List ℕ) (acts : List Told) (entries : List ActEntry) : Type 0 where
  pub script_before : List ℕ
  pub acts_before : List Told
  pub was_told : told ≡ Some script_before
  pub was_listed : listed ≡ Some acts_before
  pub log : log_of script acts ≡ log_of script_before acts_before ++ entries

-- if the script and the acts of a book are known, entries were appended to its log
abbrev pub GainsEntries : Option (List ℕ) → Option (List Told) → Option (List ℕ) → Option (List Told) → List ActEntry → Type 0
GainsEntries told_old listed_old told_new listed_new entries = IfSome told_new (λ script. IfSome listed_new (λ acts. LogGrew told_old listed_old script acts entries))

-- a test that all scripts passed, and that the script passes with the lines of a beginning of entries after it, whichever beginning that is, they pass still: a beginning of the entries is found, or what was found before
abbrev pub RecoversBeginning : Recoverable → Recoverable → Option (List ℕ) → List ActEntry → Type 0
RecoversBeginning old new told entries = (test : List ℕ → Bool) → old test → IfSome told (λ script. (n : ℕ) → IsTrue (test (script ++ entry_lines (take n entries)))) → new test

-- the first statement if all acts were added; the second if a line is refused; the third, of the number of an act, if this act does not continue the book
abbrev pub MatchReplayed : Replayed → Type 0 → Type 0 → (ℕ → Type 0) → Type 0
MatchReplayed Whole P Q R = P
MatchReplayed Refused P Q R = Q
MatchReplayed (Unlike number) P Q R = R number
