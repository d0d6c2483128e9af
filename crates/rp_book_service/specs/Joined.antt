-- A script with the lines of acts, and a book that may take them.
use Rattle.std.specs.Prelude.{◌≡◌, ℕ, ◌≤◌, List, ◌++◌, length, Option, IfSome}
use Rattle.rp_book.specs.Act.{HasActs, Told}
use Rattle.rp_reports.specs.Output.{most_script_bytes}
use Rattle.rp_seal.specs.Act.{ActEntry}
use Rattle.rp_book_service.specs.Replayed.{Continue, IsFirstUnlike, entry_lines}
use Rattle.rp_book_service.specs.declared.replay.Joined.{Joined}
use Rattle.rp_book_service.specs.declared.replay.Joined.TheVariants.{Script, Unlike}

-- entries continue a script with a number of acts, and the text is the script with their lines
pub record IsJoined (script : List ℕ) (count : ℕ) (entries : List ActEntry) (whole : List ℕ) : Type 0 where
  pub whole_is : whole ≡ script ++ entry_lines entries
  pub continues : Continue script count entries
  pub short : length whole ≤ most_script_bytes

-- the script with the lines of entries that continue it, or the number of the first entry that does not
abbrev pub MatchJoined : List ℕ → ℕ → List ActEntry → Joined → Type 0
MatchJoined script count entries (Script whole) = IsJoined script count entries whole.items
MatchJoined script count entries (Unlike number) = IsFirstUnlike script count entries number

-- entries continue the script and the acts of a book, if these are known
pub record MayTake (told : Option (List ℕ)) (listed : Option (List Told)) (entries : List ActEntry) : Type 0 where
  pub script : List ℕ
  pub count : ℕ
  pub is : IfSome told (λ kept. (script ≡ kept) × IfSome listed (λ acts. (count ≡ length acts) × HasActs kept acts))
  pub continues : Continue script count entries
