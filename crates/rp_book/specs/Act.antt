-- Acts: lines that were added to a script together.
use Rattle.std.specs.Prelude.{◌≡◌, ℕ, ◌+◌, ◌≤◌, ⊤, List, [], ◌∷◌, ◌++◌, length, map, slice_index, Option, Some, IfSome, option_map, string_bytes}
use Rattle.std.specs.List.{flat_map, slice_range}
use Rattle.rp_book.specs.declared.act.Act.{Act}
use Rattle.rp_book.specs.declared.act.Entry.{Entry}
use Rattle.rp_book.specs.Lines.{HasEnd, first_number, last_number}

-- an act without its lines: the numbers of its first and last line, the bytes of the script up to its end, the time, and by whom and under which deed its lines were added
pub record Told : Type 0 where
  pub first : ℕ
  pub last : ℕ
  pub end : ℕ
  pub added : List ℕ
  pub who : Option (List ℕ)
  pub deed : Option (List ℕ)

abbrev pub act_of : Act → Told
act_of a = record { first = a.first; last = a.last; end = a.end; added = string_bytes a.added; who = option_map string_bytes a.who; deed = option_map string_bytes a.deed }

-- the act of lines with these numbers and this end, added under an entry
abbrev pub act_at : ℕ → ℕ → ℕ → Entry → Told
act_at first last end e = record { first = first; last = last; end = end; added = e.added.now; who = option_map (λ t. t.now) e.who; deed = option_map (λ t. t.now) e.deed }

-- the act of lines added to a script under an entry
abbrev pub added_act : List ℕ → List ℕ → Entry → Told
added_act script lines e = act_at (first_number script lines) (last_number (script ++ lines)) (length (script ++ lines)) e

-- if the acts of a book are known, they were known before, and one act was appended to them
abbrev pub GainsAct : Option (List Told) → Option (List Told) → Told → Type 0
GainsAct old new act = IfSome new (λ after. (before : List Told) × (old ≡ Some before) × (after ≡ before ++ act ∷ []))

-- lines with a line end come after the lines before; the act has their numbers and their end
pub record HasNumbers (before lines : List ℕ) (act : Told) : Type 0 where
  pub ended : HasEnd lines
  pub first : act.first ≡ first_number before lines
  pub last : act.last ≡ last_number (before ++ lines)
  pub end : act.end ≡ length (before ++ lines)

-- acts with the numbers and ends of their lines; the lines of the first act come after the lines before
abbrev pub AreActs : List ℕ → List Told → List (List ℕ) → Type 0
AreActs before [] [] = ⊤
AreActs before [] (lines ∷ more) = ⊥
AreActs before (act ∷ acts) [] = ⊥
AreActs before (act ∷ acts) (lines ∷ more) = HasNumbers before lines act × AreActs (before ++ lines) acts more

-- the lines of the acts, one act after another, are the script
pub record HasActs (script : List ℕ) (acts : List Told) : Type 0 where
  pub lines : List (List ℕ)
  pub whole : script ≡ flat_map (λ ls. ls) lines
  pub numbers : AreActs [] acts lines

-- the acts are in the order of their lines, and the first line has at least this number
abbrev pub AreInOrder : ℕ → List Told → Type 0
AreInOrder least [] = ⊤
AreInOrder least (act ∷ acts) = (least ≤ act.first) × (act.first ≤ act.last) × AreInOrder (act.last + 1) acts

-- the lines of each act; those of the first act begin at byte `start` of the script
abbrev pub lines_from : List ℕ → ℕ → List Told → List (List ℕ)
lines_from script start [] = []
lines_from script start (act ∷ acts) = slice_range script start act.end ∷ lines_from script act.end acts

-- the number of bytes of a script before the lines of the act with this index
abbrev pub start_at : List Told → ℕ → ℕ
start_at acts place = slice_index (0 ∷ map (λ act. act.end) acts) place
