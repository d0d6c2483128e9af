-- The contents of a book in memory.
use Rattle.std.specs.Prelude.{◌≡◌, ℕ, ◌+◌, ◌≤◌, List, [], ◌∷◌, ◌++◌, length, map, vec_len, vec_capacity}
use Rattle.rp_reports.specs.Output.{most_script_bytes}
use Rattle.rp_book.specs.Act.{Told, HasActs, act_of}
use Rattle.rp_book.specs.Lines.{IsEnded, last_number}
use Rattle.rp_disk_book.specs.declared.contents.Contents.{Contents}

-- a script with its acts, and the number of its last line
pub record Kept : Type 0 where
  pub script : List ℕ
  pub acts : List Told
  pub lines : ℕ

abbrev pub contents_of : Contents → Kept
contents_of c = record { script = c.script.items; acts = map act_of c.acts.items; lines = c.lines }

-- the acts are those of the script, whose last line has a line end and the given number
pub record IsKept (k : Kept) : Type 0 where
  pub end : IsEnded k.script
  pub short : length k.script ≤ most_script_bytes
  pub last : k.lines ≡ last_number k.script
  pub fits : k.lines ≤ length k.script
  pub acts : HasActs k.script k.acts
  pub few : length k.acts ≤ length k.script

-- the contents with one more act and its lines
abbrev pub with_act : Kept → Told → List ℕ → Kept
with_act k act lines = record { script = k.script ++ lines; acts = k.acts ++ act ∷ []; lines = act.last }

-- there is room for an act with these lines
pub record HasRoom (c : Contents) (lines : List ℕ) : Type 0 where
  pub script : vec_len c.script + length lines ≤ vec_capacity c.script
  pub acts : vec_len c.acts + 1 ≤ vec_capacity c.acts
