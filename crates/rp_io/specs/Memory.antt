-- Sources and sinks in memory, as contracts see them.
use Rattle.std.specs.Prelude.{ℕ, ◌-◌, ◌==◌, Bool, min, List, length, Contains, find, Option, option_map}
use Rattle.std.specs.Option.{option_map_or}
use Rattle.rp_io.specs.Faults.{next_count}

-- a source in memory
pub record MemoryInput : Type 0 where
  -- the bytes still to come
  pub left : List ℕ
  -- the most bytes that one read gives
  pub step : ℕ
  -- the numbers of the reads that fail, from 1
  pub failing : List ℕ
  -- how many reads there were
  pub calls : ℕ
  -- how many of them failed
  pub faults : ℕ

-- the next read is one of those that fail
abbrev pub IsListed : MemoryInput → Type 0
IsListed input = Contains input.failing (next_count input.calls)

-- the number of bytes that the next read gives to a buffer of this length, if it does not fail
abbrev pub read_count : MemoryInput → ℕ → ℕ
read_count input room = min input.step (min room (length input.left))

-- a sink in memory
pub record MemoryOutput : Type 0 where
  -- the bytes so far
  pub bytes : List ℕ
  -- the most bytes that it holds
  pub room : ℕ
  -- the puts that fail: the number of each, from 1, and the most bytes that it appends
  pub failing : List (ℕ × ℕ)
  -- how many puts there were
  pub calls : ℕ
  -- how many of them failed
  pub faults : ℕ

-- the value of the first entry for the call, if there is one
abbrev pub entry_of : ℕ → List (ℕ × ℕ) → Option ℕ
entry_of call entries = option_map (λ entry. entry.1) (find (λ entry. entry.0 == call) entries)

-- the value of the first entry for the next put, if there is one
abbrev pub next_entry : MemoryOutput → Option ℕ
next_entry output = entry_of (next_count output.calls) output.failing

-- the number of bytes of a piece of this length that fit
abbrev pub fitting_count : MemoryOutput → ℕ → ℕ
fitting_count output len = min len (output.room - length output.bytes)

-- the number of bytes of a piece of this length that the next put appends
abbrev pub put_count : MemoryOutput → ℕ → ℕ
put_count output len =
    let fitting = fitting_count output len in option_map_or (λ most. min most fitting) (next_entry output) fitting

-- a sink that stores what fits and never fails
pub record QuietOutput : Type 0 where
  -- the bytes kept
  pub bytes : List ℕ
  -- the most bytes that it keeps
  pub room : ℕ
  -- whether more bytes came than it keeps
  pub is_passed : Bool
