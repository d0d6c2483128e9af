-- The log of a book: the acts that its seals cover.
use Rattle.std.specs.Prelude.{ℕ, zero, suc, ◌+◌, List, [], ◌∷◌, length, map, Option, None, slice_get}
use Rattle.std.specs.List.{slice_range}
use Rattle.rp_book.specs.Act.{Told}
use Rattle.rp_seal.specs.Act.{ActEntry, act_bytes}
use Rattle.rp_seal.specs.Merkle.{leaf_hash, tree_hash}
use Rattle.rp_seal_text.specs.Checkpoint.{Fields}

-- the entry of an act with a number and lines
abbrev pub entry_at : ℕ → List ℕ → Told → ActEntry
entry_at number lines act = record { number = number; first = act.first; last = act.last; added = act.added; who = act.who; deed = act.deed; lines = lines }

-- the byte at which the lines after the given acts begin, if the lines of the first act begin at byte `start`
abbrev pub start_after : ℕ → List Told → ℕ
start_after start [] = start
start_after start (act ∷ acts) = start_after act.end acts

-- the entries of the acts of a script; the first act has the given number, and its lines begin at byte `start`
abbrev pub entries_from : List ℕ → ℕ → ℕ → List Told → List ActEntry
entries_from script number start [] = []
entries_from script number start (act ∷ acts) = entry_at number (slice_range script start act.end) act ∷ entries_from script (number + 1) act.end acts

-- the log of a book: its acts in order, numbered from 1, with their lines
abbrev pub log_of : List ℕ → List Told → List ActEntry
log_of script acts = entries_from script 1 0 acts

-- the leaf hash of each entry
abbrev pub leaves_of : List ActEntry → List (List ℕ)
leaves_of log = map leaf_hash (map act_bytes log)

-- the root hash of a log
abbrev pub log_root : List ActEntry → List ℕ
log_root log = tree_hash (map act_bytes log)

-- the checkpoint of a log under an origin
abbrev pub checkpoint_of : List ℕ → List ActEntry → Fields
checkpoint_of origin log = record { origin = origin; size = length log; root = log_root log }

-- the entry with a number, counted from 1
abbrev pub entry_numbered : List ActEntry → ℕ → Option ActEntry
entry_numbered log zero = None
entry_numbered log (suc place) = slice_get log place
