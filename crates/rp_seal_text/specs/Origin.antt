-- The origin of a log, as the first line of a checkpoint has it (C2SP tlog-checkpoint and signed-note).
use Rattle.std.specs.Prelude.{ℕ, Bool, ◌&&◌, List, length, nat_lt, nat_le}
use Rattle.std.specs.List.{list_all}

-- the text may be an origin: it is not empty and has no ASCII control character, and so no line end
abbrev pub is_origin : List ℕ → Bool
is_origin text = nat_lt 0 (length text) && list_all (nat_le 32) text
