-- The text of a stream of acts.
use Rattle.std.specs.Prelude.{ℕ, List, ◌++◌, flat_map, length}
use Rattle.rp_seal.specs.Act.{ActEntry}
use Rattle.rp_seal_text.specs.ActText.{act_text, acts_mark, end_line}

-- the text of a stream of acts: its mark, the acts in order, and a last line with their number
abbrev pub acts_text : List ActEntry → List ℕ
acts_text log = acts_mark ++ (flat_map act_text log ++ end_line (length log))
