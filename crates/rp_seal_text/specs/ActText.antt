-- The text of an act.
use Rattle.std.specs.Prelude.{ℕ, List, ◌++◌, IfSome, IsUtf8, codes}
use Rattle.rp_seal.specs.Act.{ActEntry, IsEncodable}
use Rattle.rp_seal_text.specs.Fields.{number_line, text_field, option_field}

-- the text of an act: its three numbers, when it was added, by whom and under which deed, and its lines
abbrev pub act_text : ActEntry → List ℕ
act_text a = number_line (codes "act") a.number ++ (number_line (codes "first") a.first ++ (number_line (codes "last") a.last
    ++ (text_field (codes "added") a.added ++ (option_field (codes "who") a.who ++ (option_field (codes "deed") a.deed
    ++ text_field (codes "lines") a.lines)))))

-- the numbers and lengths fit those of an act in memory, and all but the lines is UTF-8
pub record IsActText (a : ActEntry) : Type 0 where
  pub encodable : IsEncodable a
  pub added : IsUtf8 a.added
  pub who : IfSome a.who IsUtf8
  pub deed : IfSome a.deed IsUtf8

-- the first line of a stream of acts
abbrev pub acts_mark : List ℕ
acts_mark = codes "rpstore acts 1\n"

-- the last line of a stream of acts: the number of acts
abbrev pub end_line : ℕ → List ℕ
end_line count = number_line (codes "end") count
