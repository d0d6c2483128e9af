use Rattle.std.proofs.Common.{◌≡◌, ◌++◌, take}
use Rattle.rp_text.specs.LineTexts.{lines_text}
use Rattle.rp_text.proofs.items.write_lines.Given as goal

-- the lines so far were appended
abbrev pub invariant-loop-item : goal.invariant-loop-item
invariant-loop-item g l = l.out.items ≡ l.fn.out.items ++ lines_text g.T.WriteText.text (take l.item-index l.items)
