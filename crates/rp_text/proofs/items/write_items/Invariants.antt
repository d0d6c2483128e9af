use Rattle.std.proofs.Common.{◌≡◌, ◌++◌, take}
use Rattle.rp_reports.specs.Text.{items_text}
use Rattle.rp_text.proofs.items.write_items.Given as goal

-- the items so far were appended
abbrev pub invariant-loop-item : goal.invariant-loop-item
invariant-loop-item g l = l.out.items ≡ l.fn.out.items ++ items_text g.T.WriteText.text (take l.item-index l.items)
