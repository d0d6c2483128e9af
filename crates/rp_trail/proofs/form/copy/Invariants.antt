use Rattle.std.proofs.Common.{◌≡◌, take}
use Rattle.rp_trail.proofs.form.copy.Given as goal

-- the parts so far were copied
abbrev pub invariant-loop-part : goal.invariant-loop-part
invariant-loop-part l = l.copied.items ≡ take l.part-index l.part-items
