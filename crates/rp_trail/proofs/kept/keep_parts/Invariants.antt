use Rattle.std.proofs.Common.{take}
use Rattle.rp_trail.proofs.Followed.{AreChecked}
use Rattle.rp_trail.proofs.kept.keep_parts.Given as goal

abbrev pub invariant-loop-part : goal.invariant-loop-part
invariant-loop-part l = AreChecked (take l.part-index l.parts)
