use Rattle.std.proofs.Common.{◌∙◌}
use Rattle.rp_text.proofs.SliceLemmas.{past_ring, with_ring, with_flat, without}
use Rattle.rp_text.proofs.slice_line.slice.Goals as goal

pub returns-in-Some : goal.returns-in-Some
returns-in-Some c = c.ring.ensures ∙ with_ring c.args.line.now c.in-Some.rest.now c.in-Some.ensures

pub returns-in-Some-behind : goal.returns-in-Some-behind
returns-in-Some-behind c = c.flat.ensures ∙ with_flat c.args.line.now c.in-Some-behind.rest.now (past_ring c.args.line.now c.in_default.ensures) c.in-Some-behind.ensures

pub returns : goal.returns
returns c = without c.args.line.now (past_ring c.args.line.now c.in_default.ensures) c.in_default-behind.ensures
