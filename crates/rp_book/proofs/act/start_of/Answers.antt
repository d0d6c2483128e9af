use Rattle.std.proofs.Common.{arith}
use Rattle.rp_book.proofs.SliceLemmas.{start_at-later}
use Rattle.rp_book.proofs.act.start_of.Goals as goal

pub returns-else-place-eq0 : goal.returns-else-place-eq0
returns-else-place-eq0 c = start_at-later c.args.acts.now c.args.place c.index-acts-place.result (omega (arith, c.if-place-eq0.false)) c.requires
