use Rattle.std.proofs.Common.{arith}
use Rattle.std.proofs.lemmas.Int.{ints}
use Rattle.rp_clip.specs.declared.cross.Side.TheVariants.{Above, On, Below}
use Rattle.rp_clip.proofs.Sides.{reduced_side}
use Rattle.rp_clip.proofs.cross.side_of.Goals as goal

pub returns-then-value-gt0 : goal.returns-then-value-gt0
returns-then-value-gt0 c = reduced_side c.args.h.now c.args.p.now c.side-value.result Above c.numbers.ensures.small.positive c.side-value.ensures (omega (arith, ints))

pub returns-then-value-eq0 : goal.returns-then-value-eq0
returns-then-value-eq0 c = reduced_side c.args.h.now c.args.p.now c.side-value.result On c.numbers.ensures.small.positive c.side-value.ensures (omega (arith, ints))

pub returns : goal.returns
returns c = reduced_side c.args.h.now c.args.p.now c.side-value.result Below c.numbers.ensures.small.positive c.side-value.ensures (omega (arith, ints))
