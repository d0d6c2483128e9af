use Rattle.std.proofs.Common.{arith}
use Rattle.std.proofs.lemmas.Bool.Decides.{nat_tests}
use Rattle.rp_space.proofs.Bits.{two_bits}
use Rattle.rp_space.proofs.places.has_two.Goals as goal

pub returns-then-places-ne0 : goal.returns-then-places-ne0
returns-then-places-ne0 c = λ e i j l a b. two_bits c.args.places i j l a b (grind (arith, nat_tests))
