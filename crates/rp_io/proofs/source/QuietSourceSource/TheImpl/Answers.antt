-- What a read that never fails gives is what the trait promises of a read.
use Rattle.std.proofs.Common.{arith}
use Rattle.std.proofs.lemmas.Grind.{common_steps}
use Rattle.rp_io.proofs.source.QuietSourceSource.TheImpl.Goals as goal

pub read-tells : goal.read-tells
read-tells g c =
    record {
      counts = omega arith;
      limit = omega arith;
      failed = grind (arith, common_steps);
      same = grind (arith, common_steps);
      within = grind (arith, common_steps);
      taken = grind (arith, common_steps);
      end = grind (arith, common_steps);
    }
