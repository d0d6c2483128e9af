use Rattle.std.proofs.Common.{◌*◌, ◌≡◌, arith, subst, sym}
use Rattle.rp_seal.specs.Merkle.{IsPowerOfTwo}
use Rattle.rp_seal.proofs.Splits.{power-double, split-only}
use Rattle.rp_seal.proofs.hashing.split_point.Goals as goal

pub loop-left_size-preserved : goal.loop-left_size-preserved
loop-left_size-preserved c =
    let twice : 2 * c.loop-left_size.left_size ≡ c.loop-left_size.left_size * 2 = omega arith in
    (subst IsPowerOfTwo twice (power-double c.loop-left_size.left_size c.loop-left_size.invariant.0), omega arith, omega arith)

pub returns-clause-value : goal.returns-clause-value
returns-clause-value c = sym (split-only c.args.size c.loop-left_size.left_size (record { power = c.loop-left_size.invariant.0; below = c.loop-left_size.invariant.2; largest = omega arith }))
