use Rattle.std.proofs.Common.{◌*◌, ◌^◌, arith, to_z}
use mir.Syntax.{w128}
use Rattle.rp_algebra.specs.Within.{IsWithin}
use Rattle.rp_algebra.proofs.Machine.{sum, written, held, fits_by, is_by}
use Rattle.rp_space.specs.FourNumbers.{number_of}
use Rattle.rp_space.proofs.Sums.{sum_more, size_more}
use Rattle.rp_space.proofs.multiples.weighted_sum.Goals as goal

-- the sum of fewer than four multiples
small_sum : (c : goal.After-multiple-sum) → IsWithin (3 * (2 ^ 75 * (3 * 2 ^ 48))) (to_z w128 c.loop-term.sum-bits)
small_sum c = let size = c.loop-term.invariant.small in record { abs_le = omega (arith, size, c.loop-term-test.true, c.requires.few) }

pub overflow_add-sum : goal.overflow_add-sum
overflow_add-sum c = fits_by (sum (held (small_sum c)) (written w128 _ (held c.multiple-sum.ensures.small))) tt

pub loop-term-preserved : goal.loop-term-preserved
loop-term-preserved c =
    let i = c.loop-term.term-index in
    let before = to_z w128 c.loop-term.sum-bits in
    let more = c.multiple-sum in
    let is = is_by (written w128 _ (sum (held (small_sum c)) (written w128 _ (held more.ensures.small)))) tt in
    record {
      whole = rw is (sum_more (number_of c.args.which) c.args.terms.now i c.term-item.result before more.result c.loop-term-test.true c.term-item.is more.ensures.value c.loop-term.invariant.whole);
      small = rw is (size_more (2 ^ 75 * (3 * 2 ^ 48)) i before more.result c.loop-term.invariant.small more.ensures.small);
    }
