use Rattle.std.proofs.Common.{arith, sym, ◌∙◌}
use Rattle.rp_sealed_book.proofs.LogLemmas.{length-leaves, root-take}
use Rattle.rp_sealed_book.proofs.comparison.compare.Goals as goal

pub returns-then-is_equal : goal.returns-then-is_equal
returns-then-is_equal g c = λ log is.
    let count = length-leaves c.args.leaves.now log is in
    (omega (arith, count, c.if-seal-leaves.false), sym (root-take c.args.leaves.now log c.args.seal.now.size is) ∙ sym c.root_by_threads-root.ensures ∙ c.is_equal.ensures.0 c.if-is_equal.true)

pub returns-else-is_equal : goal.returns-else-is_equal
returns-else-is_equal g c = λ log is.
    let count = length-leaves c.args.leaves.now log is in
    (omega (arith, count, c.if-seal-leaves.false), λ same. let yes = c.is_equal.ensures.1 (c.root_by_threads-root.ensures ∙ root-take c.args.leaves.now log c.args.seal.now.size is ∙ same) in absurd (cc))
