use Rattle.std.proofs.Common.{sym, ◌∙◌}
use Rattle.rp_seal.specs.Tree.{IsTreeOver}
use Rattle.rp_seal.proofs.Subtrees.{subtrees-length}
use Rattle.rp_seal.proofs.tree.CompactTree.size.Goals as goal

pub returns-clause-count : goal.returns-clause-count
unfolding IsTreeOver
returns-clause-count c = λ hashes holds. sym (subtrees-length c.args.self.now.peaks.items hashes holds ∙ c.args.self.now.counted)
