use Rattle.std.proofs.Common.{sym, refl, subst, [], List}
use Rattle.rp_seal.specs.declared.peak.Peak.{Peak}
use Rattle.rp_seal.specs.Tree.{IsTreeOver}
use Rattle.rp_seal.specs.Peaks.{AreSubtrees, subtrees_of}
use Rattle.rp_seal.proofs.tree.CompactTree.new.Goals as goal

pub returns : goal.returns
unfolding IsTreeOver
returns c = subst (λ (v : List Peak). AreSubtrees (subtrees_of v) []) (sym c.new.ensures.items) refl
