use Rattle.rp_boxindex.proofs.tree.Tree.+with.Given as goal

abbrev pub decreases-with : goal.decreases-with
decreases-with l = l.self.height
