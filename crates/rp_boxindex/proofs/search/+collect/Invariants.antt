use Rattle.rp_boxindex.proofs.search.+collect.Given as goal

abbrev pub decreases-collect : goal.decreases-collect
decreases-collect g l = l.tree.now.height
