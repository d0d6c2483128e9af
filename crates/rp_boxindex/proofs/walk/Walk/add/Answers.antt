use Rattle.std.proofs.Common.{◌++◌, sym, ap, ◌∙◌}
use Rattle.rp_boxindex.specs.cells.Walks.{tree_entries, pending_entries}
use Rattle.rp_boxindex.specs.declared.walk.Pending.{Pending}
use Rattle.rp_boxindex.proofs.Walks.{pending-push}
use Rattle.rp_boxindex.proofs.walk.Walk.add.Goals as goal

pub returns-in-Ok-clause-pending : goal.returns-in-Ok-clause-pending
returns-in-Ok-clause-pending g c = λ _. ap tree_entries c.in-Ok.ensures.ok ∙ (pending-push c.in-Trees.trees.items c.args.cells ∙ ap (λ (p : Pending). c.args.cells.now.entries ++ pending_entries p) (sym c.in-Trees.is))
