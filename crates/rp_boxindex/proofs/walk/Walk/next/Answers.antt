use Rattle.std.proofs.Common.{sym, ap, ◌∙◌}
use Rattle.rp_boxindex.specs.cells.Walks.{tree_entries, pending_entries}
use Rattle.rp_boxindex.proofs.Walks.{pending-push, pending-none}
use Rattle.rp_boxindex.proofs.walk.Walk.next.Goals as goal

pub returns-in-Some-Some-clause-pending : goal.returns-in-Some-Some-clause-pending
returns-in-Some-Some-clause-pending g c =
    let items = rw c.in-Some-Some.field-0-is at c.in-Some-Some.ensures.items in
    ap pending_entries c.in-Trees.is ∙ (ap tree_entries items ∙ pending-push c.pop.new.self.items c.in-Some-Some.cells)

pub returns-in-Some-None-clause-pending : goal.returns-in-Some-None-clause-pending
returns-in-Some-None-clause-pending g c =
    let items = rw c.in-Some-None.field-0-is at c.in-Some-None.ensures.items in
    sym (ap pending_entries c.in-Trees.is ∙ (ap tree_entries items ∙ pending-none c.pop.new.self.items))
