use Rattle.std.proofs.Common.{◌≡◌, drop}
use Rattle.rp_changes.proofs.United.{IsUniting}
use Rattle.rp_changes.proofs.joining.united.Given as goal

-- the parts of the ids still to come are not joined yet, and no test is made
abbrev pub invariant-loop-id : goal.invariant-loop-id
invariant-loop-id g l = record {
  uniting : IsUniting (g.K.Keeper.state l.keeper) (g.T.Oracle.parts_of l.form) (drop l.id-index l.ids) l.ids;
  same : l.tests ≡ l.fn.tests;
}
