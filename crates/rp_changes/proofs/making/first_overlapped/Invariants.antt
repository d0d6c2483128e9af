use Rattle.std.proofs.Common.{drop}
use Rattle.rp_model.specs.commands.Register.{first_overlapped}
use Rattle.rp_oracle.proofs.Left.{IsLeft}
use Rattle.rp_proximity.specs.Near.{lots_at}
use Rattle.rp_changes.proofs.making.first_overlapped.Given as goal

-- the lots at the places still to come are left
abbrev pub invariant-loop-place : goal.invariant-loop-place
invariant-loop-place g l =
    let lots = (g.K.Keeper.state l.keeper).lots in
    let ps = g.T.Oracle.parts_of l.form in
    IsLeft l.fn.tests (first_overlapped g.T.Oracle.tester ps (lots_at lots l.places)) l.tests (first_overlapped g.T.Oracle.tester ps (lots_at lots (drop l.place-index l.places)))
