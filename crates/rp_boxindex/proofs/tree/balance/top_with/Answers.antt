use Rattle.std.proofs.Common.{ℤ, rules, w32, ◌≡◌, true, int_lt}
use Rattle.std.proofs.lemmas.Int.{to_z-of_z}
use mir.Val.{SFits}
use Rattle.rp_boxindex.proofs.Nodes.{none_higher}
use Rattle.rp_boxindex.proofs.Ints.{lt_is_le}
use Rattle.rp_boxindex.proofs.tree.balance.top_with.Goals as goal

pub returns-then-x-top-clause-all : goal.returns-then-x-top-clause-all
returns-then-x-top-clause-all c =
    let x : ℤ = c.in-Some.x in
    let top : ℤ = c.args.top in
    let x_fits : SFits w32 x = search rules in
    let top_fits : SFits w32 top = search rules in
    let less : int_lt x top ≡ true = simp to_z-of_z at c.if-x-top.true in
    simp to_z-of_z (none_higher x top c.args.tree.now.entries (lt_is_le x top less) c.in-Some.ensures.0)
