use Rattle.std.proofs.Common.{◌≡◌, true, sym, subst}
use Rattle.rp_geometry.specs.Geometry.{IntegerBox}
use Rattle.rp_space.specs.Boxes.{integer_box}
use Rattle.rp_boxindex.specs.tree.Nodes.{is_within, AreWithin}
use Rattle.rp_boxindex.proofs.Hulls.{union_first, union_second, are_within_further}
use Rattle.rp_boxindex.proofs.cells.change.hull_with.Goals as goal

pub returns-in-Some-clause-first : goal.returns-in-Some-clause-first
returns-in-Some-clause-first c =
    let b : IntegerBox = integer_box c.args.hull.now in
    let e : IntegerBox = integer_box c.in-Some.other in
    subst (λ (u : IntegerBox). is_within u b ≡ true) (sym c.union.ensures) (union_first b e)

pub returns-in-Some-clause-all : goal.returns-in-Some-clause-all
returns-in-Some-clause-all c =
    let b : IntegerBox = integer_box c.args.hull.now in
    let e : IntegerBox = integer_box c.in-Some.other in
    subst (λ (u : IntegerBox). AreWithin u c.args.cells.now.entries) (sym c.union.ensures) (are_within_further _ e c.args.cells.now.entries (union_second b e) c.in-Some.ensures)
