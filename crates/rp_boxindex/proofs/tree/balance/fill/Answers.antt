use Rattle.std.proofs.Common.{ℤ, rules, w32, ◌≡◌, ◌+◌, max, ◌∷◌, ◌++◌, ◌∙◌, ap, ap₂}
use Rattle.std.proofs.lemmas.Int.{to_z-of_z}
use mir.Val.{SFits, to_z, of_z}
use Rattle.rp_geometry.specs.Geometry.{IntegerBox}
use Rattle.rp_space.specs.Boxes.{integer_box}
use Rattle.rp_boxindex.specs.Boxes.{Entry}
use Rattle.rp_boxindex.specs.tree.Nodes.{high, AreWithin}
use Rattle.rp_boxindex.specs.declared.tree.Node.{Node}
use Rattle.rp_boxindex.proofs.Hulls.{hull_of_node}
use Rattle.rp_boxindex.proofs.Nodes.{IsTopWith, top_of_node, settled_node}
use Rattle.rp_boxindex.proofs.tree.balance.fill.Goals as goal

pub returns-clause-settled : goal.returns-clause-settled
returns-clause-settled c =
    let e : Entry = c.args.node.now.entry in
    let s : ℤ = c.top_with.result in
    let x : ℤ = c.top_with-node.result in
    let e_fits : SFits w32 (high e) = search rules in
    let s_fits : SFits w32 s = search rules in
    let x_fits : SFits w32 x = search rules in
    let low_given : IsTopWith (to_z w32 (of_z w32 (high e))) s c.args.left.entries = record { above = c.top_with.ensures.above; all = c.top_with.ensures.all; one = c.top_with.ensures.one } in
    let low : IsTopWith (high e) s c.args.left.entries = simp to_z-of_z at low_given in
    let up_given : IsTopWith (to_z w32 (of_z w32 s)) x c.args.right.entries = record { above = c.top_with-node.ensures.above; all = c.top_with-node.ensures.all; one = c.top_with-node.ensures.one } in
    let up : IsTopWith s x c.args.right.entries = simp to_z-of_z at up_given in
    let n : Node = record { left = c.args.left; entry = e; height = c.max.result + 1; top = x; hull = c.hull_with-node.result; right = c.args.right } in
    let first : IntegerBox = integer_box c.hull_with-hull.result in
    let hull : IntegerBox = integer_box c.hull_with-node.result in
    let around : AreWithin hull (c.args.left.entries ++ e ∷ c.args.right.entries) = hull_of_node first hull c.args.left.entries e c.args.right.entries c.hull_with-hull.ensures.first c.hull_with-hull.ensures.all c.hull_with-node.ensures.first c.hull_with-node.ensures.all in
    let height : c.max.result + 1 ≡ max c.args.left.height c.args.right.height + 1 = ap (λ h. h + 1) (c.max.ensures ∙ ap₂ max c.height.ensures.value c.height-2.ensures.value) in
    simp to_z-of_z (settled_node n c.requires.between c.requires.level height (top_of_node s x c.args.left.entries e c.args.right.entries low up) around c.height.ensures.slender c.height-2.ensures.slender)
