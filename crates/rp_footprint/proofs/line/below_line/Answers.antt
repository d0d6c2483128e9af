use Rattle.std.proofs.Common.{rules, ◌≤◌, FitsSigned, sym, ◌∙◌, nat_abs, subst, ap}
use Rattle.std.specs.Result.{result_ok}
use Rattle.std.proofs.lemmas.Int.{to_z-of_z}
use mir.Syntax.{w32, w64}
use Rattle.rp_space.specs.Corners.{polygon_corner}
use Rattle.rp_footprint.proofs.Made.{line_made, small_corners}
use Rattle.rp_footprint.proofs.line.below_line.Goals as goal

pub product-second-requires-clause-v_small : goal.product-second-requires-clause-v_small
product-second-requires-clause-v_small c =
    let fits : FitsSigned w32 c.args.left.x = search rules in
    subst (λ v. nat_abs v ≤ 8388608) (sym (to_z-of_z w32 c.args.left.x fits)) (small_corners (polygon_corner c.args.left) (polygon_corner c.args.right) c.requires).lx

pub returns : goal.returns
returns c =
    let lx : FitsSigned w32 c.args.left.x = search rules in
    let ly : FitsSigned w32 c.args.left.y = search rules in
    let rx : FitsSigned w32 c.args.right.x = search rules in
    let ry : FitsSigned w32 c.args.right.y = search rules in
    let fdx : FitsSigned w64 c.difference-dx.result = search rules in
    let fdy : FitsSigned w64 c.difference-dy.result = search rules in
    let fp : FitsSigned w64 c.product-first.result = search rules in
    let fq : FitsSigned w64 c.product-second.result = search rules in
    let fm : FitsSigned w64 c.opposite.result = search rules in
    let fo : FitsSigned w64 c.offset.result = search rules in
    let dx = simp to_z-of_z at c.difference-dx.ensures.value in
    let dy = simp to_z-of_z at c.difference-dy.ensures.value in
    let p = simp to_z-of_z at c.product-first.ensures.value in
    let q = simp to_z-of_z at c.product-second.ensures.value in
    let m = simp to_z-of_z at c.opposite.ensures in
    let o = simp to_z-of_z at c.offset.ensures in
    let made = simp to_z-of_z at c.new.ensures in
    let line = line_made (polygon_corner c.args.left) (polygon_corner c.args.right) c.requires c.difference-dx.result c.difference-dy.result c.product-first.result c.product-second.result c.opposite.result c.offset.result dx dy p q m o in
    c.ok.ensures.value ∙ ap result_ok (made ∙ line)
