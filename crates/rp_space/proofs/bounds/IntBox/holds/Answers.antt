use Rattle.std.proofs.Common.{sym, ◌∙◌, ap, pos, get_or, ◌&&◌, rules}
use Rattle.std.specs.Int.RustNames.{FitsSigned}
use mir.Syntax.{w32, w128}
use Rattle.rp_geometry.specs.Geometry.{is_in_box}
use Rattle.rp_geometry.proofs.Boxes.{box_holds}
use Rattle.rp_space.specs.Boxes.{integer_box}
use Rattle.rp_space.proofs.Between.{read_between}
use Rattle.rp_space.proofs.bounds.IntBox.holds.Goals as goal

pub returns-clause-sides : goal.returns-clause-sides
returns-clause-sides c =
    let lo = c.args.self.now.lo in
    let hi = c.args.self.now.hi in
    let n = c.numbers-x.result in
    let x1 : FitsSigned w32 (get_or lo 0 (pos 0)) = search rules in
    let y1 : FitsSigned w32 (get_or lo 1 (pos 0)) = search rules in
    let z1 : FitsSigned w32 (get_or lo 2 (pos 0)) = search rules in
    let x2 : FitsSigned w32 (get_or hi 0 (pos 0)) = search rules in
    let y2 : FitsSigned w32 (get_or hi 1 (pos 0)) = search rules in
    let z2 : FitsSigned w32 (get_or hi 2 (pos 0)) = search rules in
    let x : FitsSigned w128 n.0 = search rules in
    let y : FitsSigned w128 n.1 = search rules in
    let z : FitsSigned w128 n.2 = search rules in
    let w : FitsSigned w128 n.3 = search rules in
    let on_x = c.is_between-on_x.ensures ∙ read_between _ _ n.0 n.3 x1 x2 x w in
    let on_y = c.is_between-on_y.ensures ∙ read_between _ _ n.1 n.3 y1 y2 y w in
    let on_z = c.is_between-on_z.ensures ∙ read_between _ _ n.2 n.3 z1 z2 z w in
    (λ i. (on_x i && on_y i) && on_z i) ∙ ap (is_in_box (integer_box c.args.self.now)) c.numbers-x.ensures.numbers

pub returns-clause-half_spaces : goal.returns-clause-half_spaces
returns-clause-half_spaces c = returns-clause-sides c ∙ sym (box_holds (integer_box c.args.self.now) c.args.p.now)
