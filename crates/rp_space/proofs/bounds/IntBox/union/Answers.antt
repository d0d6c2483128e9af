use Rattle.std.proofs.Common.{rules, FitsSigned}
use mir.Syntax.{w32}
use Rattle.rp_space.specs.Boxes.{integer_box}
use Rattle.rp_space.proofs.Compared.{lesser_is, greater_is}
use Rattle.rp_space.proofs.bounds.IntBox.union.Goals as goal

pub returns : goal.returns
returns c =
    let b = integer_box c.args.self.now in
    let e = integer_box c.args.other.now in
    let bx1 : FitsSigned w32 b.x1 = search rules in
    let by1 : FitsSigned w32 b.y1 = search rules in
    let bz1 : FitsSigned w32 b.z1 = search rules in
    let bx2 : FitsSigned w32 b.x2 = search rules in
    let by2 : FitsSigned w32 b.y2 = search rules in
    let bz2 : FitsSigned w32 b.z2 = search rules in
    let ex1 : FitsSigned w32 e.x1 = search rules in
    let ey1 : FitsSigned w32 e.y1 = search rules in
    let ez1 : FitsSigned w32 e.z1 = search rules in
    let ex2 : FitsSigned w32 e.x2 = search rules in
    let ey2 : FitsSigned w32 e.y2 = search rules in
    let ez2 : FitsSigned w32 e.z2 = search rules in
    let x1 = lesser_is c.min.result b.x1 e.x1 (search rules) bx1 ex1 c.min.ensures.value in
    let y1 = lesser_is c.min-2.result b.y1 e.y1 (search rules) by1 ey1 c.min-2.ensures.value in
    let z1 = lesser_is c.min-3.result b.z1 e.z1 (search rules) bz1 ez1 c.min-3.ensures.value in
    let x2 = greater_is c.max.result b.x2 e.x2 (search rules) bx2 ex2 c.max.ensures.value in
    let y2 = greater_is c.max-2.result b.y2 e.y2 (search rules) by2 ey2 c.max-2.ensures.value in
    let z2 = greater_is c.max-3.result b.z2 e.z2 (search rules) bz2 ez2 c.max-3.ensures.value in
    λ i. record { x1 = x1 i; y1 = y1 i; z1 = z1 i; x2 = x2 i; y2 = y2 i; z2 = z2 i }
