use Rattle.std.proofs.Common.{pos, get_or, ◌&&◌, rules}
use Rattle.std.specs.Int.RustNames.{FitsSigned}
use mir.Syntax.{w32}
use Rattle.rp_space.proofs.Compared.{read_at_most}
use Rattle.rp_space.proofs.bounds.IntBox.meets_closed.Goals as goal

pub returns : goal.returns
returns c =
    let b = c.args.self.now in
    let e = c.args.other.now in
    let x1 : FitsSigned w32 (get_or b.lo 0 (pos 0)) = search rules in
    let y1 : FitsSigned w32 (get_or b.lo 1 (pos 0)) = search rules in
    let z1 : FitsSigned w32 (get_or b.lo 2 (pos 0)) = search rules in
    let x2 : FitsSigned w32 (get_or b.hi 0 (pos 0)) = search rules in
    let y2 : FitsSigned w32 (get_or b.hi 1 (pos 0)) = search rules in
    let z2 : FitsSigned w32 (get_or b.hi 2 (pos 0)) = search rules in
    let u1 : FitsSigned w32 (get_or e.lo 0 (pos 0)) = search rules in
    let v1 : FitsSigned w32 (get_or e.lo 1 (pos 0)) = search rules in
    let w1 : FitsSigned w32 (get_or e.lo 2 (pos 0)) = search rules in
    let u2 : FitsSigned w32 (get_or e.hi 0 (pos 0)) = search rules in
    let v2 : FitsSigned w32 (get_or e.hi 1 (pos 0)) = search rules in
    let w2 : FitsSigned w32 (get_or e.hi 2 (pos 0)) = search rules in
    λ i. read_at_most _ _ x1 u2 i && read_at_most _ _ u1 x2 i && read_at_most _ _ y1 v2 i && read_at_most _ _ v1 y2 i && read_at_most _ _ z1 w2 i && read_at_most _ _ w1 z2 i
