use Rattle.std.proofs.Common.{rules, ◌∙◌, FitsSigned}
use Rattle.std.proofs.lemmas.Int.{to_z-of_z}
use mir.Syntax.{w32}
use Rattle.rp_algebra.specs.Integer.{floor_of, ceiling_of}
use Rattle.rp_algebra.proofs.Machine.{read_is}
use Rattle.rp_vertex.proofs.Rounded.{are_read, read_range}
use Rattle.rp_vertex.proofs.bounds.box_of_vertex.Goals as goal

pub floor-requires-clause-range : goal.floor-requires-clause-range
floor-requires-clause-range c =
    let n = c.numbers-x in
    (read_range n.result.0 n.result.1 n.result.2 n.result.3 c.args.p.now (are_read n.result.0 n.result.1 n.result.2 n.result.3 c.args.p.now n.ensures.numbers n.ensures.small) c.requires).x_range

pub floor-requires-2-clause-range : goal.floor-requires-2-clause-range
floor-requires-2-clause-range c =
    let n = c.numbers-x in
    (read_range n.result.0 n.result.1 n.result.2 n.result.3 c.args.p.now (are_read n.result.0 n.result.1 n.result.2 n.result.3 c.args.p.now n.ensures.numbers n.ensures.small) c.requires).y_range

pub floor-requires-3-clause-range : goal.floor-requires-3-clause-range
floor-requires-3-clause-range c =
    let n = c.numbers-x in
    (read_range n.result.0 n.result.1 n.result.2 n.result.3 c.args.p.now (are_read n.result.0 n.result.1 n.result.2 n.result.3 c.args.p.now n.ensures.numbers n.ensures.small) c.requires).z_range

pub ceiling-requires-clause-range : goal.ceiling-requires-clause-range
ceiling-requires-clause-range c =
    let n = c.numbers-x in
    (read_range n.result.0 n.result.1 n.result.2 n.result.3 c.args.p.now (are_read n.result.0 n.result.1 n.result.2 n.result.3 c.args.p.now n.ensures.numbers n.ensures.small) c.requires).x_range

pub ceiling-requires-2-clause-range : goal.ceiling-requires-2-clause-range
ceiling-requires-2-clause-range c =
    let n = c.numbers-x in
    (read_range n.result.0 n.result.1 n.result.2 n.result.3 c.args.p.now (are_read n.result.0 n.result.1 n.result.2 n.result.3 c.args.p.now n.ensures.numbers n.ensures.small) c.requires).y_range

pub ceiling-requires-3-clause-range : goal.ceiling-requires-3-clause-range
ceiling-requires-3-clause-range c =
    let n = c.numbers-x in
    (read_range n.result.0 n.result.1 n.result.2 n.result.3 c.args.p.now (are_read n.result.0 n.result.1 n.result.2 n.result.3 c.args.p.now n.ensures.numbers n.ensures.small) c.requires).z_range

pub returns : goal.returns
returns c =
    let n = c.numbers-x in
    let r = are_read n.result.0 n.result.1 n.result.2 n.result.3 c.args.p.now n.ensures.numbers n.ensures.small in
    let fx : FitsSigned w32 c.ceiling.result = search rules in
    let fy : FitsSigned w32 c.ceiling-2.result = search rules in
    let fz : FitsSigned w32 c.ceiling-3.result = search rules in
    let x1 = read_is w32 c.floor.ensures.small tt ∙ c.floor.ensures.value ∙ (λ i. floor_of (r.x_is i) (r.w_is i)) in
    let y1 = read_is w32 c.floor-2.ensures.small tt ∙ c.floor-2.ensures.value ∙ (λ i. floor_of (r.y_is i) (r.w_is i)) in
    let z1 = read_is w32 c.floor-3.ensures.small tt ∙ c.floor-3.ensures.value ∙ (λ i. floor_of (r.z_is i) (r.w_is i)) in
    let x2 = to_z-of_z w32 c.ceiling.result fx ∙ c.ceiling.ensures ∙ (λ i. ceiling_of (r.x_is i) (r.w_is i)) in
    let y2 = to_z-of_z w32 c.ceiling-2.result fy ∙ c.ceiling-2.ensures ∙ (λ i. ceiling_of (r.y_is i) (r.w_is i)) in
    let z2 = to_z-of_z w32 c.ceiling-3.result fz ∙ c.ceiling-3.ensures ∙ (λ i. ceiling_of (r.z_is i) (r.w_is i)) in
    λ i. record { x1 = x1 i; y1 = y1 i; z1 = z1 i; x2 = x2 i; y2 = y2 i; z2 = z2 i }
