use Rattle.std.proofs.Common.{rules, ◌∙◌, FitsSigned}
use Rattle.std.specs.Int.{int_max, int_min}
use Rattle.std.proofs.lemmas.Int.{to_z-of_z}
use mir.Syntax.{w32}
use Rattle.rp_algebra.specs.Integer.{floor_of, ceiling_of}
use Rattle.rp_space.specs.Boxes.{integer_box}
use Rattle.rp_vertex.proofs.Rounded.{are_read, read_range}
use Rattle.rp_vertex.proofs.bounds.extended.Goals as goal

pub lower-requires-clause-range : goal.lower-requires-clause-range
lower-requires-clause-range c =
    let n = c.numbers-x in
    (read_range n.result.0 n.result.1 n.result.2 n.result.3 c.args.p.now (are_read n.result.0 n.result.1 n.result.2 n.result.3 c.args.p.now n.ensures.numbers n.ensures.small) c.requires).x_range

pub lower-requires-2-clause-range : goal.lower-requires-2-clause-range
lower-requires-2-clause-range c =
    let n = c.numbers-x in
    (read_range n.result.0 n.result.1 n.result.2 n.result.3 c.args.p.now (are_read n.result.0 n.result.1 n.result.2 n.result.3 c.args.p.now n.ensures.numbers n.ensures.small) c.requires).y_range

pub lower-requires-3-clause-range : goal.lower-requires-3-clause-range
lower-requires-3-clause-range c =
    let n = c.numbers-x in
    (read_range n.result.0 n.result.1 n.result.2 n.result.3 c.args.p.now (are_read n.result.0 n.result.1 n.result.2 n.result.3 c.args.p.now n.ensures.numbers n.ensures.small) c.requires).z_range

pub higher-requires-clause-range : goal.higher-requires-clause-range
higher-requires-clause-range c =
    let n = c.numbers-x in
    (read_range n.result.0 n.result.1 n.result.2 n.result.3 c.args.p.now (are_read n.result.0 n.result.1 n.result.2 n.result.3 c.args.p.now n.ensures.numbers n.ensures.small) c.requires).x_range

pub higher-requires-2-clause-range : goal.higher-requires-2-clause-range
higher-requires-2-clause-range c =
    let n = c.numbers-x in
    (read_range n.result.0 n.result.1 n.result.2 n.result.3 c.args.p.now (are_read n.result.0 n.result.1 n.result.2 n.result.3 c.args.p.now n.ensures.numbers n.ensures.small) c.requires).y_range

pub higher-requires-3-clause-range : goal.higher-requires-3-clause-range
higher-requires-3-clause-range c =
    let n = c.numbers-x in
    (read_range n.result.0 n.result.1 n.result.2 n.result.3 c.args.p.now (are_read n.result.0 n.result.1 n.result.2 n.result.3 c.args.p.now n.ensures.numbers n.ensures.small) c.requires).z_range

pub returns : goal.returns
returns c =
    let n = c.numbers-x in
    let r = are_read n.result.0 n.result.1 n.result.2 n.result.3 c.args.p.now n.ensures.numbers n.ensures.small in
    let b = integer_box c.args.others.now in
    let bx1 : FitsSigned w32 b.x1 = search rules in
    let by1 : FitsSigned w32 b.y1 = search rules in
    let bz1 : FitsSigned w32 b.z1 = search rules in
    let bx2 : FitsSigned w32 b.x2 = search rules in
    let by2 : FitsSigned w32 b.y2 = search rules in
    let bz2 : FitsSigned w32 b.z2 = search rules in
    let x1 = to_z-of_z w32 c.lower.result (search rules) ∙ c.lower.ensures ∙ (λ i. int_min (to_z-of_z w32 b.x1 bx1 i) (floor_of (r.x_is i) (r.w_is i))) in
    let y1 = to_z-of_z w32 c.lower-2.result (search rules) ∙ c.lower-2.ensures ∙ (λ i. int_min (to_z-of_z w32 b.y1 by1 i) (floor_of (r.y_is i) (r.w_is i))) in
    let z1 = to_z-of_z w32 c.lower-3.result (search rules) ∙ c.lower-3.ensures ∙ (λ i. int_min (to_z-of_z w32 b.z1 bz1 i) (floor_of (r.z_is i) (r.w_is i))) in
    let x2 = to_z-of_z w32 c.higher.result (search rules) ∙ c.higher.ensures ∙ (λ i. int_max (to_z-of_z w32 b.x2 bx2 i) (ceiling_of (r.x_is i) (r.w_is i))) in
    let y2 = to_z-of_z w32 c.higher-2.result (search rules) ∙ c.higher-2.ensures ∙ (λ i. int_max (to_z-of_z w32 b.y2 by2 i) (ceiling_of (r.y_is i) (r.w_is i))) in
    let z2 = to_z-of_z w32 c.higher-3.result (search rules) ∙ c.higher-3.ensures ∙ (λ i. int_max (to_z-of_z w32 b.z2 bz2 i) (ceiling_of (r.z_is i) (r.w_is i))) in
    λ i. record { x1 = x1 i; y1 = y1 i; z1 = z1 i; x2 = x2 i; y2 = y2 i; z2 = z2 i }
