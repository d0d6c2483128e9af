use Rattle.std.proofs.Common.{ℤ, ◌&&◌, ◌||◌, length, sym, ap, ◌∙◌, arith}
use Rattle.std.specs.List.{list_all}
use mir.Syntax.{w32}
use Rattle.rp_algebra.proofs.Machine.{read_is}
use Rattle.rp_geometry.specs.Geometry.{HalfSpace}
use Rattle.rp_geometry.specs.sections.Trace.{has_trace, holds_level, with_sides}
use Rattle.rp_geometry.specs.sections.Ring.{is_step, all_levels_hold}
use Rattle.rp_slice.proofs.Small.{height_within}
use Rattle.rp_cert.proofs.Traced.{small_edges, levels_of_cell}
use Rattle.rp_cert.proofs.Walks.{many_true}
use Rattle.rp_cert.proofs.ring.is_ring.Goals as goal

pub are_turns-requires-clause-small : goal.are_turns-requires-clause-small
are_turns-requires-clause-small c =
    let z = read_is w32 (height_within c.args.z c.requires) tt in
    let all = sym c.if-not-are_steps.false ∙ c.are_steps.ensures ∙ ap (λ (v : ℤ). list_all (is_step v (with_sides c.args.cell.now)) c.args.steps.now) z in
    small_edges c.args.z c.args.cell.now c.args.steps.now c.requires c.keep_bounds.ensures (sym all)

pub returns : goal.returns
returns c =
    let cell = c.args.cell.now in
    let steps = c.args.steps.now in
    let z = read_is w32 (height_within c.args.z c.requires) tt in
    let many = sym (many_true (length steps) (omega (arith, c.if-steps-lt3.false))) in
    let all = sym c.if-not-are_steps.false ∙ c.are_steps.ensures ∙ ap (λ (v : ℤ). list_all (is_step v (with_sides cell)) steps) z in
    let turns = sym c.if-not-are_turns.false ∙ c.are_turns.ensures in
    let rises = sym c.if-not-angles_rise.false ∙ c.angles_rise.ensures in
    c.all_levels_hold.ensures
    ∙ ap (λ (v : ℤ). list_all (λ (h : HalfSpace). has_trace h || holds_level v h) cell) z
    ∙ sym (levels_of_cell c.args.z cell)
    ∙ (λ i. many i && all i && turns i && rises i && all_levels_hold c.args.z (with_sides cell))
