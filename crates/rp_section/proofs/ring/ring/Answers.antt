use Rattle.std.proofs.Common.{ℤ, ap, ◌∙◌}
use mir.Syntax.{w32}
use Rattle.rp_algebra.proofs.Machine.{read_is}
use Rattle.rp_geometry.specs.sections.Trace.{with_sides}
use Rattle.rp_geometry.specs.laws.SectionLaws.{level_plane}
use Rattle.rp_slice.proofs.Small.{height_within}
use Rattle.rp_section.specs.Sides.{sides_of, bounds_of, side_steps}
use Rattle.rp_section.proofs.Rounds.{steps_are_ring}
use Rattle.rp_section.proofs.ring.ring.Goals as goal

pub returns : goal.returns
returns c = λ steps e.
    let z = read_is w32 (height_within c.args.z c.requires.height) tt in
    let cell = c.args.cell.now in
    let level = c.level_plane-level.ensures ∙ ap level_plane z in
    let sides = c.as_slice.ensures.value ∙ c.sides_of-sides.ensures ∙ ap (λ (v : ℤ). sides_of v (with_sides cell)) z in
    let bounds = c.as_slice-2.ensures.value ∙ c.bounds_of-bounds.ensures ∙ (λ i. bounds_of (level i) (sides i) (sides i)) in
    let o = c.steps_along.ensures in
    o.1 ∙ (λ i. side_steps (level i) o.0 (bounds i)) ∙ steps_are_ring c.args.z cell o.0 steps e
