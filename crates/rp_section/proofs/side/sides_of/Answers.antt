use Rattle.std.proofs.Common.{◌++◌, take, sym, ◌∙◌}
use mir.Syntax.{w32}
use Rattle.rp_algebra.proofs.Machine.{read_is}
use Rattle.rp_geometry.specs.sections.Trace.{cube_sides}
use Rattle.rp_slice.proofs.Small.{height_within}
use Rattle.rp_section.specs.Sides.{sides_of}
use Rattle.rp_section.proofs.Listing.{sides_append}
use Rattle.rp_section.proofs.side.sides_of.Goals as goal

pub returns : goal.returns
returns c =
    let z = read_is w32 (height_within c.args.z c.requires.height) tt in
    let cell = c.args.cell.now in
    c.extend-2.ensures.items
    ∙ (λ i. c.extend.ensures.items i ++ sides_of (z i) (take 4 (c.cube.ensures i)))
    ∙ (λ i. (c.new-sides.ensures i ++ sides_of (z i) cell) ++ sides_of c.args.z cube_sides)
    ∙ sym (sides_append c.args.z cell cube_sides)
