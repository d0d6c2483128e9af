use Rattle.std.proofs.Common.{◌++◌, take, ◌∙◌}
use mir.Syntax.{w32}
use Rattle.rp_algebra.proofs.Machine.{read_is}
use Rattle.rp_geometry.specs.sections.Flat.{first_flat}
use Rattle.rp_slice.proofs.Small.{height_within}
use Rattle.rp_section.specs.FlatList.{flat_in}
use Rattle.rp_section.proofs.flat.first_flat.Goals as goal

pub returns : goal.returns
unfolding first_flat
returns c =
    let z = read_is w32 (height_within c.args.z c.requires.height) tt in
    let list = c.as_slice.ensures.value ∙ c.joined-list.ensures ∙ (λ i. c.args.cell.now ++ take 4 (c.cube.ensures i)) in
    c.first_in.ensures ∙ (λ i. flat_in (z i) (list i))
