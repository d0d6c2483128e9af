use Rattle.std.proofs.Common.{◌∙◌}
use mir.Syntax.{w32}
use Rattle.rp_algebra.proofs.Machine.{read_is}
use Rattle.rp_geometry.specs.searches.Elimination.{normal_terms}
use Rattle.rp_geometry.specs.sections.Flat.{flat_terms_if, flat_of_two}
use Rattle.rp_slice.proofs.Small.{height_within}
use Rattle.rp_section.proofs.flat.flat_of_two.Goals as goal

pub returns : goal.returns
unfolding flat_of_two
returns c =
    let z = read_is w32 (height_within c.args.z c.requires) tt in
    c.flat.ensures ∙ (λ i. flat_terms_if (z i) (normal_terms (c.minors_of_two.ensures.value i)))
