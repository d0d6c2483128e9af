use Rattle.std.proofs.Common.{ℤ, pos, ◌∷◌, [], ap, ◌∙◌}
use mir.Syntax.{w32}
use Rattle.rp_algebra.specs.Integer.{gcd, gcd_of}
use Rattle.rp_algebra.proofs.Machine.{read_is}
use Rattle.rp_geometry.specs.searches.Elimination.{multiple_of, reduced_terms}
use Rattle.rp_geometry.specs.sections.Flat.{flat_terms_if, flat_of_one}
use Rattle.rp_slice.proofs.Small.{height_within}
use Rattle.rp_section.proofs.flat.flat_of_one.Goals as goal

pub returns : goal.returns
unfolding flat_of_one reduced_terms gcd gcd_of
returns c = c.positive_flat.ensures ∙ ap (λ (v : ℤ). flat_terms_if v (multiple_of (pos 1) c.args.h.now ∷ [])) (read_is w32 (height_within c.args.z c.requires) tt)
