use Rattle.std.proofs.Common.{ap, ◌∙◌, nat_abs, rules}
use Rattle.std.specs.Int.RustNames.{FitsSigned}
use Rattle.std.proofs.lemmas.Int.{to_z-of_z}
use mir.Syntax.{w128}
use Rattle.rp_algebra.specs.Integer.{gcd}
use Rattle.rp_geometry.specs.searches.Certificate.{Multiple}
use Rattle.rp_elim.proofs.Divisor.{divisor_none, divisor_more}
use Rattle.rp_elim.proofs.lowest.+divisor_of.Goals as goal

pub returns-in-empty : goal.returns-in-empty
returns-in-empty t c = divisor_none c.args.terms.now c.in-empty.len_below

pub returns-in-len1-up : goal.returns-in-len1-up
returns-in-len1-up t c =
    let fits : FitsSigned w128 c.first.inside.by = search rules in
    let by = to_z-of_z w128 c.first.inside.by fits ∙ ap (λ (m : Multiple). m.factor) c.first.view_is in
    let size = c.unsigned_abs.ensures.value ∙ ap nat_abs by in
    c.greatest_common_divisor.ensures
    ∙ (λ i. gcd (c.divisor_of.ensures i) (size i))
    ∙ divisor_more c.args.terms.now c.first-item.result c.in-len1-up.len_at_least c.first-item.is
