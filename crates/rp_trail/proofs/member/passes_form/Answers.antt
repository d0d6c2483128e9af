use Rattle.std.proofs.Common.{ap, ◌∙◌}
use Rattle.std.specs.List.{list_any}
use Rattle.rp_geometry.specs.Geometry.{all_hold}
use Rattle.rp_geometry.proofs.Members.{some_passes}
use Rattle.rp_trail.proofs.member.passes_form.Goals as goal

pub returns : goal.returns
returns c =
    let p = c.args.point.now in
    c.is_in_some.ensures ∙ ap (list_any (λ part. all_hold part.cell p)) c.items.ensures ∙ some_passes c.args.form.now.items p
