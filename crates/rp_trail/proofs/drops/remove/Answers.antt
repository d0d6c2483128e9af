use Rattle.std.proofs.Common.{sym, ◌∙◌, ap}
use Rattle.std.specs.List.{position}
use Rattle.rp_geometry.specs.Geometry.{half_space_eq}
use Rattle.rp_trail.proofs.Places.{without_at, without_none}
use Rattle.rp_trail.proofs.drops.remove.Goals as goal

pub returns-in-Some-clause-items : goal.returns-in-Some-clause-items
returns-in-Some-clause-items g c =
    let h = c.args.half.now in
    c.remove.ensures.items
    ∙ without_at h c.args.halves.now.items c.in-Some.place
    (sym (c.place_of.ensures ∙ ap (position (half_space_eq h)) c.as_slice.ensures.value) ∙ c.in-Some.is)

pub returns-in_default-clause-items : goal.returns-in_default-clause-items
returns-in_default-clause-items g c =
    let h = c.args.half.now in
    without_none h c.args.halves.now.items (sym (c.place_of.ensures ∙ ap (position (half_space_eq h)) c.as_slice.ensures.value) ∙ c.in_default.is)
