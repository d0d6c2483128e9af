use Rattle.std.proofs.Common.{sym, ap, ◌∙◌}
use Rattle.std.specs.Prelude.{option_map}
use Rattle.rp_geometry.specs.Geometry.{reduced_point}
use Rattle.rp_geometry.specs.parts.LeastBox.{box_union}
use Rattle.rp_space.specs.Boxes.{integer_box}
use Rattle.rp_vertex.specs.Joined.{join_vertex}
use Rattle.rp_vertex.proofs.InBounds.{box_of_reduced}
use Rattle.rp_vertex.proofs.bounds.joined_with_point.Goals as goal

pub returns-in-Some : goal.returns-in-Some
returns-in-Some c =
    c.extended.ensures ∙ ap (box_union (integer_box c.in-Some.others)) (box_of_reduced c.args.p.now c.numbers.ensures.small.positive)
    ∙ (λ i. join_vertex (option_map integer_box (sym c.in-Some.is i)) (reduced_point c.args.p.now))

pub returns-in-None : goal.returns-in-None
returns-in-None c =
    c.box_of_vertex.ensures ∙ box_of_reduced c.args.p.now c.numbers.ensures.small.positive
    ∙ (λ i. join_vertex (option_map integer_box (sym c.in-None.is i)) (reduced_point c.args.p.now))
