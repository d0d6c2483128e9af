use Rattle.std.proofs.Common.{sym, ap, ◌∙◌}
use Rattle.std.specs.Prelude.{Option, option_map}
use Rattle.std.specs.Option.{option_to_list}
use Rattle.rp_geometry.specs.Geometry.{RationalPoint}
use Rattle.rp_space.specs.Boxes.{integer_box}
use Rattle.rp_vertex.specs.Joined.{joined}
use Rattle.rp_vertex.proofs.bounds.joined_on.Goals as goal

pub returns-then-passes : goal.returns-then-passes
returns-then-passes c =
    ap (λ (v : Option RationalPoint). joined (option_map integer_box c.args.bounds) (option_to_list v))
    (sym (c.requires.line c.args.h.now (sym c.passes.ensures ∙ c.if-passes.true)))
