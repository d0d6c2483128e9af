use Rattle.std.proofs.Common.{sym, ap, ◌∙◌}
use Rattle.std.specs.Prelude.{Option, Some, option_map}
use Rattle.std.specs.Option.{option_to_list}
use Rattle.rp_geometry.specs.Geometry.{RationalPoint}
use Rattle.rp_geometry.specs.searches.Vertex.{meeting_point}
use Rattle.rp_space.specs.Boxes.{integer_box}
use Rattle.rp_vertex.specs.Joined.{joined}
use Rattle.rp_vertex.proofs.InBounds.{passed_in_cube}
use Rattle.rp_vertex.proofs.Tested.{vertex_some, vertex_none}
use Rattle.rp_vertex.proofs.bounds.joined_with_three.Goals as goal

pub returns-then-not-are_nonnegative : goal.returns-then-not-are_nonnegative
returns-then-not-are_nonnegative c =
    let found = c.in-Some.ensures in
    let at = meeting_point c.args.pair.now.first c.args.pair.now.second c.args.h.now in
    let failed = vertex_none c.args.system.now c.in-Some.p at found.point found.in_lowest_terms (sym c.are_nonnegative.ensures ∙ c.if-not-are_nonnegative.true) in
    sym (ap (λ (v : Option RationalPoint). joined (option_map integer_box c.args.bounds) (option_to_list v)) failed)

pub joined_with_point-requires : goal.joined_with_point-requires
joined_with_point-requires c =
    passed_in_cube c.args.system.now c.in-Some.p c.requires c.in-Some.ensures.point (sym c.are_nonnegative.ensures ∙ c.if-not-are_nonnegative.false)

pub returns : goal.returns
returns c =
    let found = c.in-Some.ensures in
    let passed = vertex_some c.args.system.now c.in-Some.p (meeting_point c.args.pair.now.first c.args.pair.now.second c.args.h.now) found.point found.in_lowest_terms (sym c.are_nonnegative.ensures ∙ c.if-not-are_nonnegative.false) in
    ap Some c.joined_with_point.ensures ∙ (λ i. joined (option_map integer_box c.args.bounds) (option_to_list (sym passed i)))
