use Rattle.std.proofs.Common.{arith}
use Rattle.rp_clip.proofs.FirstOfSet.{vertex_half_spaces, three_found}
use Rattle.rp_clip.proofs.HalfAt.{in_below, in_some, low_places}
use Rattle.rp_clip.proofs.Meetings.{first_of_set}
use Rattle.rp_clip.proofs.Walks.{after_fits}
use Rattle.rp_clip.proofs.meet.first_basis.Goals as goal

pub three_places-only-requires : goal.three_places-only-requires
three_places-only-requires c = low_places c.args.planes.now c.args.set (vertex_half_spaces c.args.planes.now c.args.set c.requires)

pub overflow_add-first : goal.overflow_add-first
overflow_add-first c = after_fits c.in_ok-first.first (in_below c.args.planes.now c.args.set c.in_ok-first.first (vertex_half_spaces c.args.planes.now c.args.set c.requires) (c.in_ok-first.ensures.some).is_in)

pub first_meeting-requires-clause-from : goal.first_meeting-requires-clause-from
first_meeting-requires-clause-from c = let h = in_below c.args.planes.now c.args.set c.in_ok-first.first (vertex_half_spaces c.args.planes.now c.args.set c.requires) (c.in_ok-first.ensures.some).is_in in omega (arith, h)

pub first_meeting-requires-clause-places : goal.first_meeting-requires-clause-places
first_meeting-requires-clause-places c = vertex_half_spaces c.args.planes.now c.args.set c.requires

pub at-requires : goal.at-requires
at-requires c = in_some c.args.planes.now c.args.set c.in_ok-first.first (vertex_half_spaces c.args.planes.now c.args.set c.requires) (c.in_ok-first.ensures.some).is_in

pub returns-then-is_some-clause-some : goal.returns-then-is_some-clause-some
returns-then-is_some-clause-some c = three_found c.args.planes.now c.args.set c.three_places-only.result c.requires c.three_places-only.ensures

pub returns-clause-some : goal.returns-clause-some
returns-clause-some c = first_of_set c.args.planes.now c.args.set c.in_ok-first.first c.at.result c.in_ok-met.met c.in_ok-first.ensures.some c.at.ensures c.in_ok-met.ensures.some
