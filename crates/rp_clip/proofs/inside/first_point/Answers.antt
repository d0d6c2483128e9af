use Rattle.std.proofs.Common.{◌-◌, ◌^◌, ◌∙◌, rules}
use Rattle.rp_clip.proofs.Taken.{row_below, weak_point_is, no_weak_point}
use Rattle.rp_clip.proofs.Best.{clip_has_first, none_is_first}
use Rattle.rp_clip.proofs.Off.{known_none}
use Rattle.rp_clip.proofs.inside.first_point.Goals as goal

pub returns-in_err-first : goal.returns-in_err-first
returns-in_err-first g c = c.from_residual.ensures ∙ no_weak_point c.args.planes.now c.requires.few (none_is_first c.args.planes.now c.args.table.now (2 ^ 128 - 1) c.requires (known_none c.first_vertex.result c.in_err-first.was c.first_vertex.ensures.none))

pub point-requires : goal.point-requires
point-requires g c = (search rules, row_below c.args.planes.now _ c.args.table.now.points c.in_ok-first.first c.in_ok-first.ensures.some)

pub returns : goal.returns
returns g c = weak_point_is c.args.planes.now c.args.table.now.points c.in_ok-first.first c.point.result c.requires.few c.in_ok-first.ensures.some c.point.ensures

pub first_vertex-requires : goal.first_vertex-requires
first_vertex-requires g c = (search rules, (clip_has_first g.row.MOST c.args.planes.now (2 ^ 128 - 1) c.args.table.now c.requires))
