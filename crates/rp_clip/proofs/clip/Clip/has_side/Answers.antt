use Rattle.std.proofs.Common.{arith}
use Rattle.rp_clip.proofs.CommonPlanes.{has_side_is}
use Rattle.rp_clip.proofs.clip.Clip.has_side.Goals as goal

pub overflow_shl-set : goal.overflow_shl-set
overflow_shl-set g c = omega (arith, c.requires, c.table.ensures.clip.few)

pub returns : goal.returns
returns g c h = has_side_is c.args.self.now.halves c.table.result.now c.planes-masks.result.now c.args.place c.common_places.result c.table.ensures.clip c.planes-masks.ensures.value c.requires c.common_places.ensures h
