use Rattle.rp_clip.proofs.CommonPlanes.{has_inside_is}
use Rattle.rp_clip.proofs.clip.Clip.has_inside.Goals as goal

pub returns : goal.returns
returns g c = has_inside_is c.args.self.now.halves c.table.result.now c.planes.result.now c.common_places.result c.table.ensures.clip c.planes.ensures.value c.common_places.ensures
