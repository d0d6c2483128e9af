use Rattle.rp_slice.proofs.Sizes.{traces_meet_where_planes_do_spec}
use Rattle.rp_slice.proofs.traces_meet_where_planes_do.Goals as goal

pub returns : goal.returns
returns c = traces_meet_where_planes_do_spec
