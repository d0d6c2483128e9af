use Rattle.rp_lotindex.proofs.Owned.{checked_boxes_hold}
use Rattle.rp_register_state.proofs.register_state.RegisterState.owner.Goals as goal

pub owner-requires-after_bounds : goal.owner-requires-after_bounds
owner-requires-after_bounds g c κs within = checked_boxes_hold c.self.inside.lots c.self.invariant.lots_keep_parts
