use Rattle.rp_parts.proofs.Meeting.{boxes_of_overlap_meet_spec}
use Rattle.rp_parts.proofs.boxes_of_overlap_meet.Goals as goal

pub returns : goal.returns
returns c = boxes_of_overlap_meet_spec
