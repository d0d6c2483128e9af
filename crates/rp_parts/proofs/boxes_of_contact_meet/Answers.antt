use Rattle.rp_parts.proofs.Meeting.{boxes_of_contact_meet_spec}
use Rattle.rp_parts.proofs.boxes_of_contact_meet.Goals as goal

pub returns : goal.returns
returns c = boxes_of_contact_meet_spec
