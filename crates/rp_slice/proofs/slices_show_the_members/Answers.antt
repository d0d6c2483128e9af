use Rattle.rp_slice.proofs.Shown.{slices_show_the_members_spec}
use Rattle.rp_slice.proofs.slices_show_the_members.Goals as goal

pub returns : goal.returns
returns c = slices_show_the_members_spec
