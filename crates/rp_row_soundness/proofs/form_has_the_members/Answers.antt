use Rattle.rp_row_soundness.proofs.Sound.{form_has_the_members_spec}
use Rattle.rp_row_soundness.proofs.form_has_the_members.Goals as goal

pub returns : goal.returns
returns c = form_has_the_members_spec
