use Rattle.rp_language.proofs.Spelling.{upgrade_is_read_spec}
use Rattle.rp_language.proofs.upgrade_is_read.Goals as goal

pub returns : goal.returns
returns c = upgrade_is_read_spec
