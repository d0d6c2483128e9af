use Rattle.std.proofs.Common.{refl}
use Rattle.rp_reports.specs.Made.{made_script}
use Rattle.rp_scripts.proofs.made.MadeScript.new.Goals as goal

pub returns : goal.returns
unfolding made_script
returns c = refl
