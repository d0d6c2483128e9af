use Rattle.rp_language.proofs.Spelling.{spelling_is_read_spec, upgrade_is_read_spec}
use Rattle.rp_correctness.proofs.Upgrades.{upgrade_keeps_the_report_from}
use Rattle.rp_correctness.proofs.upgrade_keeps_the_report.Goals as goal

pub returns : goal.returns
returns c = upgrade_keeps_the_report_from spelling_is_read_spec upgrade_is_read_spec
