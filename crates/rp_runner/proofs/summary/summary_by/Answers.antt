use Rattle.rp_reports.specs.Made.{made_script}
use Rattle.rp_scripts.proofs.TrialLemmas.{summary-counted}
use Rattle.rp_runner.proofs.summary.summary_by.Goals as goal

pub returns : goal.returns
returns g c =
    summary-counted (made_script c.args.building.storeys c.args.building.seed) c.count_script.new.machine.state c.in_ok-counts.counts c.count_live-live.result
    c.in_ok-counts.ensures.counts c.in_ok-counts.ensures.state c.count_live-live.ensures
