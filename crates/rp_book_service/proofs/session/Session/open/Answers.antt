use Rattle.std.proofs.Common.{None, true, subst, arith}
use Rattle.rp_command.specs.Versions.{version_of}
use Rattle.rp_reports.specs.Machine.{Running}
use Rattle.rp_book_service.specs.Answered.{Answers}
use Rattle.rp_book_service.proofs.SessionLemmas.{IsBehind-run}
use Rattle.rp_book_service.proofs.session.Session.open.Goals as goal

pub returns-in-Ok-clause-behind : goal.returns-in-Ok-clause-behind
returns-in-Ok-clause-behind g c =
    let body = c.split_mark-version.result.1.now in
    IsBehind-run c.args.script.now body (version_of c.split_mark-version.result.0) _ None None c.split_mark-version.ensures.version c.split_mark-version.ensures.body
    (omega (arith, c.in-Ok.ensures.few, c.split_mark-version.ensures.within))
    (subst (λ (m : Running). Answers true m 1 body c.run_body.new.machine c.in-Ok.next None None c.in-Ok.refused) c.in_ok-machine.ensures c.in-Ok.ensures.answers)
