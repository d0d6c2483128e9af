use Rattle.rp_checker.proofs.report.check_report.Goals as goal

pub returns-clause-found : goal.returns-clause-found
returns-clause-found c = c.check_report_in-found.ensures.found

pub returns-clause-right : goal.returns-clause-right
returns-clause-right c = c.check_report_in-found.ensures.right

pub returns-clause-whole : goal.returns-clause-whole
returns-clause-whole c = c.check_report_in-found.ensures.whole
