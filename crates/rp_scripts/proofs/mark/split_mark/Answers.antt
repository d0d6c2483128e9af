use Rattle.std.proofs.Common.{◌≡◌, true, false, sym, ◌∙◌}
use Rattle.rp_language.specs.Name.{label_eq}
use Rattle.rp_reports.specs.Report.{script_mark}
use Rattle.rp_scripts.proofs.MarkLemmas.{body_one, body_two, version_first, version_none}
use Rattle.rp_scripts.proofs.mark.split_mark.Goals as goal

pub returns-in_default-clause-version : goal.returns-in_default-clause-version
returns-in_default-clause-version c = version_none c.args.script.now c.in_default.ensures.end

pub returns-in_default-clause-body : goal.returns-in_default-clause-body
returns-in_default-clause-body c = body_one c.args.script.now (version_none c.args.script.now c.in_default.ensures.end)

pub returns-then-eq-clause-version : goal.returns-then-eq-clause-version
returns-then-eq-clause-version c =
    let is : label_eq c.in-Some.first.now script_mark ≡ true = sym c.eq.ensures ∙ c.if-eq.true in
    sym (version_first c.args.script.now c.in-Some.first.now _ true c.in-Some.ensures.next is)

pub returns-then-eq-clause-body : goal.returns-then-eq-clause-body
returns-then-eq-clause-body c =
    let is : label_eq c.in-Some.first.now script_mark ≡ true = sym c.eq.ensures ∙ c.if-eq.true in
    body_two c.args.script.now c.in-Some.first.now _ c.in-Some.ensures.next (sym (version_first c.args.script.now c.in-Some.first.now _ true c.in-Some.ensures.next is))

pub returns-else-eq-clause-version : goal.returns-else-eq-clause-version
returns-else-eq-clause-version c =
    let is : label_eq c.in-Some.first.now script_mark ≡ false = sym c.eq.ensures ∙ c.if-eq.false in
    sym (version_first c.args.script.now c.in-Some.first.now _ false c.in-Some.ensures.next is)

pub returns-else-eq-clause-body : goal.returns-else-eq-clause-body
returns-else-eq-clause-body c =
    let is : label_eq c.in-Some.first.now script_mark ≡ false = sym c.eq.ensures ∙ c.if-eq.false in
    body_one c.args.script.now (sym (version_first c.args.script.now c.in-Some.first.now _ false c.in-Some.ensures.next is))
