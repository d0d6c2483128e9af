use Rattle.std.proofs.Common.{Bool, rules, ap, sym, ◌∙◌}
use Rattle.std.specs.Prelude.{None, Err}
use Rattle.std.specs.Option.{option_map}
use Rattle.rp_reports.specs.Check.{follow_strict}
use Rattle.rp_cert.specs.Lines.{line_of}
use Rattle.rp_trail.proofs.Due.{not_due}
use Rattle.rp_trail.proofs.Tested.{strict_shown, not_strict}
use Rattle.rp_trail.proofs.trail.Trail.strict_test.Goals as goal

pub returns-in-In-clause-comes : goal.returns-in-In-clause-comes
unfolding follow_strict
returns-in-In-clause-comes c = search rules

pub returns-in-Out-clause-comes : goal.returns-in-Out-clause-comes
unfolding follow_strict
returns-in-Out-clause-comes c = search rules

pub returns-in_default-clause-comes : goal.returns-in_default-clause-comes
returns-in_default-clause-comes c =
    let t = c.args.self.now in
    let e = c.nothing_due.result in
    strict_shown c.args.cell.now None (Err e) t t (sym (ap (option_map line_of) c.in_default.is) ∙ c.next_proof.ensures) (not_due Bool e t c.nothing_due.ensures.due)

pub returns-in_default-proof : goal.returns-in_default-proof
returns-in_default-proof c = record {
  comes = not_strict c.args.cell.now c.in-Some.proof c.args.self.now c.nothing_due-in_default-proof.result c.in_default-proof.not-In c.in_default-proof.not-Out
      (sym (ap (option_map line_of) c.in-Some.is) ∙ c.next_proof.ensures) c.nothing_due-in_default-proof.ensures.due;
  right = tt;
  line = c.nothing_due-in_default-proof.ensures.line;
}
