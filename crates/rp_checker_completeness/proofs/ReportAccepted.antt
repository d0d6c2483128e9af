-- The report of a script, read from sets, is accepted.
use Rattle.std.proofs.Common.{sym, subst}
use Rattle.std.specs.Prelude.{IsTrue}
use Rattle.rp_geometry.specs.laws.PartLaws.{SlimPartIsPart}
use Rattle.rp_geometry.specs.laws.PrismLaws.{TrapezoidIsKept}
use Rattle.rp_reports.specs.laws.RunLaws.{ReportIsComputed}
use Rattle.rp_reports.specs.laws.CheckLaws.{ReportIsAccepted}
use Rattle.rp_reports.specs.Check.{is_accepted}
use Rattle.rp_language.proofs.ReadBounds.{read_expressions_are_kept_spec}
use Rattle.rp_checker_completeness.proofs.Commands.{AnyLabel, any_command}
use Rattle.rp_checker_completeness.proofs.ReportTaken.{report_accepted}

-- from the part that slimming makes, from the trapezoids of prisms, and from the report that is computed
pub report_is_accepted_from : SlimPartIsPart → TrapezoidIsKept → ReportIsComputed → ReportIsAccepted
report_is_accepted_from slim slant computed bytes few told is = subst (λ lines. IsTrue (is_accepted lines)) (sym ((computed bytes told).0.0 is)) (report_accepted slim slant read_expressions_are_kept_spec AnyLabel (λ v line c e. any_command c) tt bytes few)
