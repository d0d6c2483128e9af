use Rattle.rp_parts.proofs.Slim.{slim_part_is_part_spec}
use Rattle.rp_parts.proofs.Trapezoids.{trapezoid_is_kept_spec}
use Rattle.rp_correctness.proofs.Rows.{first_rows, meets_rule}
use Rattle.rp_states.proofs.Computed.{report_is_computed_spec}
use Rattle.rp_checker_completeness.proofs.ReportAccepted.{report_is_accepted_from}
use Rattle.rp_checker_completeness.proofs.WrittenReport.{written_report_is_accepted_from}
use Rattle.rp_correctness.proofs.every_report_is_accepted.Goals as goal

pub returns : goal.returns
returns c = record {
  of_lines = report_is_accepted_from slim_part_is_part_spec trapezoid_is_kept_spec (report_is_computed_spec meets_rule first_rows);
  of_text = written_report_is_accepted_from slim_part_is_part_spec trapezoid_is_kept_spec (report_is_computed_spec meets_rule first_rows);
}
