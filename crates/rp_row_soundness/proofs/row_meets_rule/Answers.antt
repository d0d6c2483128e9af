use Rattle.rp_parts.proofs.Relations.{relations_exclude_spec}
use Rattle.rp_parts.proofs.Pieces.{pieces_are_one_spec}
use Rattle.rp_row_soundness.proofs.Right.{first_walks_are_right}
use Rattle.rp_row_soundness.proofs.Verdicts.{row_meets_rule}
use Rattle.rp_row_soundness.proofs.row_meets_rule.Goals as goal

pub returns : goal.returns
returns c = row_meets_rule first_walks_are_right relations_exclude_spec pieces_are_one_spec
