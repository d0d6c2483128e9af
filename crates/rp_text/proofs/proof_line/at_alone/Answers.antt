use Rattle.std.proofs.Common.{Some, refl, ap}
use Rattle.std.specs.Prelude.{option_map}
use Rattle.rp_geometry.specs.searches.ProofLine.{at_line}
use Rattle.rp_text.proofs.ItemLemmas.{ended_all, ended_part}
use Rattle.rp_text.proofs.proof_line.at_alone.Goals as goal

pub returns-then-is_empty : goal.returns-then-is_empty
returns-then-is_empty c = ap (option_map at_line) (ended_all c.args.point c.args.rest.now (Some (c.args.point, c.args.rest.now)) c.if-is_empty.ensures refl)

pub returns-else-is_empty : goal.returns-else-is_empty
returns-else-is_empty c = ap (option_map at_line) (ended_part c.args.point c.args.rest.now (Some (c.args.point, c.args.rest.now)) c.if-is_empty.ensures refl)
