use Rattle.std.proofs.Common.{length, sym, ap, ◌∙◌}
use Rattle.std.proofs.lemmas.List.{length-map}
use Rattle.rp_lots.proofs.checks.count_parts.Goals as goal

pub returns : goal.returns
returns g c = sym (length-map c.parts.result.now g.T.Oracle.seen) ∙ ap length c.parts.ensures
