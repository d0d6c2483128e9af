use Rattle.std.proofs.Common.{sym, ◌∙◌}
use Rattle.rp_cert.proofs.Multipliers.{multipliers_beside}
use Rattle.rp_cert.proofs.flat.is_flat.Goals as goal

pub cancels_at-requires-clause-multipliers : goal.cancels_at-requires-clause-multipliers
cancels_at-requires-clause-multipliers c =
    multipliers_beside c.args.cell.now c.args.terms.now (sym c.are_multiples_of.ensures ∙ c.if-not-are_multiples_of.false)
