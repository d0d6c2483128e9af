use Rattle.std.proofs.Common.{sym, ◌∙◌, ap}
use Rattle.std.specs.Prelude.{is_some}
use Rattle.rp_cell.proofs.Answered.{line_at}
use Rattle.rp_cell.proofs.decide.search_weak.Goals as goal

pub refute_weak-requires-clause-empty : goal.refute_weak-requires-clause-empty
refute_weak-requires-clause-empty c = c.first_weak.ensures.none.0 (ap is_some c.in-None.is)

pub returns-in-Some-clause-line : goal.returns-in-Some-clause-line
returns-in-Some-clause-line c = line_at c.args.cell.now c.in-Some.p (sym c.first_weak.ensures.first ∙ c.in-Some.is)

pub returns-in-None-clause-decides : goal.returns-in-None-clause-decides
returns-in-None-clause-decides c = (c.refute_weak.ensures.first, c.refute_weak.ensures.passes, c.first_weak.ensures.none.0 (ap is_some c.in-None.is))
