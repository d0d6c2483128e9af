use Rattle.std.proofs.Common.{ap, sym, ◌∙◌}
use Rattle.rp_model.specs.states.State.{Lot}
use Rattle.rp_history.specs.declared.lot.LotLine.{LotLine}
use Rattle.rp_history.proofs.Bare.{line_at, within_lots}
use Rattle.rp_history.proofs.Checked.{live_there, none_is_live, layer_here}
use Rattle.rp_history.proofs.history.History.layer_of.Goals as goal

pub unreachable-requires : goal.unreachable-requires
unreachable-requires c = none_is_live c.args.id.now c.args.self.now c.lots-lots.result.now c.lots-lots.ensures.value c.requires c.in-None.ensures.lot

pub returns : goal.returns
returns c s same =
    let k = c.in-Some.place in
    let item = line_at s.lots c.args.self.now c.lots-lots.result.now same c.lots-lots.ensures.value k c.index-lots-place.result (within_lots s.lots c.args.self.now same k c.in-Some.ensures.within) c.index-lots-place.is in
    sym (ap (λ (l : LotLine). l.layer) c.index-lots-place.is)
    ∙ sym (ap (λ (l : Lot (Unit {0})). l.layer) item.2)
    ∙ layer_here c.args.id.now s k item.0 (live_there c.args.id.now s c.args.self.now same c.in-Some.ensures.distinct k c.in-Some.ensures.within c.in-Some.ensures.lot) item.1
