use Rattle.std.proofs.Common.{ap, ◌∙◌, slice_get}
use Rattle.std.specs.Prelude.{position}
use Rattle.std.specs.Option.{option_and_then}
use Rattle.rp_language.specs.Name.{label_eq}
use Rattle.rp_model.specs.states.State.{ids_of}
use Rattle.rp_history.specs.Kept.{Roomy}
use Rattle.rp_history.proofs.Found.{found_at_place}
use Rattle.rp_history.proofs.list.LotList.place_of.Goals as goal

pub returns-clause-lot : goal.returns-clause-lot
returns-clause-lot c =
    let seen = ap (λ (v : Roomy). v.lots) c.self.view_is in
    ap (option_and_then (λ k. slice_get c.args.self.now.lots k)) (c.get_index_of.ensures.index ∙ ap (position (label_eq c.args.id.now)) (c.self.invariant.ids.same ∙ ap ids_of seen))
    ∙ found_at_place c.args.id.now c.args.self.now.lots
