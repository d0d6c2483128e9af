use Rattle.rp_model.specs.states.State.{live_lots, lots_of_layer}
use Rattle.rp_parcels.proofs.Alone.{layer_not_both, only_owner}
use Rattle.rp_parcels.proofs.parcels.Parcels.at.Goals as goal

pub returns-clause-only : goal.returns-clause-only
returns-clause-only c = λ is_point.
    let lots = c.args.self.now in
    only_owner c.args.p.now is_point (lots_of_layer c.args.layer (live_lots lots)) (layer_not_both c.args.p.now is_point c.args.layer lots c.owner.ensures.sound) c.owner.result c.owner.ensures.row
