use Rattle.rp_lots.proofs.Sieved.{form_there}
use Rattle.rp_lots.proofs.near.form_at.Goals as goal

pub returns : goal.returns
returns g c = form_there g.T.Oracle.parts_of (g.K.Keeper.state c.args.keeper.now).lots c.forms.result.now c.args.place c.index-forms-place.result c.forms.ensures c.requires c.index-forms-place.is
