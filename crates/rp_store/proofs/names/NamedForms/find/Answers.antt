use Rattle.std.proofs.Common.{ap, ◌∙◌}
use Rattle.std.specs.Prelude.{option_map}
use Rattle.rp_model.specs.states.State.{kept_named, parts_of_kept}
use Rattle.rp_store.proofs.KeptNames.{found_is_kept}
use Rattle.rp_store.proofs.names.NamedForms.find.Goals as goal

pub returns : goal.returns
returns g c = ap (option_map g.F.Forms.parts_of) c.get.ensures.value ∙ found_is_kept g.F.Forms.parts_of c.args.name.now c.self.inside.forms.entries ∙ ap (λ ks. parts_of_kept (kept_named c.args.name.now ks)) c.self.view_is
