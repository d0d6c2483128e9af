use Rattle.std.proofs.Common.{List, map, sym, subst}
use Rattle.rp_language.specs.Name.{Label}
use Rattle.rp_model.specs.states.State.{lots_replaced}
use Rattle.rp_history.specs.declared.lot.Birth.{Birth}
use Rattle.rp_history.specs.Lots.{lots_after, AreNew}
use Rattle.rp_history.specs.Parts.{new_lots}
use Rattle.rp_store.specs.Kept.{AreFew}
use Rattle.rp_register_state.proofs.replaced.replace.Goals as goal

pub replace-requires-clause-new : goal.replace-requires-clause-new
replace-requires-clause-new g c = subst (λ (bs : List Birth). AreNew c.args.lots.now (new_lots bs (map g.F.Forms.parts_of c.args.change.forms.items))) (sym c.items-born.ensures) c.requires.new

pub replace-requires-clause-few : goal.replace-requires-clause-few
replace-requires-clause-few g c =
    let lists = map g.F.Forms.parts_of c.args.change.forms.items in
    subst (λ (ids : List Label). AreFew (lots_after c.args.line c.args.lots.now (lots_replaced ids (new_lots c.items-born.result.now lists)))) (sym c.items-ended.ensures)
    (subst (λ (bs : List Birth). AreFew (lots_after c.args.line c.args.lots.now (lots_replaced c.args.change.ends.items (new_lots bs lists)))) (sym c.items-born.ensures) c.requires.few)
