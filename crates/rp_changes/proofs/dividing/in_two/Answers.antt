use Rattle.std.proofs.Common.{List, [], ◌∷◌, ◌++◌, ap, ◌∙◌}
use Rattle.rp_model.specs.states.State.{lots_replaced}
use Rattle.rp_history.specs.declared.lot.Birth.{Birth}
use Rattle.rp_changes.proofs.Divided.{two_born}
use Rattle.rp_changes.proofs.dividing.in_two.Goals as goal

pub returns : goal.returns
returns g c = λ view.
    let one = c.in_ok-add_born.ensures.births in
    let two = c.in_ok-add_born-2.ensures.births in
    let births = two.1 ∙ ap (λ (bs : List Birth). bs ++ two.0 ∷ []) (one.1 ∙ ap (λ (bs : List Birth). bs ++ one.0 ∷ []) c.new-births.ensures) in
    let forms = c.in_ok-add_born-2.ensures.forms ∙ ap (λ fs. fs ++ c.args.outer ∷ []) (c.in_ok-add_born.ensures.forms ∙ ap (λ fs. fs ++ c.args.inner ∷ []) c.new-forms.ensures) in
    let ends = c.in_ok-ends.ensures in
    let new = two_born view c.args.layer c.args.origin c.args.first c.args.second c.add_born-2.new.births.items c.add_born-2.new.forms.items one.0 two.0 c.args.inner c.args.outer births forms (one.2, one.3, one.4) (two.2, two.3, two.4) in
    λ i. lots_replaced (ends i) (new i)
