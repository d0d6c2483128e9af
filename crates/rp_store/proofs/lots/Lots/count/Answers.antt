use Rattle.std.proofs.Common.{ℕ, ◌≤◌, map, length, ap, sym, ◌∙◌, subst}
use Rattle.std.proofs.lemmas.List.{length-map}
use Rattle.rp_model.specs.states.State.{most_kept_parts}
use Rattle.rp_lotindex.specs.Indexed.{index_of}
use Rattle.rp_store.proofs.Together.{lots_counted, lots_few}
use Rattle.rp_store.proofs.lots.Lots.count.Goals as goal

pub returns-clause-value : goal.returns-clause-value
returns-clause-value g c =
    let i = c.self.inside in
    let parts = g.F.Forms.parts_of in
    ap length c.items.ensures ∙ sym (length-map i.forms.items parts) ∙ sym (lots_counted i.history (map parts i.forms.items) i.parts (index_of i.boxes) c.args.self.now c.self.invariant c.self.view_is)

pub returns-clause-few : goal.returns-clause-few
returns-clause-few g c =
    let i = c.self.inside in
    subst (λ (n : ℕ). n ≤ most_kept_parts) (sym (returns-clause-value g c)) (lots_few i.history (map g.F.Forms.parts_of i.forms.items) i.parts (index_of i.boxes) c.args.self.now c.self.invariant c.self.view_is).few_lots
