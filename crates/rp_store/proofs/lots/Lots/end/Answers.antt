use Rattle.std.proofs.Common.{◌≡◌, ℕ, List, [], ◌∷◌, map, length, refl, ap, sym, ◌∙◌, subst, arith}
use Rattle.std.proofs.lemmas.List.{length-map}
use Rattle.rp_geometry.specs.sets.Shape.{Part}
use Rattle.rp_language.specs.Name.{Label, is_among}
use Rattle.rp_model.specs.states.State.{Lot, ended_at}
use Rattle.rp_history.specs.Lots.{AreBornBefore}
use Rattle.rp_history.specs.Parts.{lots_with_parts}
use Rattle.rp_history.proofs.Together.{born_before}
use Rattle.rp_lotindex.specs.Indexed.{index_of, AreSettled}
use Rattle.rp_store.proofs.Together.{lots_counted, lots_few, ended_together, lots_kept_ended}
use Rattle.rp_store.proofs.Boxed.{indexed_retired}
use Rattle.rp_store.proofs.lots.Lots.end.Goals as goal

pub end-requires : goal.end-requires
end-requires g c =
    let i = c.self.inside in
    born_before c.args.line i.history (map g.F.Forms.parts_of i.forms.items) c.self.invariant.each (subst (AreBornBefore c.args.line) (sym c.self.view_is) c.requires)

-- as many lots as lists, after the end as before
as_many : (n : ℕ) (ids : List Label) (old new : List (Lot (Unit {0}))) (lists : List (List Part)) → new ≡ map (ended_at n ids) old → length old ≡ length lists → length new ≡ length lists
as_many n ids old new lists is e = ap length is ∙ length-map old (ended_at n ids) ∙ e

pub settle_all-requires-clause-each : goal.settle_all-requires-clause-each
settle_all-requires-clause-each g c =
    let i = c.self.inside in
    let parts = g.F.Forms.parts_of in
    as_many c.args.line (c.args.id ∷ []) i.history c.end.new.self (map parts i.forms.items) c.end.ensures.lots c.self.invariant.each ∙ length-map i.forms.items parts ∙ sym (ap length c.items.ensures)

pub settle_all-requires-clause-few : goal.settle_all-requires-clause-few
settle_all-requires-clause-few g c =
    let i = c.self.inside in
    let parts = g.F.Forms.parts_of in
    let few = (lots_few i.history (map parts i.forms.items) i.parts (index_of i.boxes) c.args.self.now c.self.invariant c.self.view_is).few_lots in
    let many = lots_counted i.history (map parts i.forms.items) i.parts (index_of i.boxes) c.args.self.now c.self.invariant c.self.view_is in
    let after = as_many c.args.line (c.args.id ∷ []) i.history c.end.new.self (map parts i.forms.items) c.end.ensures.lots c.self.invariant.each in
    omega (arith, few, many, after)

pub invariant_of-self : goal.invariant_of-self
invariant_of-self g c =
    let i = c.self.inside in
    let parts = g.F.Forms.parts_of in
    let lists = map parts i.forms.items in
    let ids : List Label = c.args.id ∷ [] in
    let before = lots_with_parts i.history lists in
    let together = ap (λ fs. lots_with_parts c.end.new.self (map parts fs)) c.items.ensures ∙ ended_together c.args.line ids i.history c.end.new.self lists before refl c.end.ensures.lots in
    let settled = subst (λ (ls : List (Lot (Unit {0}))). AreSettled ls (λ y. is_among y ids) (index_of i.boxes) (index_of c.settle_all.new.boxes)) together c.settle_all.ensures in
    let indexed = indexed_retired i.history lists i.parts (index_of i.boxes) c.self.invariant (length lists) refl c.args.line ids (index_of c.settle_all.new.boxes) settled in
    lots_kept_ended c.args.line ids i.history c.end.new.self lists i.parts (index_of i.boxes) (index_of c.settle_all.new.boxes) c.self.invariant c.end.ensures.well.distinct c.end.ensures.lots indexed

pub returns : goal.returns
returns g c =
    let i = c.self.inside in
    ended_together c.args.line (c.args.id ∷ []) i.history c.end.new.self (map g.F.Forms.parts_of i.forms.items) c.args.self.now c.self.view_is c.end.ensures.lots
