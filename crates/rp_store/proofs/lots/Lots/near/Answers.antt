use Rattle.std.proofs.Common.{◌≤◌, ◌<◌, ℕ, map, length, refl, ap, sym, ◌∙◌, subst, arith}
use Rattle.std.specs.List.{AllByRecursion}
use Rattle.std.proofs.lemmas.List.{length-map}
use Rattle.std.proofs.lemmas.Result.{IfOk-weaker}
use Rattle.rp_model.specs.states.State.{bare_lot}
use Rattle.rp_lotindex.specs.Indexed.{index_of}
use Rattle.rp_store.proofs.Together.{lots_bare, lots_few, lots_kept_in}
use Rattle.rp_store.proofs.Boxed.{free_behind}
use Rattle.rp_store.proofs.lots.Lots.near.Goals as goal

pub near-requires-clause-from : goal.near-requires-clause-from
near-requires-clause-from g c _ _ =
    let i = c.self.inside in
    let bare = lots_bare i.history (map g.F.Forms.parts_of i.forms.items) i.parts (index_of i.boxes) c.args.self.now c.self.invariant c.self.view_is in
    subst (λ (n : ℕ). c.args.from ≤ n) (sym (ap length bare ∙ length-map c.args.self.now bare_lot)) c.requires

pub near-requires-clause-behind : goal.near-requires-clause-behind
near-requires-clause-behind g c _ _ = let i = c.self.inside in free_behind i.history (map g.F.Forms.parts_of i.forms.items) i.parts (index_of i.boxes) c.self.invariant (length i.history) c.self.invariant.each c.args.layer.now

pub returns-clause-near : goal.returns-clause-near
returns-clause-near g c =
    let i = c.self.inside in
    let parts = g.F.Forms.parts_of in
    IfOk-weaker c.near.result _ _
    (λ places h. h c.args.self.now (parts c.args.form.now) (lots_kept_in i.history (map parts i.forms.items) i.parts (index_of i.boxes) c.args.self.now c.self.invariant c.self.view_is) refl)
    c.near.ensures.near

pub returns-clause-within : goal.returns-clause-within
returns-clause-within g c =
    let i = c.self.inside in
    let bare = lots_bare i.history (map g.F.Forms.parts_of i.forms.items) i.parts (index_of i.boxes) c.args.self.now c.self.invariant c.self.view_is in
    IfOk-weaker c.near.result _ _
    (λ places h. subst (λ (n : ℕ). AllByRecursion (λ k. k < n) places.items) (ap length bare ∙ length-map c.args.self.now bare_lot) h)
    c.near.ensures.within

pub returns-clause-few : goal.returns-clause-few
returns-clause-few g c =
    let i = c.self.inside in
    let most = (lots_few i.history (map g.F.Forms.parts_of i.forms.items) i.parts (index_of i.boxes) c.args.self.now c.self.invariant c.self.view_is).few_lots in
    let bare = lots_bare i.history (map g.F.Forms.parts_of i.forms.items) i.parts (index_of i.boxes) c.args.self.now c.self.invariant c.self.view_is in
    IfOk-weaker c.near.result _ _
    (λ places h. let many = ap length bare ∙ length-map c.args.self.now bare_lot in omega (arith, h, many, most))
    c.near.ensures.few
