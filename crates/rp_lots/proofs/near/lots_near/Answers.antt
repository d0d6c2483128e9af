use Rattle.std.proofs.Common.{ℕ, List, filter, drop, sym, ap, ◌∙◌, subst}
use Rattle.std.proofs.lemmas.Result.{IfOk-weaker}
use Rattle.rp_proximity.specs.Near.{others_in, is_near, lots_at, AreWithin}
use Rattle.rp_proximity.proofs.Pairs.{pairs_same}
use Rattle.rp_lots.specs.declared.near.Near.{Near}
use Rattle.rp_lots.specs.Counted.{CountsUpTo}
use Rattle.rp_lots.proofs.near.lots_near.Goals as goal

pub count_at-requires-clause-within : goal.count_at-requires-clause-within
count_at-requires-clause-within g c = subst (λ (ks : List ℕ). AreWithin (g.K.Keeper.state c.args.keeper.now).lots ks) (sym c.items.ensures) c.in_ok-places.ensures.within

pub returns-clause-pairs : goal.returns-clause-pairs
returns-clause-pairs g c =
    let lots = (g.K.Keeper.state c.args.keeper.now).lots in
    let ps = g.T.Oracle.parts_of c.args.form.now in
    subst (λ (n : ℕ). CountsUpTo (λ (found : Near). found.pairs) c.count_at.result n)
    (pairs_same c.args.reach ps (lots_at lots c.items.result.now) (others_in c.args.layer.now c.args.id.now (drop c.args.from lots))
    (ap (λ (ks : List ℕ). filter (is_near c.args.reach ps) (lots_at lots ks)) c.items.ensures ∙ c.in_ok-places.ensures.near))
    c.count_at.ensures.pairs

pub returns-clause-lots : goal.returns-clause-lots
returns-clause-lots g c =
    let lots = (g.K.Keeper.state c.args.keeper.now).lots in
    let near = is_near c.args.reach (g.T.Oracle.parts_of c.args.form.now) in
    IfOk-weaker c.count_at.result _ _
    (λ found h. h ∙ ap (λ (ks : List ℕ). filter near (lots_at lots ks)) c.items.ensures ∙ c.in_ok-places.ensures.near)
    c.count_at.ensures.lots
