use Rattle.std.proofs.Common.{List, map, sym, subst}
use Rattle.rp_proximity.specs.There.{KnowsOwners}
use Rattle.rp_lotindex.specs.Indexed.{index_of}
use Rattle.rp_store.specs.Kept.{has_point}
use Rattle.rp_store.proofs.Together.{lots_bare, lots_indexed, lists_know}
use Rattle.rp_store.proofs.lots.Lots.owner.Goals as goal

pub returns : goal.returns
returns g c =
    let i = c.self.inside in
    let parts = g.F.Forms.parts_of in
    let lists = map parts i.forms.items in
    let p = c.args.point.now in
    c.owner.ensures c.args.self.now (lots_bare i.history lists i.parts (index_of i.boxes) c.args.self.now c.self.invariant c.self.view_is) (lots_indexed i.history lists i.parts (index_of i.boxes) c.args.self.now c.self.invariant c.self.view_is) c.requires
    (subst (λ (fs : List _). KnowsOwners (has_point (map parts fs) p) c.args.self.now p) (sym c.items.ensures) (lists_know i.history lists i.parts (index_of i.boxes) c.args.self.now c.self.invariant c.self.view_is p))
