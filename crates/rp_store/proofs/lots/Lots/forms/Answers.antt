use Rattle.std.proofs.Common.{map, ap, sym, ◌∙◌}
use Rattle.rp_lotindex.specs.Indexed.{index_of}
use Rattle.rp_store.proofs.Together.{lots_lists}
use Rattle.rp_store.proofs.lots.Lots.forms.Goals as goal

pub returns : goal.returns
returns g c =
    let i = c.self.inside in
    ap (map g.F.Forms.parts_of) c.items.ensures ∙ sym (lots_lists i.history (map g.F.Forms.parts_of i.forms.items) i.parts (index_of i.boxes) c.args.self.now c.self.invariant c.self.view_is)
