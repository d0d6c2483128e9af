use Rattle.std.proofs.Common.{map}
use Rattle.rp_lotindex.specs.Indexed.{index_of}
use Rattle.rp_store.proofs.Together.{lots_bare, lots_few, lots_distinct}
use Rattle.rp_store.proofs.lots.Lots.history.Goals as goal

pub returns-clause-value : goal.returns-clause-value
returns-clause-value g c = let i = c.self.inside in lots_bare i.history (map g.F.Forms.parts_of i.forms.items) i.parts (index_of i.boxes) c.args.self.now c.self.invariant c.self.view_is

pub returns-clause-few : goal.returns-clause-few
returns-clause-few g c = let i = c.self.inside in (lots_few i.history (map g.F.Forms.parts_of i.forms.items) i.parts (index_of i.boxes) c.args.self.now c.self.invariant c.self.view_is).few_lots

pub returns-clause-distinct : goal.returns-clause-distinct
returns-clause-distinct g c = let i = c.self.inside in lots_distinct i.history (map g.F.Forms.parts_of i.forms.items) i.parts (index_of i.boxes) c.args.self.now c.self.invariant c.self.view_is
