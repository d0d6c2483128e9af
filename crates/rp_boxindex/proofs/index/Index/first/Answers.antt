use Rattle.std.proofs.Common.{◌≡◌, true, false, ℕ, Bool, List, None, sym, ap, ◌∙◌}
use Rattle.std.specs.FinMap.{entries}
use Rattle.rp_geometry.specs.Geometry.{IntegerBox}
use Rattle.rp_space.specs.Boxes.{integer_box}
use Rattle.rp_boxindex.specs.Boxes.{Entry}
use Rattle.rp_boxindex.specs.cells.Walks.{is_done}
use Rattle.rp_boxindex.specs.Counts.{SameCounts}
use Rattle.rp_boxindex.specs.Meeting.{ids_that_meet}
use Rattle.rp_boxindex.proofs.Few.{few_steps}
use Rattle.rp_boxindex.proofs.Leasts.{least_after, taken-least, least_is_first}
use Rattle.rp_boxindex.proofs.Trees.{entries_of_cells, entries_of_tree}
use Rattle.rp_boxindex.proofs.Walks.{walked}
use Rattle.rp_boxindex.proofs.index.Index.first.Goals as goal

pub returns-then-is_done-clause-few : goal.returns-then-is_done-clause-few
returns-then-is_done-clause-few g c =
    let same : SameCounts (entries c.args.self.now) c.self.inside.tree.entries = entries_of_tree c.self.inside.tree.entries c.self.inside.cells.entries c.self.inside.lows.map.entries c.args.self.now c.self.invariant c.show_order.ensures.ordered c.self.view_is in
    few_steps c.args.closed (integer_box c.args.bounds.now) c.self.inside.tree c.args.self.now c.args.steps.now c.collect.new.steps same c.collect.ensures.slender c.collect.ensures.most

pub returns-else-is_done-clause-few : goal.returns-else-is_done-clause-few
returns-else-is_done-clause-few g c =
    let same : SameCounts (entries c.args.self.now) c.self.inside.tree.entries = entries_of_tree c.self.inside.tree.entries c.self.inside.cells.entries c.self.inside.lows.map.entries c.args.self.now c.self.invariant c.show_order.ensures.ordered c.self.view_is in
    few_steps c.args.closed (integer_box c.args.bounds.now) c.self.inside.tree c.args.self.now c.args.steps.now c.collect.new.steps same c.collect.ensures.slender c.collect.ensures.most

pub returns-then-is_done-clause-first : goal.returns-then-is_done-clause-first
returns-then-is_done-clause-first g c =
    let closed : Bool = c.args.closed in
    let b : IntegerBox = integer_box c.args.bounds.now in
    let t : List Entry = c.self.inside.cells.entries in
    let passes : ℕ → Bool = g.C.Choice.passes c.args.choice.now in
    let same : SameCounts (entries c.args.self.now) t = entries_of_cells c.self.inside.tree.entries t c.self.inside.lows.map.entries c.args.self.now c.self.invariant c.show_order.ensures.ordered c.self.view_is in
    let done : is_done c.collect.new.walk ≡ true = sym c.is_done.ensures ∙ c.if-is_done.true in
    let found = walked (least_after g.C.Choice.passes) closed b c.new-walk.result c.collect.new.walk (record { choice = c.args.choice; id = None }) t c.collect.ensures.further done c.new-walk.ensures.pending c.new-walk.ensures.taker in
    ap (λ s. s.id) (c.into_taker.ensures ∙ found) ∙ (taken-least g.C.Choice.passes (record { choice = c.args.choice; id = None }) (ids_that_meet closed b t) ∙ least_is_first closed b t c.args.self.now passes same)

pub returns-else-is_done-clause-first : goal.returns-else-is_done-clause-first
returns-else-is_done-clause-first g c =
    let closed : Bool = c.args.closed in
    let b : IntegerBox = integer_box c.args.bounds.now in
    let t : List Entry = c.self.inside.tree.entries in
    let passes : ℕ → Bool = g.C.Choice.passes c.args.choice.now in
    let same : SameCounts (entries c.args.self.now) t = entries_of_tree t c.self.inside.cells.entries c.self.inside.lows.map.entries c.args.self.now c.self.invariant c.show_order.ensures.ordered c.self.view_is in
    let undone : is_done c.collect.new.walk ≡ false = sym c.is_done.ensures ∙ c.if-is_done.false in
    ap (λ s. s.id) (c.in-Ok.ensures.found undone) ∙ (taken-least g.C.Choice.passes (record { choice = c.args.choice; id = None }) (ids_that_meet closed b t) ∙ least_is_first closed b t c.args.self.now passes same)
