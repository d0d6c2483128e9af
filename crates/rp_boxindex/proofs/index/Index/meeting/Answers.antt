use Rattle.std.proofs.Common.{◌≡◌, ℕ, true, false, Bool, List, [], ◌∷◌, ◌++◌, IsPermutation, sym, ap, ◌∙◌, subst}
use Rattle.std.specs.FinMap.{entries}
use Rattle.rp_geometry.specs.Geometry.{IntegerBox}
use Rattle.rp_space.specs.Boxes.{integer_box}
use Rattle.rp_boxindex.specs.Boxes.{Entry}
use Rattle.rp_boxindex.specs.cells.Walks.{is_done}
use Rattle.rp_boxindex.specs.Counts.{SameCounts}
use Rattle.rp_boxindex.specs.Meeting.{ids_that_meet}
use Rattle.rp_boxindex.proofs.Few.{few_steps}
use Rattle.rp_boxindex.proofs.Rising.{sorted_ids}
use Rattle.rp_boxindex.proofs.Taken.{taken-pushed}
use Rattle.rp_boxindex.proofs.Trees.{entries_of_cells, entries_of_tree}
use Rattle.rp_boxindex.proofs.Walks.{walked}
use Rattle.rp_boxindex.proofs.index.Index.meeting.Goals as goal

pub returns-in_err-collect-clause-few : goal.returns-in_err-collect-clause-few
returns-in_err-collect-clause-few g c =
    let same : SameCounts (entries c.args.self.now) c.self.inside.tree.entries = entries_of_tree c.self.inside.tree.entries c.self.inside.cells.entries c.self.inside.lows.map.entries c.args.self.now c.self.invariant c.show_order.ensures.ordered c.self.view_is in
    few_steps c.args.closed (integer_box c.args.bounds.now) c.self.inside.tree c.args.self.now c.args.steps.now c.collect.new.steps same c.collect.ensures.slender c.collect.ensures.most

pub returns-then-is_done-clause-few : goal.returns-then-is_done-clause-few
returns-then-is_done-clause-few g c =
    let same : SameCounts (entries c.args.self.now) c.self.inside.tree.entries = entries_of_tree c.self.inside.tree.entries c.self.inside.cells.entries c.self.inside.lows.map.entries c.args.self.now c.self.invariant c.show_order.ensures.ordered c.self.view_is in
    few_steps c.args.closed (integer_box c.args.bounds.now) c.self.inside.tree c.args.self.now c.args.steps.now c.collect.new.steps same c.collect.ensures.slender c.collect.ensures.most

pub returns-clause-few : goal.returns-clause-few
returns-clause-few g c =
    let same : SameCounts (entries c.args.self.now) c.self.inside.tree.entries = entries_of_tree c.self.inside.tree.entries c.self.inside.cells.entries c.self.inside.lows.map.entries c.args.self.now c.self.invariant c.show_order.ensures.ordered c.self.view_is in
    few_steps c.args.closed (integer_box c.args.bounds.now) c.self.inside.tree c.args.self.now c.args.steps.now c.collect.new.steps same c.collect.ensures.slender c.collect.ensures.most

pub returns-then-is_done-clause-exact : goal.returns-then-is_done-clause-exact
returns-then-is_done-clause-exact g c =
    let closed : Bool = c.args.closed in
    let b : IntegerBox = integer_box c.args.bounds.now in
    let t : List Entry = c.self.inside.cells.entries in
    let ids : List ℕ = ids_that_meet closed b t in
    let same : SameCounts (entries c.args.self.now) t = entries_of_cells c.self.inside.tree.entries t c.self.inside.lows.map.entries c.args.self.now c.self.invariant c.show_order.ensures.ordered c.self.view_is in
    let done : is_done c.collect.new.walk ≡ true = sym c.is_done.ensures ∙ c.if-is_done.true in
    let all = walked (λ (xs : List ℕ) x. xs ++ x ∷ []) closed b c.new-walk.result c.collect.new.walk c.new-2.result.items t c.collect.ensures.further done c.new-walk.ensures.pending c.new-walk.ensures.taker in
    let found : c.into_taker.result ≡ ids = c.into_taker.ensures ∙ (all ∙ (taken-pushed c.new-2.result.items ids ∙ ap (λ xs. xs ++ ids) c.new-2.ensures.items)) in
    let moved : IsPermutation ids c.into_sorted.result.items = subst (λ (xs : List ℕ). IsPermutation xs c.into_sorted.result.items) found c.into_sorted.ensures.permutation in
    sorted_ids closed b t c.args.self.now c.into_sorted.result.items same moved c.into_sorted.ensures.sorted

pub returns-clause-exact : goal.returns-clause-exact
returns-clause-exact g c =
    let closed : Bool = c.args.closed in
    let b : IntegerBox = integer_box c.args.bounds.now in
    let t : List Entry = c.self.inside.tree.entries in
    let ids : List ℕ = ids_that_meet closed b t in
    let same : SameCounts (entries c.args.self.now) t = entries_of_tree t c.self.inside.cells.entries c.self.inside.lows.map.entries c.args.self.now c.self.invariant c.show_order.ensures.ordered c.self.view_is in
    let undone : is_done c.collect.new.walk ≡ false = sym c.is_done.ensures ∙ c.if-is_done.false in
    let found : c.collect.new.taker ≡ ids = c.in_ok-collect.ensures.found undone ∙ (taken-pushed c.new.result.items ids ∙ ap (λ xs. xs ++ ids) c.new.ensures.items) in
    let moved : IsPermutation ids c.into_sorted-2.result.items = subst (λ (xs : List ℕ). IsPermutation xs c.into_sorted-2.result.items) found c.into_sorted-2.ensures.permutation in
    sorted_ids closed b t c.args.self.now c.into_sorted-2.result.items same moved c.into_sorted-2.ensures.sorted
