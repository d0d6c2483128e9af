use Rattle.std.proofs.Common.{◌≡◌, ℕ, true, ◌++◌, List, Option, Some, MatchOption, sym, ap, ◌∙◌, is_some}
use Rattle.std.specs.Ordering.{nat_cmp}
use Rattle.std.specs.FinMap.{remove}
use Rattle.std.specs.Map.{lookup}
use Rattle.std.specs.BTreeMap.{is_at}
use Rattle.std.specs.Option.{option_to_list}
use Rattle.rp_boxindex.specs.cells.Nodes.{cell_entry}
use Rattle.rp_boxindex.specs.Counts.{count, SameCounts}
use Rattle.rp_boxindex.specs.declared.place.Corner.{Corner}
use Rattle.rp_boxindex.specs.declared.place.Place.{Place}
use Rattle.rp_boxindex.specs.Boxes.{Boxes, Entry}
use Rattle.rp_boxindex.specs.tree.Nodes.{entry_of}
use Rattle.rp_boxindex.specs.tree.Order.{is_at_place}
use Rattle.rp_boxindex.proofs.Few.{not_too_high}
use Rattle.rp_boxindex.proofs.Maps.{contains_is, ids_unique, same_ids_there, map_removed, map_without, IsTakenOut, IsTaken, taken}
use Rattle.rp_boxindex.proofs.Places.{has_id, none_at}
use Rattle.rp_boxindex.proofs.Trees.{trees_removed}
use Rattle.rp_boxindex.proofs.index.Index.remove.Goals as goal

pub without-rest-requires : goal.without-rest-requires
without-rest-requires c =
    rw c.take-tree.ensures.taken (record { fits = not_too_high c.self.inside.tree c.self.inside.lows.map.entries c.self.invariant.tree_lows c.take-tree.ensures.slender c.show_order.ensures.small })

-- the entry that is taken out
entry_taken : (c : goal.Joined-self-others) → IsTaken c.self.inside.tree.entries c.without-rest.result.0.entries c.remove.new.self.map.entries c.args.id
entry_taken c =
    let k : ℕ = c.args.id in
    let low : Corner = c.in-Some.low in
    let t : List Entry = c.self.inside.tree.entries in
    let gone : Option Entry = entry_of c.without-rest.result.1 in
    let rest : List Entry = c.without-rest.result.0.entries in
    let there : lookup (is_at (nat_cmp k)) c.self.inside.lows.map.entries ≡ Some low = sym c.remove.ensures.value ∙ c.in-Some.is in
    let shrunk_given = c.without-rest.ensures.entries in
    let shrunk : SameCounts t (option_to_list gone ++ rest) = rw c.take-tree.ensures.taken at shrunk_given in
    let found_given = c.without-rest.ensures.gone in
    let place : Place = record { low = low; id = k } in
    let found : MatchOption gone (count (is_at_place place) t ≡ 0) (λ e. is_at_place place e ≡ true) = rw c.take-tree.ensures.taken at found_given in
    let out : IsTakenOut t rest place gone = record { shrunk = shrunk; found = found } in
    taken t rest c.self.inside.lows.map.entries c.remove.new.self.map.entries k low gone c.self.invariant.tree_lows there c.remove.ensures.entries out

-- the one of the tree of cells
cell_taken : (c : goal.Joined-self-others) → IsTaken c.self.inside.cells.entries c.without-others.result.0.entries c.remove.new.self.map.entries c.args.id
cell_taken c =
    let k : ℕ = c.args.id in
    let low : Corner = c.in-Some.low in
    let t : List Entry = c.self.inside.cells.entries in
    let gone : Option Entry = cell_entry c.without-others.result.1 in
    let rest : List Entry = c.without-others.result.0.entries in
    let there : lookup (is_at (nat_cmp k)) c.self.inside.lows.map.entries ≡ Some low = sym c.remove.ensures.value ∙ c.in-Some.is in
    let shrunk_given = c.without-others.ensures.entries in
    let shrunk : SameCounts t (option_to_list gone ++ rest) = rw c.take-cells.ensures.taken at shrunk_given in
    let found_given = c.without-others.ensures.gone in
    let place : Place = record { low = low; id = k } in
    let found : MatchOption gone (count (is_at_place place) t ≡ 0) (λ e. is_at_place place e ≡ true) = rw c.take-cells.ensures.taken at found_given in
    let out : IsTakenOut t rest place gone = record { shrunk = shrunk; found = found } in
    taken t rest c.self.inside.lows.map.entries c.remove.new.self.map.entries k low gone c.self.invariant.cells_lows there c.remove.ensures.entries out

pub invariant_of-self-2 : goal.invariant_of-self-2
invariant_of-self-2 c = trees_removed c.self.inside.tree.entries c.self.inside.cells.entries c.without-rest.result.0.entries c.without-others.result.0.entries c.self.inside.lows.map.entries c.remove.new.self.map.entries c.args.id c.self.invariant c.show_order.ensures.ordered (entry_taken c) (cell_taken c)

pub returns-in_default-clause-there : goal.returns-in_default-clause-there
returns-in_default-clause-there c = sym (contains_is c.self.inside.tree.entries c.self.inside.lows.map.entries c.args.self.now c.args.id c.self.invariant.tree_lows c.self.view_is ∙ (ap is_some (sym c.remove.ensures.value) ∙ ap is_some c.in_default.is))

pub returns-in_default-clause-gone : goal.returns-in_default-clause-gone
returns-in_default-clause-gone c =
    let none : count (has_id c.args.id) c.self.inside.tree.entries ≡ 0 = sym (same_ids_there c.self.inside.tree.entries c.self.inside.lows.map.entries c.args.id c.self.invariant.tree_lows) ∙ none_at c.self.inside.lows.map.entries c.args.id (sym c.remove.ensures.value ∙ c.in_default.is) in
    map_without c.self.inside.tree.entries c.args.id none ∙ ap (λ (m : Boxes). remove m c.args.id) c.self.view_is

pub returns-clause-there : goal.returns-clause-there
returns-clause-there c = sym (contains_is c.self.inside.tree.entries c.self.inside.lows.map.entries c.args.self.now c.args.id c.self.invariant.tree_lows c.self.view_is ∙ (ap is_some (sym c.remove.ensures.value) ∙ ap is_some c.in-Some.is))

pub returns-clause-gone : goal.returns-clause-gone
returns-clause-gone c =
    let out = entry_taken c in
    map_removed c.self.inside.tree.entries c.without-rest.result.0.entries c.args.id out.entry out.shrunk out.id (ids_unique c.self.inside.tree.entries c.self.inside.lows.map.entries c.self.invariant.tree_lows c.show_order.ensures.ordered) ∙ ap (λ (m : Boxes). remove m c.args.id) c.self.view_is
