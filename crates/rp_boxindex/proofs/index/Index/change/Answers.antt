use Rattle.std.proofs.Common.{◌≡◌, ℕ, ◌≤◌, true, ◌++◌, List, Option, Some, MatchOption, ◌∷◌, refl, sym, ap, ◌∙◌, subst, is_some, arith}
use Rattle.std.specs.Ordering.{nat_cmp}
use Rattle.std.specs.FinMap.{insert}
use Rattle.std.specs.Map.{lookup, remove_entry}
use Rattle.std.specs.BTreeMap.{is_at, insert_entry}
use Rattle.std.specs.Option.{option_to_list}
use Rattle.rp_boxindex.specs.cells.Nodes.{cell_entry}
use Rattle.rp_boxindex.specs.Counts.{count, SameCounts}
use Rattle.rp_boxindex.specs.declared.place.Corner.{Corner}
use Rattle.rp_boxindex.specs.Boxes.{Boxes, Entry}
use Rattle.rp_boxindex.specs.tree.Nodes.{entry_of}
use Rattle.rp_boxindex.specs.tree.Order.{place_of, is_at_place}
use Rattle.rp_boxindex.proofs.Few.{not_too_high}
use Rattle.rp_boxindex.proofs.Maps.{contains_is, place_is_left, map_changed, IsTakenOut, none_taken, taken}
use Rattle.rp_boxindex.proofs.Trees.{trees_changed}
use Rattle.rp_boxindex.proofs.index.Index.change.Goals as goal

pub returns-in_default-clause-there : goal.returns-in_default-clause-there
returns-in_default-clause-there c = sym (contains_is c.self.inside.tree.entries c.self.inside.lows.map.entries c.args.self.now c.args.id c.self.invariant.tree_lows c.self.view_is ∙ (ap is_some (sym c.change.ensures.value) ∙ ap is_some c.in_default.is))

pub without-rest-requires : goal.without-rest-requires
without-rest-requires c =
    rw c.take-tree.ensures.taken (record { fits = not_too_high c.self.inside.tree c.self.inside.lows.map.entries c.self.invariant.tree_lows c.take-tree.ensures.slender c.show_order.ensures.small })

-- what is found at the place of the id
taken_out : (t rest : List Entry) (k : ℕ) (low : Corner) (tree : List Entry) (gone : Option Entry) → tree ≡ t → SameCounts tree (option_to_list gone ++ rest) → MatchOption gone (count (is_at_place (record { low = low; id = k })) tree ≡ 0) (λ e. is_at_place (record { low = low; id = k }) e ≡ true) → IsTakenOut t rest (record { low = low; id = k }) gone
taken_out t rest k low tree gone same shrunk found = subst (λ (es : List Entry). IsTakenOut es rest (record { low = low; id = k }) gone) same (record { shrunk = shrunk; found = found })

pub unreachable-requires : goal.unreachable-requires
unreachable-requires c =
    let t : List Entry = c.self.inside.tree.entries in
    let rest : List Entry = c.without-rest.result.0.entries in
    let there : lookup (is_at (nat_cmp c.args.id)) c.self.inside.lows.map.entries ≡ Some c.in-Some.low = sym c.change.ensures.value ∙ c.in-Some.is in
    let out = taken_out t rest c.args.id c.in-Some.low c.take-tree.result.entries (entry_of c.without-rest.result.1) (ap (λ t. t.entries) c.take-tree.ensures.taken) c.without-rest.ensures.entries c.without-rest.ensures.gone in
    none_taken t rest c.self.inside.lows.map.entries c.args.id c.in-Some.low c.self.invariant.tree_lows there (subst (λ (gone : Option Entry). IsTakenOut t rest (record { low = c.in-Some.low; id = c.args.id }) gone) (ap entry_of c.in_default-node.is) out)

pub unreachable-requires-in_default-cell : goal.unreachable-requires-in_default-cell
unreachable-requires-in_default-cell c =
    let t : List Entry = c.self.inside.cells.entries in
    let rest : List Entry = c.without-others.result.0.entries in
    let there : lookup (is_at (nat_cmp c.args.id)) c.self.inside.lows.map.entries ≡ Some c.in-Some.low = sym c.change.ensures.value ∙ c.in-Some.is in
    let out = taken_out t rest c.args.id c.in-Some.low c.take-cells.result.entries (cell_entry c.without-others.result.1) (ap (λ t. t.entries) c.take-cells.ensures.taken) c.without-others.ensures.entries c.without-others.ensures.gone in
    none_taken t rest c.self.inside.lows.map.entries c.args.id c.in-Some.low c.self.invariant.cells_lows there (subst (λ (gone : Option Entry). IsTakenOut t rest (record { low = c.in-Some.low; id = c.args.id }) gone) (ap cell_entry c.in_default-cell.is) out)

pub with-requires-clause-fits : goal.with-requires-clause-fits
with-requires-clause-fits c =
    let low : c.take-tree.result.height ≤ 198 = rw c.take-tree.ensures.taken (not_too_high c.self.inside.tree c.self.inside.lows.map.entries c.self.invariant.tree_lows c.take-tree.ensures.slender c.show_order.ensures.small) in
    let less = c.without-rest.ensures.not_higher in
    omega (arith, low, less)

pub with-requires-clause-free : goal.with-requires-clause-free
with-requires-clause-free c =
    let t : List Entry = c.self.inside.tree.entries in
    let pl = c.self.inside.lows.map.entries in
    let rest : List Entry = c.without-rest.result.0.entries in
    let there : lookup (is_at (nat_cmp c.args.id)) pl ≡ Some c.in-Some.low = sym c.change.ensures.value ∙ c.in-Some.is in
    let out = taken_out t rest c.args.id c.in-Some.low c.take-tree.result.entries (entry_of c.without-rest.result.1) (ap (λ t. t.entries) c.take-tree.ensures.taken) c.without-rest.ensures.entries c.without-rest.ensures.gone in
    let entry = taken t rest pl (remove_entry (is_at (nat_cmp c.args.id)) pl) c.args.id c.in-Some.low (entry_of c.without-rest.result.1) c.self.invariant.tree_lows there refl out in
    subst (λ (e : Entry). count (is_at_place (place_of e)) rest ≡ 0) (sym c.hold.ensures) (place_is_left t rest pl c.args.id c.in-Some.low c.args.bounds c.self.invariant.tree_lows c.show_order.ensures.ordered there entry)

-- the tree with the other entry
grown : (e : Entry) (f : Entry) (s rest : List Entry) → e ≡ f → SameCounts s (e ∷ rest) → SameCounts s (f ∷ rest)
grown e f s rest same h = subst (λ (g : Entry). SameCounts s (g ∷ rest)) same h

pub invariant_of-self-2 : goal.invariant_of-self-2
invariant_of-self-2 c =
    let t : List Entry = c.self.inside.tree.entries in
    let pl = c.self.inside.lows.map.entries in
    let rest : List Entry = c.without-rest.result.0.entries in
    let there : lookup (is_at (nat_cmp c.args.id)) pl ≡ Some c.in-Some.low = sym c.change.ensures.value ∙ c.in-Some.is in
    let out = taken_out t rest c.args.id c.in-Some.low c.take-tree.result.entries (entry_of c.without-rest.result.1) (ap (λ t. t.entries) c.take-tree.ensures.taken) c.without-rest.ensures.entries c.without-rest.ensures.gone in
    let entry = taken t rest pl (remove_entry (is_at (nat_cmp c.args.id)) pl) c.args.id c.in-Some.low (entry_of c.without-rest.result.1) c.self.invariant.tree_lows there refl out in
    let cs : List Entry = c.self.inside.cells.entries in
    let others : List Entry = c.without-others.result.0.entries in
    let off = taken_out cs others c.args.id c.in-Some.low c.take-cells.result.entries (cell_entry c.without-others.result.1) (ap (λ t. t.entries) c.take-cells.ensures.taken) c.without-others.ensures.entries c.without-others.ensures.gone in
    let cell = taken cs others pl (remove_entry (is_at (nat_cmp c.args.id)) pl) c.args.id c.in-Some.low (cell_entry c.without-others.result.1) c.self.invariant.cells_lows there refl off in
    trees_changed t cs rest others c.with.result.entries c.put.new.self.entries pl c.change.new.self.map.entries c.args.id c.in-Some.low c.args.bounds c.self.invariant c.show_order.ensures.ordered there entry cell
    (grown c.hold.new.self.entry (c.args.id, c.args.bounds) c.with.result.entries rest c.hold.ensures c.with.ensures.entries)
    (grown c.hold-2.new.self.entry (c.args.id, c.args.bounds) c.put.new.self.entries others c.hold-2.ensures c.put.ensures)
    (c.in-Some.ensures.entries ∙ ap (insert_entry nat_cmp pl c.args.id) c.of.ensures)

pub returns-clause-there : goal.returns-clause-there
returns-clause-there c = sym (contains_is c.self.inside.tree.entries c.self.inside.lows.map.entries c.args.self.now c.args.id c.self.invariant.tree_lows c.self.view_is ∙ (ap is_some (sym c.change.ensures.value) ∙ ap is_some c.in-Some.is))

pub returns-clause-changed : goal.returns-clause-changed
returns-clause-changed c there-is =
    let t : List Entry = c.self.inside.tree.entries in
    let pl = c.self.inside.lows.map.entries in
    let rest : List Entry = c.without-rest.result.0.entries in
    let there : lookup (is_at (nat_cmp c.args.id)) pl ≡ Some c.in-Some.low = sym c.change.ensures.value ∙ c.in-Some.is in
    let out = taken_out t rest c.args.id c.in-Some.low c.take-tree.result.entries (entry_of c.without-rest.result.1) (ap (λ t. t.entries) c.take-tree.ensures.taken) c.without-rest.ensures.entries c.without-rest.ensures.gone in
    let entry = taken t rest pl (remove_entry (is_at (nat_cmp c.args.id)) pl) c.args.id c.in-Some.low (entry_of c.without-rest.result.1) c.self.invariant.tree_lows there refl out in
    map_changed t rest pl c.args.id c.in-Some.low c.args.bounds c.self.invariant.tree_lows c.show_order.ensures.ordered there entry c.with.result.entries (grown c.hold.new.self.entry (c.args.id, c.args.bounds) c.with.result.entries rest c.hold.ensures c.with.ensures.entries)
    ∙ ap (λ (m : Boxes). insert m c.args.id c.args.bounds) c.self.view_is
