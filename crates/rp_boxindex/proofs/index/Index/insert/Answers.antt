use Rattle.std.proofs.Common.{◌≡◌, false, ◌∷◌, None, sym, ap, ◌∙◌}
use Rattle.std.specs.Ordering.{nat_cmp}
use Rattle.std.specs.FinMap.{insert, contains_key}
use Rattle.std.specs.Map.{lookup}
use Rattle.std.specs.BTreeMap.{is_at, insert_entry}
use Rattle.rp_boxindex.specs.Counts.{SameCounts}
use Rattle.rp_boxindex.specs.Boxes.{Boxes}
use Rattle.rp_boxindex.specs.tree.Order.{corner_of, lows_of}
use Rattle.rp_boxindex.proofs.Few.{not_too_high}
use Rattle.rp_boxindex.proofs.Known.{none_of, memory_is_not_known}
use Rattle.rp_boxindex.proofs.Maps.{contains_is, ids_unique, place_is_free, map_inserted}
use Rattle.rp_boxindex.proofs.Trees.{trees_inserted}
use Rattle.rp_boxindex.proofs.index.Index.insert.Goals as goal

pub returns-then-contains-clause-known : goal.returns-then-contains-clause-known
returns-then-contains-clause-known c = sym (contains_is c.self.inside.tree.entries c.self.inside.lows.map.entries c.args.self.now c.args.id c.self.invariant.tree_lows c.self.view_is ∙ (sym c.contains.ensures ∙ c.if-contains.true))

pub returns-in_err-node-clause-known : goal.returns-in_err-node-clause-known
returns-in_err-node-clause-known c =
    let absent : contains_key c.args.self.now c.args.id ≡ false = contains_is c.self.inside.tree.entries c.self.inside.lows.map.entries c.args.self.now c.args.id c.self.invariant.tree_lows c.self.view_is ∙ (sym c.contains.ensures ∙ c.if-contains.false) in
    memory_is_not_known c.from_residual.result _ (contains_key c.args.self.now c.args.id) absent c.from_residual.ensures.1

pub returns-in_err-insert-clause-known : goal.returns-in_err-insert-clause-known
returns-in_err-insert-clause-known c =
    let absent : contains_key c.args.self.now c.args.id ≡ false = contains_is c.self.inside.tree.entries c.self.inside.lows.map.entries c.args.self.now c.args.id c.self.invariant.tree_lows c.self.view_is ∙ (sym c.contains.ensures ∙ c.if-contains.false) in
    memory_is_not_known c.from_residual-in_err-insert.result _ (contains_key c.args.self.now c.args.id) absent c.from_residual-in_err-insert.ensures.1

pub returns-in_err-cell-clause-known : goal.returns-in_err-cell-clause-known
returns-in_err-cell-clause-known c =
    let absent : contains_key c.args.self.now c.args.id ≡ false = contains_is c.self.inside.tree.entries c.self.inside.lows.map.entries c.args.self.now c.args.id c.self.invariant.tree_lows c.self.view_is ∙ (sym c.contains.ensures ∙ c.if-contains.false) in
    memory_is_not_known c.from_residual-in_err-cell.result _ (contains_key c.args.self.now c.args.id) absent c.from_residual-in_err-cell.ensures.1

pub with-requires-clause-fits : goal.with-requires-clause-fits
with-requires-clause-fits c =
    rw c.take-tree.ensures.taken (not_too_high c.self.inside.tree c.self.inside.lows.map.entries c.self.invariant.tree_lows c.take-tree.ensures.slender c.show_order.ensures.small)

pub with-requires-clause-free : goal.with-requires-clause-free
with-requires-clause-free c =
    let absent : lookup (is_at (nat_cmp c.args.id)) c.self.inside.lows.map.entries ≡ None = none_of _ (sym c.contains.ensures ∙ c.if-contains.false) in
    rw (c.in_ok-node.ensures, c.take-tree.ensures.taken) (place_is_free c.self.inside.tree.entries c.self.inside.lows.map.entries c.args.id c.args.bounds c.self.invariant.tree_lows absent)

pub invariant_of-self-2 : goal.invariant_of-self-2
invariant_of-self-2 c =
    let absent : lookup (is_at (nat_cmp c.args.id)) c.self.inside.lows.map.entries ≡ None = none_of _ (sym c.contains.ensures ∙ c.if-contains.false) in
    let given = c.with.ensures.entries in
    let grown : SameCounts c.with.result.entries ((c.args.id, c.args.bounds) ∷ c.self.inside.tree.entries) = rw (c.in_ok-node.ensures, c.take-tree.ensures.taken) at given in
    let more_given = c.put.ensures in
    let more : SameCounts c.put.new.self.entries ((c.args.id, c.args.bounds) ∷ c.self.inside.cells.entries) = rw c.in_ok-cell.ensures at more_given in
    let put : c.insert.new.self.map.entries ≡ insert_entry nat_cmp c.self.inside.lows.map.entries c.args.id (corner_of (c.args.id, c.args.bounds)) = c.in_ok-insert.ensures.entries ∙ ap (insert_entry nat_cmp c.self.inside.lows.map.entries c.args.id) c.of-low.ensures in
    trees_inserted c.self.inside.tree.entries c.self.inside.cells.entries c.with.result.entries c.put.new.self.entries c.self.inside.lows.map.entries c.insert.new.self.map.entries c.args.id c.args.bounds c.self.invariant absent grown more put c.in_ok-insert.ensures.ordered

pub returns-clause-new : goal.returns-clause-new
returns-clause-new c = contains_is c.self.inside.tree.entries c.self.inside.lows.map.entries c.args.self.now c.args.id c.self.invariant.tree_lows c.self.view_is ∙ (sym c.contains.ensures ∙ c.if-contains.false)

pub returns-clause-ok : goal.returns-clause-ok
returns-clause-ok c =
    let given = c.with.ensures.entries in
    let grown : SameCounts c.with.result.entries ((c.args.id, c.args.bounds) ∷ c.self.inside.tree.entries) = rw (c.in_ok-node.ensures, c.take-tree.ensures.taken) at given in
    let kept : SameCounts (lows_of c.with.result.entries) c.insert.new.self.map.entries = (invariant_of-self-2 c).tree_lows in
    map_inserted c.self.inside.tree.entries c.with.result.entries c.args.id c.args.bounds grown (ids_unique c.with.result.entries c.insert.new.self.map.entries kept c.in_ok-insert.ensures.ordered) ∙ ap (λ (m : Boxes). insert m c.args.id c.args.bounds) c.self.view_is
