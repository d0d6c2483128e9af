-- The trees of an index after a change: both make one map.
use Rattle.std.proofs.Common.{◌≡◌, ℕ, List, ◌∷◌, Some, None, sym, ap, ◌∙◌}
use Rattle.std.specs.Ordering.{nat_cmp}
use Rattle.std.specs.FinMap.{from_entries, entries, insert, remove}
use Rattle.std.specs.Map.{lookup, remove_entry, keys_of}
use Rattle.std.specs.BTreeMap.{is_at, insert_entry}
use Rattle.std.specs.List.Sorted.{IsStrictlySortedBy}
use Rattle.rp_space.specs.declared.bounds.IntBox.{IntBox}
use Rattle.rp_boxindex.specs.Boxes.{Entry, Boxes}
use Rattle.rp_boxindex.specs.Counts.{SameCounts}
use Rattle.rp_boxindex.specs.declared.place.Corner.{Corner}
use Rattle.rp_boxindex.specs.tree.Order.{corner_of, lows_of}
use Rattle.rp_boxindex.specs.Trees.{AreTrees}
use Rattle.rp_boxindex.proofs.Few.{entries_of_map}
use Rattle.rp_boxindex.proofs.Maps.{ids_unique, kept_inserted, map_inserted, map_removed, IsTaken, kept_changed, map_changed}

-- the entries of the map are those of the tree, and those of the tree of cells
pub entries_of_tree : (t cs : List Entry) (pl : List (ℕ × Corner)) (m : Boxes) → AreTrees t cs pl → IsStrictlySortedBy nat_cmp (keys_of pl) → from_entries t ≡ m → SameCounts (entries m) t
entries_of_tree t cs pl m trees order is = entries_of_map t m (ids_unique t pl trees.tree_lows order) is

pub entries_of_cells : (t cs : List Entry) (pl : List (ℕ × Corner)) (m : Boxes) → AreTrees t cs pl → IsStrictlySortedBy nat_cmp (keys_of pl) → from_entries t ≡ m → SameCounts (entries m) cs
entries_of_cells t cs pl m trees order is = entries_of_map cs m (ids_unique cs pl trees.cells_lows order) (trees.same_map ∙ is)

-- a box more in both
pub trees_inserted : (t cs s ds : List Entry) (pl ql : List (ℕ × Corner)) (k : ℕ) (v : IntBox) → AreTrees t cs pl → lookup (is_at (nat_cmp k)) pl ≡ None → SameCounts s ((k, v) ∷ t) → SameCounts ds ((k, v) ∷ cs) → ql ≡ insert_entry nat_cmp pl k (corner_of (k, v)) → IsStrictlySortedBy nat_cmp (keys_of ql) → AreTrees s ds ql
trees_inserted t cs s ds pl ql k v trees none grown more is order =
    let tree_kept : SameCounts (lows_of s) ql = kept_inserted t s pl ql k v trees.tree_lows none grown is in
    let cells_kept : SameCounts (lows_of ds) ql = kept_inserted cs ds pl ql k v trees.cells_lows none more is in
    record {
      tree_lows = tree_kept;
      cells_lows = cells_kept;
      same_map = map_inserted cs ds k v more (ids_unique ds ql cells_kept order) ∙ (ap (λ (m : Boxes). insert m k v) trees.same_map ∙ sym (map_inserted t s k v grown (ids_unique s ql tree_kept order)));
    }

-- a box less in both
pub trees_removed : (t cs rest others : List Entry) (pl ql : List (ℕ × Corner)) (k : ℕ) → AreTrees t cs pl → IsStrictlySortedBy nat_cmp (keys_of pl) → IsTaken t rest ql k → IsTaken cs others ql k → AreTrees rest others ql
trees_removed t cs rest others pl ql k trees order out off = record {
  tree_lows = out.kept;
  cells_lows = off.kept;
  same_map = map_removed cs others k off.entry off.shrunk off.id (ids_unique cs pl trees.cells_lows order) ∙ (ap (λ (m : Boxes). remove m k) trees.same_map ∙ sym (map_removed t rest k out.entry out.shrunk out.id (ids_unique t pl trees.tree_lows order)));
}

-- a box in the place of another in both
pub trees_changed : (t cs rest others s ds : List Entry) (pl ql : List (ℕ × Corner)) (k : ℕ) (low : Corner) (v : IntBox) → AreTrees t cs pl → IsStrictlySortedBy nat_cmp (keys_of pl) → lookup (is_at (nat_cmp k)) pl ≡ Some low → IsTaken t rest (remove_entry (is_at (nat_cmp k)) pl) k → IsTaken cs others (remove_entry (is_at (nat_cmp k)) pl) k → SameCounts s ((k, v) ∷ rest) → SameCounts ds ((k, v) ∷ others) → ql ≡ insert_entry nat_cmp pl k (corner_of (k, v)) → AreTrees s ds ql
trees_changed t cs rest others s ds pl ql k low v trees order there out off grown more is = record {
  tree_lows = kept_changed t rest pl k low v trees.tree_lows order there out s grown ql is;
  cells_lows = kept_changed cs others pl k low v trees.cells_lows order there off ds more ql is;
  same_map = map_changed cs others pl k low v trees.cells_lows order there off ds more ∙ (ap (λ (m : Boxes). insert m k v) trees.same_map ∙ sym (map_changed t rest pl k low v trees.tree_lows order there out s grown));
}
