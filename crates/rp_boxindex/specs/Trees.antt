-- The relation of the two trees of an index.
use Rattle.std.specs.Prelude.{◌≡◌, ℕ, List}
use Rattle.std.specs.FinMap.{from_entries}
use Rattle.std.specs.Ordering.{nat_cmp}
use Rattle.rp_boxindex.specs.Boxes.{Entry}
use Rattle.rp_boxindex.specs.Counts.{SameCounts}
use Rattle.rp_boxindex.specs.declared.place.Corner.{Corner}
use Rattle.rp_boxindex.specs.tree.Order.{lows_of}

-- the least corner of each box is stored, and both trees have the same finite map
pub record AreTrees (tree cells : List Entry) (lows : List (ℕ × Corner)) : Type 0 where
  pub tree_lows : SameCounts (lows_of tree) lows
  pub cells_lows : SameCounts (lows_of cells) lows
  pub same_map : from_entries {R = nat_cmp} cells ≡ from_entries tree
