-- The view of a tree.
use Rattle.std.specs.Prelude.{ℕ, List, []}
use Rattle.rp_boxindex.specs.Boxes.{Entry}

-- the entries in order, and the height
pub record TreeView : Type 0 where
  pub entries : List Entry
  pub height : ℕ

-- no entries
abbrev pub empty_tree : TreeView
empty_tree = record { entries = []; height = 0 }
