-- The invariant of each node of a tree of cells.
use Rattle.std.specs.Prelude.{◌≡◌, List, ◌∷◌, ◌++◌, Option, Some, None, Box}
use Rattle.std.specs.declared.alloc.Global.{Global}
use Rattle.rp_geometry.specs.Geometry.{IntegerBox}
use Rattle.rp_space.specs.Boxes.{integer_box}
use Rattle.rp_boxindex.specs.Boxes.{Entry}
use Rattle.rp_boxindex.specs.cells.Halves.{AreHalves}
use Rattle.rp_boxindex.specs.cells.Views.{CellsView, empty_cells}
use Rattle.rp_boxindex.specs.declared.cells.CellNode.{CellNode}
use Rattle.rp_boxindex.specs.declared.middle.Middle.{Middle}
use Rattle.rp_boxindex.specs.tree.Nodes.{AreWithin}

-- the entries of a node and of the nodes below it
abbrev pub cell_entries : CellNode → List Entry
cell_entries n = n.entry ∷ (n.lower.entries ++ n.upper.entries)

-- the entry of a node, if there is one
abbrev pub cell_entry : Option (Box CellNode Global) → Option Entry
cell_entry None = None
cell_entry (Some n) = Some n.value.entry

-- the view of a tree with the given root
abbrev pub cells_view : Option (Box CellNode Global) → CellsView
cells_view None = empty_cells
cells_view (Some n) = record { entries = cell_entries n.value }

-- the tree has an entry and two sides, which are the halves of its cell
pub record AreSides (cells lower : CellsView) (middle : Middle) (e : Entry) (upper : CellsView) : Type 0 where
  pub entries : cells.entries ≡ e ∷ (lower.entries ++ upper.entries)
  pub halves : AreHalves lower.entries middle upper.entries

-- the result of a visit of a tree: an entry, a box around all entries, and the two sides
pub record IsShown (cells : CellsView) (e : Entry) (hull : IntegerBox) (lower upper : CellsView) : Type 0 where
  pub entries : cells.entries ≡ e ∷ (lower.entries ++ upper.entries)
  pub around : AreWithin hull cells.entries

-- the invariant of a node: its sides are the halves of its cell, and its box is around all entries
pub record IsCell (n : CellNode) : Type 0 where
  pub halves : AreHalves n.lower.entries n.middle n.upper.entries
  pub hull : AreWithin (integer_box n.hull) (cell_entries n)

-- the invariant of the root, if there is one
abbrev pub AreCells : Option (Box CellNode Global) → Type 0
AreCells None = Unit {0}
AreCells (Some n) = IsCell n.value
