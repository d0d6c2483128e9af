-- The view of a tree of cells.
use Rattle.std.specs.Prelude.{List, []}
use Rattle.rp_boxindex.specs.Boxes.{Entry}

-- the entries, each before those below it
pub record CellsView : Type 0 where
  pub entries : List Entry

-- no entries
abbrev pub empty_cells : CellsView
empty_cells = record { entries = [] }
