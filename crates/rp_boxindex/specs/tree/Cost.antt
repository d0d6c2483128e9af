-- The number of nodes that a search visits.
use Rattle.std.specs.Prelude.{◌≡◌, ℕ, ◌+◌, ◌*◌, Bool, not, List}
use Rattle.rp_geometry.specs.Geometry.{IntegerBox}
use Rattle.rp_boxindex.specs.Boxes.{Entry}
use Rattle.rp_boxindex.specs.Counts.{count}
use Rattle.rp_boxindex.specs.Meeting.{is_below}
use Rattle.rp_boxindex.specs.tree.Order.{low}

-- all boxes of a list begin before a box ends, on the x axis
abbrev pub AllLow : Bool → IntegerBox → List Entry → Type 0
AllLow closed b es = count (λ e. not (is_below closed (low e) b.x2)) es ≡ 0

-- the most steps of a search that alternates between a tree of height h and the tree of cells, if k boxes of the first meet on the x axis
abbrev pub most_steps : ℕ → ℕ → ℕ
most_steps k h = 2 * (k * h) + 2 * h + 2 * k + 1

-- the most nodes that are visited if all boxes begin before the box of the search ends, on the x axis
abbrev pub most_steps_low : ℕ → ℕ → ℕ
most_steps_low k h = 2 * (k * h) + 2 * k + 1
