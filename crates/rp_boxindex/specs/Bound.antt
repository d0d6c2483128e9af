-- The bound of the number of nodes that a search visits.
use Rattle.std.specs.Prelude.{ℕ, ◌+◌, ◌*◌, ◌^◌, ◌<◌, ◌≤◌, Bool}
use Rattle.std.specs.FinMap.{entries}
use Rattle.rp_geometry.specs.Geometry.{IntegerBox}
use Rattle.rp_space.specs.Boxes.{integer_box}
use Rattle.rp_boxindex.specs.Boxes.{Boxes, Entry}
use Rattle.rp_boxindex.specs.Counts.{count}
use Rattle.rp_boxindex.specs.Meeting.{do_spans_meet}

-- the box of an entry meets a box on the x axis, as closed or as half-open boxes
abbrev pub meets_on_x : Bool → IntegerBox → Entry → Bool
meets_on_x closed b e = do_spans_meet closed b.x1 b.x2 (integer_box e.1).x1 (integer_box e.1).x2

-- the number of boxes that meet a box on the x axis
abbrev pub count_on_x : Bool → IntegerBox → Boxes → ℕ
count_on_x closed b boxes = count (meets_on_x closed b) (entries boxes)

-- h is the greatest whole number with 2^h <= (n + 1)^2
abbrev pub IsGreatestExponent : ℕ → ℕ → Type 0
IsGreatestExponent n h = (2 ^ h ≤ (n + 1) * (n + 1)) × ((n + 1) * (n + 1) < 2 ^ (h + 1))
