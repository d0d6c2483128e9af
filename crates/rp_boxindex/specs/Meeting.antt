-- When boxes meet.
use Rattle.std.specs.Prelude.{ℕ, Bool, cond, ◌&&◌, ℤ, int_lt, int_le, List, [], ◌∷◌, map, Option, Some, None}
use Rattle.std.specs.List.{filter}
use Rattle.std.specs.FinMap.{entries}
use Rattle.rp_geometry.specs.Geometry.{IntegerBox, boxes_meet, closed_boxes_meet}
use Rattle.rp_space.specs.Boxes.{integer_box}
use Rattle.rp_boxindex.specs.Boxes.{Boxes, Entry}

-- a bound is below another; for closed boxes they may be equal
abbrev pub is_below : Bool → ℤ → ℤ → Bool
is_below closed a b = cond closed (int_le a b) (int_lt a b)

-- two intervals on an axis meet: from a to b, and from c to d
abbrev pub do_spans_meet : Bool → ℤ → ℤ → ℤ → ℤ → Bool
do_spans_meet closed a b c d = is_below closed a d && is_below closed c b

-- two boxes meet, as closed or as half-open boxes
abbrev pub do_meet : Bool → IntegerBox → IntegerBox → Bool
do_meet closed b e = cond closed (closed_boxes_meet b e) (boxes_meet b e)

-- the box of an entry meets a box
abbrev pub meets : Bool → IntegerBox → Entry → Bool
meets closed b e = do_meet closed b (integer_box e.1)

-- the ids of the entries whose boxes meet a box, in the order of the list
abbrev pub ids_that_meet : Bool → IntegerBox → List Entry → List ℕ
ids_that_meet closed b es = map (λ e. e.0) (filter (meets closed b) es)

-- the ids of the boxes that meet a box, in rising order
abbrev pub meeting_ids : Bool → IntegerBox → Boxes → List ℕ
meeting_ids closed b boxes = ids_that_meet closed b (entries boxes)

-- the first number of a list that passes a test
abbrev pub first_that : (ℕ → Bool) → List ℕ → Option ℕ
first_that passes [] = None
first_that passes (id ∷ ids) = cond (passes id) (Some id) (first_that passes ids)
