-- The ids of the boxes that meet a box, as laws.
use Rattle.std.specs.Prelude.{◌≡◌, ℕ, ◌==◌, Bool, false, Option, Some, None}
use Rattle.std.specs.FinMap.{get}
use Rattle.std.specs.List.{list_any}
use Rattle.std.specs.List.Sorted.{IsStrictlySortedBy}
use Rattle.std.specs.Ordering.{nat_cmp}
use Rattle.rp_geometry.specs.Geometry.{IntegerBox}
use Rattle.rp_space.specs.Boxes.{integer_box}
use Rattle.rp_space.specs.declared.bounds.IntBox.{IntBox}
use Rattle.rp_boxindex.specs.Boxes.{Boxes}
use Rattle.rp_boxindex.specs.Meeting.{do_meet, meeting_ids}

-- there is a box, and it meets the given one
abbrev pub is_there_and_meets : Bool → IntegerBox → Option IntBox → Bool
is_there_and_meets closed b None = false
is_there_and_meets closed b (Some e) = do_meet closed b (integer_box e)

-- an id is returned iff it has a box that meets the box of the search
abbrev pub MeetingIdsAreExact : Type 0
MeetingIdsAreExact = (closed : Bool) (b : IntegerBox) (boxes : Boxes) (id : ℕ) → list_any (λ i. i == id) (meeting_ids closed b boxes) ≡ is_there_and_meets closed b (get boxes id)

-- the returned ids strictly rise
abbrev pub MeetingIdsRise : Type 0
MeetingIdsRise = (closed : Bool) (b : IntegerBox) (boxes : Boxes) → IsStrictlySortedBy nat_cmp (meeting_ids closed b boxes)
