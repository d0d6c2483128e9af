-- The order of the entries of a tree.
use Rattle.std.specs.Prelude.{◌≡◌, ℕ, Bool, not, ◌&&◌, ◌||◌, nat_lt, ℤ, int_lt, List, map}
use Rattle.std.specs.Ordering.{int_eq}
use Rattle.rp_space.specs.Boxes.{integer_box}
use Rattle.rp_boxindex.specs.Boxes.{Entry}
use Rattle.rp_boxindex.specs.Counts.{count}
use Rattle.rp_boxindex.specs.declared.place.Corner.{Corner}
use Rattle.rp_boxindex.specs.declared.place.Place.{Place}

-- the least x of an entry's box
abbrev pub low : Entry → ℤ
low e = (integer_box e.1).x1

-- the least corner of an entry's box
abbrev pub corner_of : Entry → Corner
corner_of e = record { x = (integer_box e.1).x1; y = (integer_box e.1).y1; z = (integer_box e.1).z1 }

-- the id of each entry, with the least corner of its box
abbrev pub lows_of : List Entry → List (ℕ × Corner)
lows_of es = map (λ e. (e.0, corner_of e)) es

-- the place of an entry in the order
abbrev pub place_of : Entry → Place
place_of e = record { low = corner_of e; id = e.0 }

-- a number is less than another, or equal and the further comparison is true
abbrev pub is_less_or : ℤ → ℤ → Bool → Bool
is_less_or a b behind = int_lt a b || (int_eq a b && behind)

-- a place comes before another: by the least x, then the least y, then the least z, and then the id
abbrev pub precedes : Place → Place → Bool
precedes p q = is_less_or p.low.x q.low.x (is_less_or p.low.y q.low.y (is_less_or p.low.z q.low.z (nat_lt p.id q.id)))

-- the first entry comes before the second
abbrev pub is_before : Entry → Entry → Bool
is_before a b = precedes (place_of a) (place_of b)

-- the entry is at the place: neither comes before the other
abbrev pub is_at_place : Place → Entry → Bool
is_at_place p e = not (precedes p (place_of e)) && not (precedes (place_of e) p)

-- all entries of the list come before the entry
abbrev pub AllBefore : List Entry → Entry → Type 0
AllBefore es e = count (λ x. not (is_before x e)) es ≡ 0

-- all entries of the list come after the entry
abbrev pub AllAfter : Entry → List Entry → Type 0
AllAfter e es = count (λ x. not (is_before e x)) es ≡ 0

-- the entry comes after all of the first list and before all of the second
pub record IsBetween (left : List Entry) (e : Entry) (right : List Entry) : Type 0 where
  pub before : AllBefore left e
  pub after : AllAfter e right
