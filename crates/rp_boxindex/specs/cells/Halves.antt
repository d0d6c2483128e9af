-- The halves of a cell.
use Rattle.std.specs.Prelude.{◌≡◌, Bool, not, nat_le, int_le, List}
use Rattle.rp_boxindex.specs.Boxes.{Entry}
use Rattle.rp_boxindex.specs.Counts.{count}
use Rattle.rp_boxindex.specs.declared.middle.Middle.{Middle}
use Rattle.rp_boxindex.specs.declared.middle.Middle.TheVariants.{X, Y, Z, Id}
use Rattle.rp_boxindex.specs.declared.place.Place.{Place}
use Rattle.rp_boxindex.specs.tree.Order.{place_of}

-- the place is in the upper half of a cell with the given middle
abbrev pub is_upper : Middle → Place → Bool
is_upper (X middle) p = int_le middle p.low.x
is_upper (Y middle) p = int_le middle p.low.y
is_upper (Z middle) p = int_le middle p.low.z
is_upper (Id middle) p = nat_le middle p.id

-- all entries of a list are in the lower half
abbrev pub AllLower : Middle → List Entry → Type 0
AllLower middle es = count (λ e. is_upper middle (place_of e)) es ≡ 0

-- all entries of a list are in the upper half
abbrev pub AllUpper : Middle → List Entry → Type 0
AllUpper middle es = count (λ e. not (is_upper middle (place_of e))) es ≡ 0

-- all entries of the first list are in the lower half, and all of the second in the upper half
pub record AreHalves (lower : List Entry) (middle : Middle) (upper : List Entry) : Type 0 where
  pub below : AllLower middle lower
  pub above : AllUpper middle upper
