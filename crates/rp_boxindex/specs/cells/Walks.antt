-- A walk through a tree of cells.
use Rattle.std.specs.Prelude.{◌≡◌, ℕ, Bool, true, false, not, ◌&&◌, List, [], ◌∷◌, ◌++◌, Option, Some, None}
use Rattle.std.specs.Borrow.{Bor}
use Rattle.rp_geometry.specs.Geometry.{IntegerBox}
use Rattle.rp_boxindex.specs.Boxes.{Entry}
use Rattle.rp_boxindex.specs.cells.Views.{CellsView}
use Rattle.rp_boxindex.specs.declared.walk.Pending.{Pending}
use Rattle.rp_boxindex.specs.declared.walk.Pending.TheVariants.{Whole, Trees}
use Rattle.rp_boxindex.specs.declared.walk.Walk.{Walk}
use Rattle.rp_boxindex.specs.Meeting.{ids_that_meet}
use Rattle.rp_boxindex.specs.tree.Taking.{taken}

-- the entries of the trees of a list, those of the last one first
abbrev pub tree_entries : List (Option (Bor CellsView)) → List Entry
tree_entries [] = []
tree_entries (None ∷ rest) = tree_entries rest
tree_entries (Some cells ∷ rest) = tree_entries rest ++ cells.now.entries

-- a list has no item
abbrev pub has_no_item : List (Option (Bor CellsView)) → Bool
has_no_item [] = true
has_no_item (o ∷ rest) = false

-- the entries of the pending trees, those of the last tree first
abbrev pub pending_entries : Pending → List Entry
pending_entries (Whole cells) = cells.now.entries
pending_entries (Trees trees) = tree_entries trees.items

-- no tree is pending
abbrev pub are_none : Pending → Bool
are_none (Whole cells) = false
are_none (Trees trees) = has_no_item trees.items

-- the walk has visited its whole tree
abbrev pub is_done : {S : Type 0} → Walk S → Bool
is_done walk = not walk.is_lost && are_none walk.pending

-- the state of the taker at the end of the walk
abbrev pub outcome : {S : Type 0} → (S → ℕ → S) → Bool → IntegerBox → Walk S → S
outcome after closed b walk = taken after walk.taker (ids_that_meet closed b (pending_entries walk.pending))

-- the walk has the same outcome as before unless it is lost, and is done if it was done
pub record IsFurther {S : Type 0} (after : S → ℕ → S) (closed : Bool) (b : IntegerBox) (old new : Walk S) : Type 0 where
  pub done : is_done old ≡ true → is_done new ≡ true
  pub stays : new.is_lost ≡ false → old.is_lost ≡ false
  pub same : new.is_lost ≡ false → outcome after closed b new ≡ outcome after closed b old
