-- What is left of a search over a list, item by item, up to the first that is found.
use Rattle.std.proofs.Common.{◌≡◌, ℕ, ◌+◌, ◌<◌, ◌≤◌, Bool, true, false, List, [], ◌∷◌, ◌++◌, length, get_or, drop, refl, ap, ◌∙◌}
use Rattle.std.proofs.Math.ListN.{drop_of_length-le}
use Rattle.rp_algebra.proofs.Lists.{drop_item}
use Rattle.rp_geometry.specs.Geometry.{HalfSpace}
use Rattle.rp_geometry.specs.sets.Shape.{Part}
use Rattle.rp_semantics.specs.Walk.{done, Walk, pass, ◌>>=◌, Work}
use Rattle.rp_semantics.specs.Form.{test_pair_if, first_with_part, first_pair}
use Rattle.rp_region.specs.declared.fault.OpFault.{OpFault}
use Rattle.rp_region.specs.Makes.{OnlyTells, IsFaultOf}
use Rattle.rp_region.proofs.Grows.{then_tells, pass_tells}
use Rattle.rp_region.proofs.Left.{IsLeft, left_as, next_left, fault_left, end_left}

-- what comes behind one item: the end, where it was found, and else the rest
abbrev pub unless_found : Walk Work Bool → Bool → Walk Work Bool
unless_found rest found = elim found [ true ↦ pass true | false ↦ rest ]

-- it only appends lines
pub unless_found_tells : (rest : Walk Work Bool) → OnlyTells rest → (found : Bool) → OnlyTells (unless_found rest found)
unless_found_tells rest f true = pass_tells true
unless_found_tells rest f false = f

-- at the end of the list nothing was found
pub search_ended : {X : Type 0} (search : List X → Walk Work Bool) {start now : Work} {whole : Walk Work Bool} (xs : List X) (i : ℕ) → length xs ≤ i → search [] ≡ pass false → IsLeft start whole now (search (drop i xs)) → whole start ≡ done false now
search_ended search {now = now} xs i h e l = end_left (done false now) (left_as (ap search (drop_of_length-le xs h) ∙ e) l) refl

-- ---- any search

module _ {X : Type 0} (step : X → Walk Work Bool) (search : List X → Walk Work Bool) (is : (x : X) (xs : List X) → search (x ∷ xs) ≡ (step x >>= unless_found (search xs)))
    (step_tells : (x : X) → OnlyTells (step x)) (search_tells : (xs : List X) → OnlyTells (search xs)) where
  -- one item and the rest are left
  item_left : {start now : Work} {whole : Walk Work Bool} (xs : List X) (i : ℕ) (x : X) → i < length xs → x ≡ get_or xs i x → IsLeft start whole now (search (drop i xs))
      → IsLeft start whole now (step x >>= unless_found (search (drop (i + 1) xs)))
  item_left xs i x h e l = left_as (ap search (drop_item xs i x h e) ∙ is x (drop (i + 1) xs)) l

  -- the item has a fault
  pub item_fails : {start now : Work} {whole : Walk Work Bool} (xs : List X) (i : ℕ) (x : X) → i < length xs → x ≡ get_or xs i x → IsLeft start whole now (search (drop i xs))
      → (e : OpFault) (new : Work) → IsFaultOf e now new (step x) → IsFaultOf e start new whole
  item_fails xs i x h g l e new m = fault_left (step x) (unless_found (search (drop (i + 1) xs))) (unless_found_tells (search (drop (i + 1) xs)) (search_tells (drop (i + 1) xs))) (item_left xs i x h g l) e new m

  -- the item is found
  pub item_found : {start now new : Work} {whole : Walk Work Bool} (xs : List X) (i : ℕ) (x : X) → i < length xs → x ≡ get_or xs i x → IsLeft start whole now (search (drop i xs))
      → step x now ≡ done true new → whole start ≡ done true new
  item_found {new = new} xs i x h g l m = end_left (done true new) (next_left (step x) (unless_found (search (drop (i + 1) xs))) (step_tells x) (item_left xs i x h g l) m) refl

  -- the item is not found: the rest is left
  pub item_passed : {start now new : Work} {whole : Walk Work Bool} (xs : List X) (i : ℕ) (x : X) → i < length xs → x ≡ get_or xs i x → IsLeft start whole now (search (drop i xs))
      → step x now ≡ done false new → IsLeft start whole new (search (drop (i + 1) xs))
  item_passed xs i x h g l m = next_left (step x) (unless_found (search (drop (i + 1) xs))) (step_tells x) (item_left xs i x h g l) m

-- ---- pairs of parts

module _ (chosen : Part → Part → Bool) (test : List HalfSpace → Walk Work Bool) (tells : (cell : List HalfSpace) → OnlyTells (test cell)) where
  -- one pair
  pub pair_tells : (b : Bool) (p q : Part) → OnlyTells (test_pair_if b test p q)
  pair_tells true p q = tells (p.cell ++ q.cell)
  pair_tells false p q = pass_tells false

  -- one part with each part of a list
  pub with_part_tells : (p : Part) (qs : List Part) → OnlyTells (first_with_part chosen test p qs)
  with_part_tells p [] = pass_tells false
  with_part_tells p (q ∷ qs) =
      then_tells (test_pair_if (chosen p q) test p q) (unless_found (first_with_part chosen test p qs)) (pair_tells (chosen p q) p q) (unless_found_tells (first_with_part chosen test p qs) (with_part_tells p qs))

  -- each part of a list with each part of another
  pub pairs_tell : (ps qs : List Part) → OnlyTells (first_pair chosen test ps qs)
  pairs_tell [] qs = pass_tells false
  pairs_tell (p ∷ ps) qs =
      then_tells (first_with_part chosen test p qs) (unless_found (first_pair chosen test ps qs)) (with_part_tells p qs) (unless_found_tells (first_pair chosen test ps qs) (pairs_tell ps qs))
