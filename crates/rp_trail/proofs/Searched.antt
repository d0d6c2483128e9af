-- What is left of a search over a list, item by item, up to the first that is found.
use Rattle.std.proofs.Common.{◌≡◌, ℕ, ◌+◌, ◌<◌, ◌≤◌, Bool, true, false, List, [], ◌∷◌, length, get_or, drop, refl, ap, ◌∙◌}
use Rattle.std.proofs.Math.ListN.{drop_of_length-le}
use Rattle.rp_algebra.proofs.Lists.{drop_item}
use Rattle.rp_semantics.specs.Walk.{done, Walk, pass, ◌>>=◌}
use Rattle.rp_reports.specs.Check.{Trail}
use Rattle.rp_oracle.proofs.Left.{IsLeft, left_as, next_left, end_left}

-- what comes behind one item: the end, where it was found, and else the rest
abbrev pub unless_found : Walk Trail Bool → Bool → Walk Trail Bool
unless_found rest found = elim found [ true ↦ pass true | false ↦ rest ]

-- at the end of the list nothing was found
pub search_ended : {X : Type 0} (search : List X → Walk Trail Bool) {start now : Trail} {whole : Walk Trail Bool} (xs : List X) (i : ℕ) → length xs ≤ i → search [] ≡ pass false → IsLeft start whole now (search (drop i xs)) → whole start ≡ done false now
search_ended search {now = now} xs i h e l = end_left (done false now) (left_as (ap search (drop_of_length-le xs h) ∙ e) l) refl

module _ {X : Type 0} (step : X → Walk Trail Bool) (search : List X → Walk Trail Bool) (is : (x : X) (xs : List X) → search (x ∷ xs) ≡ (step x >>= unless_found (search xs))) where
  -- one item and the rest are left
  item_left : {start now : Trail} {whole : Walk Trail Bool} (xs : List X) (i : ℕ) (x : X) → i < length xs → x ≡ get_or xs i x → IsLeft start whole now (search (drop i xs))
      → IsLeft start whole now (step x >>= unless_found (search (drop (i + 1) xs)))
  item_left xs i x h e l = left_as (ap search (drop_item xs i x h e) ∙ is x (drop (i + 1) xs)) l

  -- the item is found
  pub item_found : {start now new : Trail} {whole : Walk Trail Bool} (xs : List X) (i : ℕ) (x : X) → i < length xs → x ≡ get_or xs i x → IsLeft start whole now (search (drop i xs))
      → step x now ≡ done true new → whole start ≡ done true new
  item_found {new = new} xs i x h g l m = end_left (done true new) (next_left (step x) (unless_found (search (drop (i + 1) xs))) (item_left xs i x h g l) m) refl

  -- the item is not found: the rest is left
  pub item_passed : {start now new : Trail} {whole : Walk Trail Bool} (xs : List X) (i : ℕ) (x : X) → i < length xs → x ≡ get_or xs i x → IsLeft start whole now (search (drop i xs))
      → step x now ≡ done false new → IsLeft start whole new (search (drop (i + 1) xs))
  item_passed xs i x h g l m = next_left (step x) (unless_found (search (drop (i + 1) xs))) (item_left xs i x h g l) m
