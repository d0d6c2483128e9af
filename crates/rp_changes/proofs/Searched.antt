-- A search among lots at places, one after the other.
use Rattle.std.proofs.Common.{◌≡◌, ℕ, ◌+◌, ◌<◌, Bool, List, length, drop, get_or, Option, Some, slice_get, ap}
use Rattle.rp_geometry.specs.sets.Shape.{Part}
use Rattle.rp_language.specs.Name.{Label}
use Rattle.rp_semantics.specs.Walk.{done, Walk, Tester, ◌>>=◌}
use Rattle.rp_semantics.specs.Form.{common_nearby}
use Rattle.rp_model.specs.states.State.{Lot}
use Rattle.rp_model.specs.commands.Register.{first_overlapped}
use Rattle.rp_oracle.proofs.Left.{IsLeft, left_as, next_left}
use Rattle.rp_proximity.specs.Near.{lots_at}
use Rattle.rp_proximity.proofs.Places.{lots_left}
use Rattle.rp_proximity.proofs.Skipped.{search_on}

module _ {W : Type 0} (tester : Tester W) {start now : W} {whole : Walk W (Option Label)} (ps : List Part) (lots : List (Lot (Unit {0}))) (places : List ℕ) (i k : ℕ) (l : Lot (Unit {0})) (qs : List Part) (within : i < length places) (is : k ≡ get_or places i 0) (at : slice_get lots k ≡ Some l) (own : l.parts ≡ qs)
    (left : IsLeft start whole now (first_overlapped tester ps (lots_at lots (drop i places)))) where
  -- what is left of a search, with the next lot first
  pub search_left : IsLeft start whole now (common_nearby tester ps qs >>= search_on tester l.id ps (lots_at lots (drop (i + 1) places)))
  search_left =
      left_as (ap (λ (rs : List Part). common_nearby tester ps rs >>= search_on tester l.id ps (lots_at lots (drop (i + 1) places))) own)
      (left_as (ap (λ (ls : List (Lot (Unit {0}))). first_overlapped tester ps ls) (lots_left lots places i k l within is at)) left)

  -- and behind its tests
  pub search_next : (b : Bool) (new : W) → common_nearby tester ps qs now ≡ done b new → IsLeft start whole new (search_on tester l.id ps (lots_at lots (drop (i + 1) places)) b)
  search_next b new made = next_left (common_nearby tester ps qs) (search_on tester l.id ps (lots_at lots (drop (i + 1) places))) search_left made
