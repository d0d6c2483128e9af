-- Indexes of lots that are still to be visited.
use Rattle.std.specs.Prelude.{◌≡◌, ℕ, ◌<◌, Bool, ◌||◌, List, length, Some, slice_get}
use Rattle.std.specs.List.{AllByRecursion, list_any}
use Rattle.std.specs.BTreeMap.{is_at}
use Rattle.std.specs.Ordering.{nat_cmp}
use Rattle.rp_language.specs.Name.{Label, is_among}
use Rattle.rp_model.specs.states.State.{Lot}

-- the index is in the list
abbrev pub has_place : List ℕ → ℕ → Bool
has_place ks k = list_any (is_at (nat_cmp k)) ks

-- the indexes of the lots with the given ids were added, each if the lot is there, and no others
pub record AddsPlaces {S : Type 0} (xs : List Label) (lots : List (Lot S)) (old new : List ℕ) : Type 0 where
  pub each : (k : ℕ) (l : Lot S) → slice_get lots k ≡ Some l → has_place new k ≡ (is_among l.id xs || has_place old k)
  pub within : AllByRecursion (λ k. k < length lots) old → AllByRecursion (λ k. k < length lots) new
