-- Live lots by their places, and the later lots of the layer of each that may meet it.
use Rattle.std.specs.Prelude.{◌≡◌, ℕ, ◌+◌, List, [], ◌∷◌, ◌++◌, map, filter, drop, Some, None, slice_get}
use Rattle.rp_model.specs.states.State.{Lot, live_lots, lots_of_layer}
use Rattle.rp_proximity.specs.declared.reach.Reach.{Reach}
use Rattle.rp_proximity.specs.Near.{pairs_with, is_near, lots_at, AreWithin}
use Rattle.rp_contacts.specs.declared.pair.Pair.{Pair}
use Rattle.rp_contacts.specs.Meets.{pair_of, parts_at}

-- the live lots after a place, of the layer of the lot at the place
abbrev pub lots_behind : {S : Type 0} → List (Lot S) → ℕ → List (Lot S)
lots_behind lots k = elim (slice_get lots k) [ None ↦ [] | Some l ↦ lots_of_layer l.layer (live_lots (drop (k + 1) lots)) ]

-- the number of pairs of parts, of the lot at each of some places and of the later lots of its layer, that may meet
abbrev pub tests_behind : {S : Type 0} → Reach → List (Lot S) → List ℕ → ℕ
tests_behind r lots [] = 0
tests_behind r lots (k ∷ ks) = pairs_with r (parts_at lots k) (lots_behind lots k) + tests_behind r lots ks

-- the places are those of the later lots that may meet the lot at place k
pub record AreNearBehind (r : Reach) (lots : List (Lot (Unit {0}))) (k : ℕ) (ks : List ℕ) : Type 0 where
  pub within : AreWithin lots ks
  pub there : lots_at lots ks ≡ filter (is_near r (parts_at lots k)) (lots_behind lots k)

-- the pairs are those of the lot at each of some places, in order, with the later lots that may meet it
abbrev pub ArePairsBehind : Reach → List (Lot (Unit {0})) → List ℕ → List Pair → Type 0
ArePairsBehind r lots [] pairs = pairs ≡ []
ArePairsBehind r lots (k ∷ ks) pairs = (js : List ℕ) × (more : List Pair) × (pairs ≡ map (pair_of k) js ++ more) × AreNearBehind r lots k js × ArePairsBehind r lots ks more
