-- The laws over states, as statements: lots that were live after a line, lots that stay, the lineage, and states read from their parts. Each is proved by the function whose contract names it.
use Rattle.std.specs.Prelude.{◌≡◌, ℕ, suc, Bool, true, false, IsTrue, ◌↔◌, List, [], ◌∷◌, map, Some, None, filter}
use Rattle.std.specs.List.{slice_get}
use Rattle.rp_geometry.specs.Geometry.{RationalPoint}
use Rattle.rp_language.specs.Name.{Label, is_among}
use Rattle.rp_geometry.specs.sets.Shape.{Shape}
use Rattle.rp_geometry.specs.sets.Sets.{SameMembers}
use Rattle.rp_language.specs.Expression.{Command, ask_at, ask_as_of, cut, subdivide, consolidate}
use Rattle.rp_language.specs.Grammar.{Version, reading}
use Rattle.rp_model.specs.states.State.{Lot, State, opening, live_lots, lots_of_layer, alive_after, lot_with_id, ids_of, lineage, Change, lots_replaced, NewLot, parts_only, state_of_parts, changed}
use Rattle.rp_model.specs.states.Sound.{IsSound, IsLaterThan, SameState}
use Rattle.rp_model.specs.commands.Verdict.{Verdict, says_ok}
use Rattle.rp_model.specs.commands.Rule.{rule_of, walked, change_of}
use Rattle.rp_model.specs.commands.Sets.{union_of}
use Rattle.rp_model.specs.commands.At.{parcel_at}
use Rattle.rp_reports.specs.Report.{after_reading}

-- ---- the states of a run

-- the state after a line of a script of a version
abbrev pub next_state : Version → ℕ → State → List ℕ → State
next_state v n s line = after_reading n s (reading v line)

-- the state after the lines of a list, from a state on
abbrev pub state_after : Version → ℕ → State → List (List ℕ) → State
state_after v n s [] = s
state_after v n s (line ∷ lines) = state_after v (suc n) (next_state v n s line) lines

-- ---- states of sets and states of parts

-- the opening state is sound
abbrev pub OpeningIsSound : Type 0
OpeningIsSound = IsSound opening

-- the row of a command depends on the parts alone
abbrev pub WalkIsOfParts : Type 0
WalkIsOfParts = (s : State) (c : Command) → walked (parts_only s) c ≡ walked s c

-- the sets of a sound state may be read from its parts: the state is sound again, and has the same members
abbrev pub PartsKeepTheState : Type 0
PartsKeepTheState = (s : State) → IsSound s → IsSound (state_of_parts s) × SameState s (state_of_parts s)

-- ---- lots that were live after a line

-- a lot as it was before its end
abbrev pub without_end : Lot Shape → Lot Shape
without_end l = record { id = l.id; layer = l.layer; set = l.set; parts = l.parts; born = l.born; ended = None; origins = l.origins }

-- the lots that are live after line n are those that are alive after n in every later state, without the ends that came since
abbrev pub LiveThenIsAliveAfter : Type 0
LiveThenIsAliveAfter = (v : Version) (s : State) → IsSound s → (n : ℕ) → IsLaterThan (suc n) s → (later : List (List ℕ)) →
    map without_end (alive_after n (state_after v (suc n) s later).lots) ≡ live_lots s.lots

-- the answer about a point as of a line, in any layer, is the one that was right after the line
abbrev pub AsOfIsThen : Type 0
AsOfIsThen = (v : Version) (s : State) → IsSound s → (n : ℕ) → IsLaterThan (suc n) s → (later : List (List ℕ)) (y : Label) (p : RationalPoint) (given : List Verdict) →
    parcel_at (lots_of_layer y (alive_after n (state_after v (suc n) s later).lots)) p given ↔ parcel_at (lots_of_layer y (live_lots s.lots)) p given

-- a state with another present layer
abbrev pub in_layer : Label → State → State
in_layer y s = record { layer = y; names = s.names; lots = s.lots }

-- a question as of line n, at once or after further lines, has the verdict that was right for the point after line n, in the layer present now
abbrev pub AsOfAnswersThen : Type 0
AsOfAnswersThen = (v : Version) (s : State) → IsSound s → (n : ℕ) → IsLaterThan (suc n) s → (later : List (List ℕ)) (p : RationalPoint) (given : List Verdict) →
    rule_of (state_after v (suc n) s later) (ask_as_of n p) given ↔ rule_of (in_layer (state_after v (suc n) s later).layer s) (ask_at p) given

-- ---- cutting, subdividing and consolidating

-- the command cuts, subdivides or consolidates lots
abbrev pub reshapes_lots : Command → Bool
reshapes_lots (cut x e first second) = true
reshapes_lots (subdivide x cs) = true
reshapes_lots (consolidate x ids) = true
reshapes_lots _ = false

-- the sets of the lots that a change ends
abbrev pub sets_ended : State → Change Shape → List Shape
sets_ended s (lots_replaced ids new) = map (λ l. l.set) (filter (λ l. is_among l.id ids) (live_lots s.lots))
sets_ended s _ = []

-- the sets of the lots that a change adds
abbrev pub sets_born : Change Shape → List Shape
sets_born (lots_replaced ids new) = map (λ l. l.set) new
sets_born _ = []

-- cutting, subdividing and consolidating keep the points of the lots together
abbrev pub ReshapingKeepsPoints : Type 0
ReshapingKeepsPoints = (s : State) → IsSound s → (c : Command) → IsTrue (reshapes_lots c) → rule_of s c (says_ok ∷ [])
    → SameMembers (union_of (sets_ended s (change_of s c))) (union_of (sets_born (change_of s c)))

-- ---- lots that stay

-- the lots whose ids are not among those that end stay as they are, at their places
abbrev pub OtherLotsStay : Type 0
OtherLotsStay = (n : ℕ) (s : State) (ids : List Label) (new : List (NewLot Shape)) (i : ℕ) (l : Lot Shape) →
    slice_get s.lots i ≡ Some l → is_among l.id ids ≡ false → slice_get (changed n s (lots_replaced ids new)).lots i ≡ Some l

-- ---- lineage

-- an id reached from another id through origins, in any number of steps
pub data IsAncestor (lots : List (Lot Shape)) (x : Label) : Label → Type 0 where
  itself : IsAncestor lots x x
  older : {y : Label} {z : Label} {l : Lot Shape} → IsAncestor lots x y → lot_with_id y lots ≡ Some l → IsTrue (is_among z l.origins) → IsAncestor lots x z

-- the lineage of an id: the lots that are reached through origins, in the order of registration
pub record IsLineage (lots : List (Lot Shape)) (x : Label) (found : List (Lot Shape)) : Type 0 where
  pub in_order : found ≡ filter (λ l. is_among l.id (ids_of found)) lots
  pub reached : (y : Label) → IsTrue (is_among y (ids_of found)) ↔ IsAncestor lots x y

-- the computed lineage of a registered id has exactly the lots that are reached through origins
abbrev pub LineageIsReached : Type 0
LineageIsReached = (s : State) → IsSound s → (x : Label) → IsTrue (is_among x (ids_of s.lots)) → IsLineage s.lots x (lineage x s.lots)
