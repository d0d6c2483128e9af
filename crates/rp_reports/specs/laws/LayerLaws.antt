-- The laws over layers, as statements. Each is proved by the function whose contract names it.
use Rattle.std.specs.Prelude.{◌≡◌, ℕ, Bool, true, false, not, IsTrue, ◌↔◌, List, [], ◌∷◌, Some, filter}
use Rattle.std.specs.List.{AllByRecursion, list_all}
use Rattle.rp_geometry.specs.Geometry.{RationalPoint}
use Rattle.rp_language.specs.Name.{Label, is_among}
use Rattle.rp_geometry.specs.sets.Shape.{Shape, IsMember}
use Rattle.rp_language.specs.Expression.{Command, set_layer}
use Rattle.rp_language.specs.Grammar.{Version, Reading, command, reading}
use Rattle.rp_model.specs.states.State.{Lot, NewLot, State, PlainState, live_lots, live_lot, lot_with_id, Change, lots_replaced, layer_changed, changed}
use Rattle.rp_model.specs.states.Sound.{IsSound}
use Rattle.rp_semantics.specs.Walk.{done, stopped, line_wrong}
use Rattle.rp_model.specs.commands.Verdict.{Verdict, says_ok}
use Rattle.rp_model.specs.commands.Rule.{rule_of, proofs_of, change_of, after_command}
use Rattle.rp_reports.specs.Text.{verdict_text}
use Rattle.rp_reports.specs.Check.{Trail, tells_limit, taken, follow_command}
use Rattle.rp_reports.specs.laws.StateLaws.{state_after, in_layer, IsAncestor}

-- in every state the command sets the present layer, has the one verdict ok, and makes no test
abbrev pub LayersAreSet : Type 0
LayersAreSet = (s : State) (n : ℕ) (y : Label) →
    ((given : List Verdict) → rule_of s (set_layer y) given ↔ (given ≡ says_ok ∷ [])) × (proofs_of s (set_layer y) ≡ []) × (after_command n s (set_layer y) ≡ in_layer y s)

-- the check accepts no limit in place of the ok of the command; it accepts the ok, and then sets the layer
abbrev pub LimitsStandForNoLayer : Type 0
LimitsStandForNoLayer = (s : PlainState) (n : ℕ) (y : Label) (t : Trail) →
    (IsTrue (tells_limit t.lines) → follow_command n s (set_layer y) t ≡ stopped line_wrong t)
    × ((rest : List (List ℕ)) → t.lines ≡ verdict_text says_ok ∷ rest → follow_command n s (set_layer y) t ≡ done (changed n s (layer_changed y)) (taken t))

-- the lots that a change ends
abbrev pub lots_ended : State → Change Shape → List (Lot Shape)
lots_ended s (lots_replaced ids new) = filter (λ l. is_among l.id ids) (live_lots s.lots)
lots_ended s _ = []

-- the lots that a change adds
abbrev pub lots_born : Change Shape → List (NewLot Shape)
lots_born (lots_replaced ids new) = new
lots_born _ = []

-- all lots that end and all lots that are born are of one layer
abbrev pub IsOfOneLayer : State → Change Shape → Type 0
IsOfOneLayer s change = (y : Label) × AllByRecursion (λ l. l.layer ≡ y) (lots_ended s change) × AllByRecursion (λ a. a.layer ≡ y) (lots_born change)

-- an accepted command ends and adds only lots of one layer
abbrev pub ChangesKeepTheLayer : Type 0
ChangesKeepTheLayer = (s : State) → IsSound s → (c : Command) → rule_of s c (says_ok ∷ []) → IsOfOneLayer s (change_of s c)

-- a lot is of the layer of all lots from which it was made, however far back
abbrev pub LineageKeepsTheLayer : Type 0
LineageKeepsTheLayer = (s : State) → IsSound s → (x z : Label) → IsAncestor s.lots x z → (l m : Lot Shape) → lot_with_id x s.lots ≡ Some l → lot_with_id z s.lots ≡ Some m → m.layer ≡ l.layer

-- in a sound state at most one live lot of a layer has a point
abbrev pub OneLotHasThePoint : Type 0
OneLotHasThePoint = (s : State) → IsSound s → (x z : Label) (l k : Lot Shape) → live_lot x s.lots ≡ Some l → live_lot z s.lots ≡ Some k → l.layer ≡ k.layer → (p : RationalPoint) → IsMember l.set p → IsMember k.set p → x ≡ z

-- ---- scripts that name no layer

-- the layer is the present one, and all lots are of it
pub record IsInLayer (y : Label) (s : State) : Type 0 where
  pub present : s.layer ≡ y
  pub lots : AllByRecursion (λ l. l.layer ≡ y) s.lots

-- the line sets a layer
abbrev pub is_layer_line : Reading → Bool
is_layer_line (command (set_layer y)) = true
is_layer_line _ = false

-- no line sets a layer
abbrev pub names_no_layer : Version → List (List ℕ) → Bool
names_no_layer v lines = list_all (λ line. not (is_layer_line (reading v line))) lines

-- lines that set no layer leave the present layer as it is, and all lots in it
abbrev pub OtherLinesStayInTheLayer : Type 0
OtherLinesStayInTheLayer = (v : Version) (n : ℕ) (s : State) (y : Label) → IsInLayer y s → (lines : List (List ℕ)) → IsTrue (names_no_layer v lines) → IsInLayer y (state_after v n s lines)
