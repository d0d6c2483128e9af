-- access ID ID: a shortest chain of lots from one to another, and the level of each lot.
use Rattle.std.specs.List.{slice_get}
use Rattle.std.specs.Prelude.{ℕ, true, false, List, [], ◌∷◌, ◌++◌, length, Option, Some, ◌≡◌}
use Rattle.rp_geometry.specs.parts.Levels.{levels_along, chain_along}
use Rattle.rp_geometry.specs.sets.Chain.{AreLevelsBy, IsChosenBy}
use Rattle.rp_geometry.specs.sets.Contact.{IsInContact}
use Rattle.rp_geometry.specs.sets.Shape.{Shape, Part}
use Rattle.rp_language.specs.Expression.{signature, access_verb}
use Rattle.rp_language.specs.Name.{Label}
use Rattle.rp_semantics.specs.Form.{touch_nearby, touching_pair}
use Rattle.rp_semantics.specs.Walk.{Walk, pass, ◌>>=◌, ◌>>◌, Tester}
use Rattle.rp_model.specs.commands.Checks.{check_access}
use Rattle.rp_model.specs.commands.Definition.{Definition}
use Rattle.rp_model.specs.commands.Parts.{count_among, numbered_lists, lot_parts}
use Rattle.rp_model.specs.commands.Reply.{Reply, reply_lines, check}
use Rattle.rp_model.specs.commands.Rules.{Rule, answers, names_then}
use Rattle.rp_model.specs.commands.Verdict.{Verdict, access_lines}
use Rattle.rp_model.specs.states.State.{Lot, StateOf, layer_lots, ids_of, place_among, nothing_changes, State}

-- the verdict lines of access from id x to id y, from the links between the places of the ids
abbrev pub access_by_links : List Label → List (ℕ × ℕ) → Label → Label → List Verdict
access_by_links ids links x y =
    access_lines ids (chain_along links (length ids) (place_among x ids) (place_among y ids)) (levels_along links (length ids) (place_among y ids))

module _ {W : Type 0} (tester : Tester W) where
  -- appends the link of two numbered lists of parts, if they are in contact, to the links found so far
  abbrev pub link_lists : List (ℕ × ℕ) → ℕ × List Part → ℕ × List Part → Walk W (List (ℕ × ℕ))
  link_lists found ps qs = do
    touches ← touch_nearby tester ps.1 qs.1
    pass (elim touches [ true ↦ found ++ (ps.0, qs.0) ∷ [] | false ↦ found ])

  -- appends the links of one numbered list with further ones to the links found so far
  abbrev pub links_with_list : List (ℕ × ℕ) → ℕ × List Part → List (ℕ × List Part) → Walk W (List (ℕ × ℕ))
  links_with_list found ps [] = pass found
  links_with_list found ps (qs ∷ lists) = do
    more ← link_lists found ps qs
    links_with_list more ps lists

  -- appends the links of each two numbered lists to the links found so far
  abbrev pub links_among_lists : List (ℕ × ℕ) → List (ℕ × List Part) → Walk W (List (ℕ × ℕ))
  links_among_lists found [] = pass found
  links_among_lists found (ps ∷ lists) = do
    more ← links_with_list found ps lists
    links_among_lists more lists

  -- the checks on ids, the count, and a test of each two live lots of the layer for contact; the links give the levels and the chain
  abbrev pub row_access : {S : Type 0} → StateOf S → Label → Label → Walk W Reply
  row_access s x y = check (check_access s x y) do
    tester.count (count_among touching_pair (lot_parts (layer_lots s x)))
    links ← links_among_lists [] (numbered_lists 0 (lot_parts (layer_lots s x)))
    pass (reply_lines (access_by_links (ids_of (layer_lots s x)) links x y))

-- the lots at two places of a list are in contact
abbrev pub AreInContactAt : List (Lot Shape) → ℕ → ℕ → Type 0
AreInContactAt lots i j = (l : Lot Shape) × (k : Lot Shape) × (slice_get lots i ≡ Some l) × (slice_get lots j ≡ Some k) × IsInContact l.set k.set

-- the chosen chain among some lots from one id to another, if there is one, and the levels of all; each step leads to a lot in contact
abbrev pub tells_access : List (Lot Shape) → Label → Label → Rule
tells_access lots x y given =
    (chosen : Option (List ℕ)) × (levels : List (Option ℕ))
    × IsChosenBy (AreInContactAt lots) (place_among x (ids_of lots)) (place_among y (ids_of lots)) chosen
    × AreLevelsBy (AreInContactAt lots) (length lots) (place_among y (ids_of lots)) levels
    × answers (access_lines (ids_of lots) chosen levels) given

-- the checks on ids; then the chain and the levels among the live lots of the layer
abbrev pub rule_access : State → Label → Label → Rule
rule_access s x y = names_then (check_access s x y) (tells_access (layer_lots s x) x y)

-- the definition of access
abbrev pub access_definition : Definition (signature access_verb)
access_definition = record {
  may_meet_limit = true;
  row = λ t s (x, (y, end)). row_access t s x y;
  rule = λ s formed (x, (y, end)). rule_access s x y;
  change = λ s os. nothing_changes;
}
