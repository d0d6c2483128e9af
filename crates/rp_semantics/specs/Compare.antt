-- Comparison of two lists of parts, test by test: whether one is within the other, and their relation of the eight.
use Rattle.std.specs.Prelude.{Bool, true, false, List, [], ◌∷◌}
use Rattle.rp_geometry.specs.sets.Shape.{Part}
use Rattle.rp_geometry.specs.sets.Relation.{Relation, DC, EC, PO, EQ, TPP, NTPP, TPPi, NTPPi}
use Rattle.rp_semantics.specs.Walk.{Walk, pass, ◌>>=◌, ◌>>◌, Tester}
use Rattle.rp_semantics.specs.Form.{subtract, subtract_from_whole, common_in_full, touch_in_full}

-- the relation of two regions without a common member, by whether they touch
abbrev pub relation_apart : Bool → Relation
relation_apart true = EC
relation_apart false = DC

-- the relation of a proper part to its whole, by whether it touches the outside
abbrev pub relation_part : Bool → Relation
relation_part true = TPP
relation_part false = NTPP

-- the relation of a whole to a proper part, by whether the part touches the outside
abbrev pub relation_whole : Bool → Relation
relation_whole true = TPPi
relation_whole false = NTPPi

module _ {W : Type 0} (tester : Tester W) where
  -- true if there is no part; otherwise a strict test shows that the first part has a member
  abbrev pub show_then_no : List Part → Walk W Bool
  show_then_no [] = pass true
  show_then_no (p ∷ ps) = do
    tester.strict p.cell
    pass false

  -- whether the first list is within the second: no part is left of the difference; a part that is left is shown to have a member
  abbrev pub is_covered : List Part → List Part → Walk W Bool
  is_covered ps qs = do
    left ← subtract tester ps qs
    show_then_no left

  -- whether the first list, a proper part of the second, touches the outside of the second
  abbrev pub touches_outside : List Part → List Part → Walk W Bool
  touches_outside ps qs = do
    rest ← subtract_from_whole tester qs
    touch_in_full tester ps rest

  -- the relation of two lists with a common member, by the rest of the first outside the second and of the second outside the first
  abbrev pub relation_by_rests : List Part → List Part → List Part → List Part → Walk W Relation
  relation_by_rests ps qs [] [] = pass EQ
  relation_by_rests ps qs [] (e ∷ es) = do
    touches ← touches_outside ps qs
    pass (relation_part touches)
  relation_by_rests ps qs (d ∷ ds) [] = do
    touches ← touches_outside qs ps
    pass (relation_whole touches)
  relation_by_rests ps qs (d ∷ ds) (e ∷ es) = pass PO

  -- the relation of two lists: by contact if they have no common member, otherwise by their rests
  abbrev pub relation_by_overlap : List Part → List Part → Bool → Walk W Relation
  relation_by_overlap ps qs false = do
    touches ← touch_in_full tester ps qs
    pass (relation_apart touches)
  relation_by_overlap ps qs true = do
    d ← subtract tester ps qs
    e ← subtract tester qs ps
    relation_by_rests ps qs d e

  -- the relation of two nonempty lists of parts
  abbrev pub relation_of_parts : List Part → List Part → Walk W Relation
  relation_of_parts ps qs = do
    common ← common_in_full tester ps qs
    relation_by_overlap ps qs common
