-- The walks that join, subtract and compare lists of parts, and make the form of an expression, test by test.
use Rattle.std.specs.Prelude.{ℕ, ◌*◌, Bool, true, false, List, [], ◌∷◌, ◌++◌, length, Option, Some, None, nat_le}
use Rattle.rp_geometry.specs.Geometry.{HalfSpace, complement, box_half_spaces, boxes_meet, closed_boxes_meet}
use Rattle.rp_geometry.specs.sets.Prism.{Edge, edges_of, is_upright, Prism}
use Rattle.rp_geometry.specs.sets.Shape.{Part}
use Rattle.rp_geometry.specs.parts.PartTest.{whole_part}
use Rattle.rp_geometry.specs.parts.Trapezoid.{trapezoid}
use Rattle.rp_language.specs.Expression.{Expression, half_space, box, prism, everything, nothing, named, lot, intersection, union, difference, Meaning}
use Rattle.rp_semantics.specs.Walk.{Walk, pass, stop, limit_met, ◌>>=◌, ◌>>◌, Tester}
use Rattle.rp_geometry.specs.parts.Parts.{most_parts}

-- the part, if there is one, as a list
abbrev pub made_part : Option Part → List Part
made_part None = []
made_part (Some p) = p ∷ []

-- the list, if it has at most the given number of parts; otherwise a stop at the limit
abbrev pub if_at_most : {W : Type 0} → ℕ → List Part → Walk W (List Part)
if_at_most most parts = elim (nat_le (length parts) most) [ true ↦ pass parts | false ↦ stop limit_met ]

-- the choice of every pair of parts
abbrev pub every_pair : Part → Part → Bool
every_pair p q = true

-- the choice of pairs of parts whose boxes share more than boundary
abbrev pub near_pair : Part → Part → Bool
near_pair p q = boxes_meet p.bounds q.bounds

-- the choice of pairs of parts whose boxes share a point, their boundaries included
abbrev pub touching_pair : Part → Part → Bool
touching_pair p q = closed_boxes_meet p.bounds q.bounds

-- ---- pair loops: tests of pairs of parts, up to the first that passes

-- the test of two parts, if the pair is chosen; otherwise no
abbrev pub test_pair_if : {W : Type 0} → Bool → (List HalfSpace → Walk W Bool) → Part → Part → Walk W Bool
test_pair_if true test p q = test (p.cell ++ q.cell)
test_pair_if false test p q = pass false

-- tests one part with each part of a list, if the pair is chosen, up to the first pair that passes
abbrev pub first_with_part : {W : Type 0} → (Part → Part → Bool) → (List HalfSpace → Walk W Bool) → Part → List Part → Walk W Bool
first_with_part chosen test p [] = pass false
first_with_part chosen test p (q ∷ qs) = do
  found ← test_pair_if (chosen p q) test p q
  elim found [ true ↦ pass true | false ↦ first_with_part chosen test p qs ]

-- tests each part of a list with each part of a second list, if the pair is chosen, up to the first pair that passes
abbrev pub first_pair : {W : Type 0} → (Part → Part → Bool) → (List HalfSpace → Walk W Bool) → List Part → List Part → Walk W Bool
first_pair chosen test [] qs = pass false
first_pair chosen test (p ∷ ps) qs = do
  found ← first_with_part chosen test p qs
  elim found [ true ↦ pass true | false ↦ first_pair chosen test ps qs ]

-- the parts, and the empty list if there are none
abbrev pub parts_or_none : Option (List Part) → List Part
parts_or_none None = []
parts_or_none (Some ps) = ps

module _ {W : Type 0} (tester : Tester W) where
  -- ---- join: the common members of two lists of parts

  -- appends the common part of two parts, if it has a member, to the parts made so far
  abbrev pub join_pair : List Part → Part → Part → Walk W (List Part)
  join_pair made p q = do
    o ← tester.part (p.cell ++ q.cell)
    if_at_most most_parts (made ++ made_part o)

  -- appends the common parts of one part with each part of a list to the parts made so far, the first list
  abbrev pub join_with_part : List Part → Part → List Part → Walk W (List Part)
  join_with_part made p [] = pass made
  join_with_part made p (q ∷ qs) = do
    longer ← join_pair made p q
    join_with_part longer p qs

  -- appends the common parts of each part of a list with each part of a second list to the parts made so far, the first list
  abbrev pub join_each : List Part → List Part → List Part → Walk W (List Part)
  join_each made [] qs = pass made
  join_each made (p ∷ ps) qs = do
    longer ← join_with_part made p qs
    join_each longer ps qs

  -- the join: each part of the first list with each part of the second; as many tests are counted as there are pairs
  abbrev pub join : List Part → List Part → Walk W (List Part)
  join ps qs = do
    tester.count (length ps * length qs)
    join_each [] ps qs

  -- ---- difference: the members of a list of parts that are in no part of a second list

  -- appends the piece of a cell outside one half-space and inside those before to the parts made so far, the first list
  abbrev pub carve_one : List Part → List HalfSpace → List HalfSpace → HalfSpace → Walk W (List Part)
  carve_one made cell before h = do
    tester.count 1
    o ← tester.part (cell ++ before ++ complement h ∷ [])
    pass (made ++ made_part o)

  -- appends the pieces of a cell outside the half-spaces, each outside one and inside those before, to the parts made so far
  abbrev pub carve : List Part → List HalfSpace → List HalfSpace → List HalfSpace → Walk W (List Part)
  carve made cell before [] = pass made
  carve made cell before (h ∷ hs) = do
    longer ← carve_one made cell before h
    carve longer cell (before ++ h ∷ []) hs

  -- appends the pieces of a part outside another if they have a common member, otherwise the part itself
  abbrev pub carve_or_keep : Bool → List Part → Part → Part → Walk W (List Part)
  carve_or_keep true made c q = carve made c.cell [] q.cell
  carve_or_keep false made c q = pass (made ++ c ∷ [])

  -- appends the rest of one part outside another; if their boxes do not meet, it is the part itself, without a test
  abbrev pub subtract_pair : List Part → Part → Part → Walk W (List Part)
  subtract_pair made c q = elim (boxes_meet c.bounds q.bounds) [
    | false ↦ pass (made ++ c ∷ [])
    | true ↦ do
      tester.count 1
      found ← tester.strict (c.cell ++ q.cell)
      carve_or_keep found made c q
  ]

  -- appends the rests of parts outside one part to the parts made so far, the first list
  abbrev pub subtract_part : List Part → List Part → Part → Walk W (List Part)
  subtract_part made [] q = pass made
  subtract_part made (c ∷ cs) q = do
    longer ← subtract_pair made c q
    subtract_part longer cs q

  -- the difference: from the first list each part of the second is subtracted in turn
  abbrev pub subtract : List Part → List Part → Walk W (List Part)
  subtract current [] = pass current
  subtract current (q ∷ qs) = do
    left ← subtract_part [] current q
    next ← if_at_most most_parts left
    subtract next qs

  -- whether two lists share a member, by all pairs; as many tests are counted as there are pairs
  abbrev pub common_in_full : List Part → List Part → Walk W Bool
  common_in_full ps qs = do
    tester.count (length ps * length qs)
    first_pair every_pair tester.strict ps qs

  -- whether two lists share a member, by the pairs whose boxes share more than boundary; no test is counted
  abbrev pub common_nearby : List Part → List Part → Walk W Bool
  common_nearby ps qs = first_pair near_pair tester.strict ps qs

  -- whether two lists are in contact, by all pairs; as many tests are counted as there are pairs
  abbrev pub touch_in_full : List Part → List Part → Walk W Bool
  touch_in_full ps qs = do
    tester.count (length ps * length qs)
    first_pair every_pair tester.weak ps qs

  -- whether two lists are in contact, by the pairs whose boxes share a point, boundaries included; no test is counted
  abbrev pub touch_nearby : List Part → List Part → Walk W Bool
  touch_nearby ps qs = first_pair touching_pair tester.weak ps qs

  -- ---- the parts of a single cell

  -- the part of a cell, if it has a member, as a list
  abbrev pub parts_of_cell : List HalfSpace → Walk W (List Part)
  parts_of_cell cell = do
    o ← tester.part cell
    pass (made_part o)

  -- the complement: the rest of the whole cube outside the list
  abbrev pub subtract_from_whole : List Part → Walk W (List Part)
  subtract_from_whole ps = subtract (whole_part ∷ []) ps

  -- ---- the form of a prism

  -- the symmetric difference of two lists: the rest of the first outside the second, and then of the second outside the first
  abbrev pub exchange_lists : List Part → List Part → Walk W (List Part)
  exchange_lists current made = do
    outside ← subtract current made
    added ← subtract made current
    if_at_most most_parts (outside ++ added)

  -- exchanges a new part, if there is one, with the parts so far
  abbrev pub exchange : List Part → Option Part → Walk W (List Part)
  exchange current None = pass current
  exchange current (Some made) = exchange_lists current (made ∷ [])

  -- exchanges the part of a cell, if there is a cell, with the parts so far
  abbrev pub exchange_cell : List Part → Option (List HalfSpace) → Walk W (List Part)
  exchange_cell current None = pass current
  exchange_cell current (Some cell) = do
    made ← tester.part cell
    exchange current made

  -- exchanges the trapezoid of an edge with the parts so far; an edge whose ends have equal x is left out
  abbrev pub exchange_edge : Prism → Bool → List Part → Edge → Walk W (List Part)
  exchange_edge s true current e = pass current
  exchange_edge s false current e = do
    made ← tester.part (trapezoid s e)
    exchange current made

  -- exchanges the trapezoids of edges, in order, with the parts so far
  abbrev pub exchange_edges : Prism → List Part → List Edge → Walk W (List Part)
  exchange_edges s current [] = pass current
  exchange_edges s current (e ∷ es) = do
    next ← exchange_edge s (is_upright e) current e
    exchange_edges s next es

  -- the form of a prism: the trapezoids of its edges, exchanged one after another
  abbrev pub prism_form : Prism → Walk W (List Part)
  prism_form s = exchange_edges s [] (edges_of s.corners)

  -- ---- the form of an expression

  -- the form of an expression: its list of parts, made test by test
  abbrev pub form : Meaning (List Part) → Expression → Walk W (List Part)
  form m (half_space h) = parts_of_cell (h ∷ [])
  form m (box b) = parts_of_cell (box_half_spaces b)
  form m (prism s) = prism_form s
  form m everything = pass (whole_part ∷ [])
  form m nothing = pass []
  form m (named x) = pass (parts_or_none (m.of_name x))
  form m (lot x) = pass (parts_or_none (m.of_lot x))
  form m (union e f) = do
    ps ← form m e
    qs ← form m f
    if_at_most most_parts (ps ++ qs)
  form m (intersection e f) = do
    ps ← form m e
    qs ← form m f
    join ps qs
  form m (difference e f) = do
    ps ← form m e
    qs ← form m f
    subtract ps qs
  form m (Expression.complement e) = do
    ps ← form m e
    subtract_from_whole ps
