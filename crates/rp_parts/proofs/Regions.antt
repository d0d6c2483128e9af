-- Every shape has the members of some bounded region, and so has its outside.
use Rattle.std.proofs.Common.{◌≡◌, Bool, true, false, not, ◌&&◌, ◌||◌, List, [], ◌∷◌, ◌++◌, refl, sym, ap, ◌∙◌}
use Rattle.std.specs.List.{AllByRecursion}
use Rattle.rp_algebra.proofs.Listed.{all_append}
use Rattle.rp_algebra.proofs.Tests.{or_false}
use Rattle.rp_geometry.specs.Geometry.{RationalPoint, HalfSpace, IsPoint, IsHalfSpace, complement, holds, box_half_spaces}
use Rattle.rp_geometry.specs.sets.Prism.{Edge, edges_of, is_upright, Prism, IsPrism}
use Rattle.rp_geometry.specs.sets.Shape.{Shape, half_space, box, prism, everything, nothing, intersection, union, difference, Part, passes, shape_of_cell, shape_of_cells, shape_of_parts}
use Rattle.rp_geometry.specs.sets.Contact.{IsBoundedRegion}
use Rattle.rp_geometry.specs.parts.Trapezoid.{trapezoid}
use Rattle.rp_geometry.specs.laws.CellLaws.{AreHalfSpaces}
use Rattle.rp_geometry.specs.laws.RegionLaws.{IsBoundedShape, ShapeIsRegion}
use Rattle.rp_geometry.proofs.BoxSides.{box_bounds}
use Rattle.rp_geometry.proofs.Complement.{complement_holds_the_others_spec, complement_is_half_space}
use Rattle.rp_geometry.proofs.Kept.{are_half_spaces}
use Rattle.rp_geometry.proofs.Members.{same_of_tests, cell_passes_as}
use Rattle.rp_parts.proofs.Parity.{differ, parity}
use Rattle.rp_parts.proofs.Ends.{IsNearby, AreNear, edges_near, ends_of}
use Rattle.rp_parts.proofs.Trapezoids.{trapezoid_kept}
use Rattle.rp_parts.proofs.Together.{in_trapezoid, trapezoids_together}

-- ---- laws of tests

-- three tests in a conjunction, grouped in two ways
and_groups : (a b c : Bool) → (a && (b && c)) ≡ ((a && b) && c)
and_groups true b c = refl
and_groups false b c = refl

-- and in a disjunction
pub or_groups : (a b c : Bool) → (a || (b || c)) ≡ ((a || b) || c)
or_groups true b c = refl
or_groups false b c = refl

-- a test in a conjunction with each of two tests is one with either of them
pub and_spreads : (a b c : Bool) → ((a && b) || (a && c)) ≡ (a && (b || c))
and_spreads true b c = refl
and_spreads false b c = refl

-- and on the other side
pub or_spreads : (a b c : Bool) → ((a && c) || (b && c)) ≡ ((a || b) && c)
or_spreads true true true = refl
or_spreads true true false = refl
or_spreads true false true = refl
or_spreads true false false = refl
or_spreads false b c = refl

-- nothing passes a test and one that fails
none_of : (a : Bool) → false ≡ (a && false)
none_of true = refl
none_of false = refl

-- the opposite of a conjunction
not_and : (a b : Bool) → (not a || not b) ≡ not (a && b)
not_and true b = refl
not_and false b = refl

-- of a disjunction
not_or : (a b : Bool) → (not a && not b) ≡ not (a || b)
not_or true b = refl
not_or false b = refl

-- of a test without another
not_but : (a b : Bool) → (not a || b) ≡ not (a && not b)
not_but true true = refl
not_but true false = refl
not_but false b = refl

-- of an opposite
twice_not : (a : Bool) → a ≡ not (not a)
twice_not true = refl
twice_not false = refl

-- one test alone, as the cells say it
alone : (a : Bool) → ((a && true) || false) ≡ a
alone true = refl
alone false = refl

-- ---- cells together

-- two cells put together hold the points that both hold
pub cell_append : (c e : List HalfSpace) (p : RationalPoint) → passes (shape_of_cell (c ++ e)) p ≡ (passes (shape_of_cell c) p && passes (shape_of_cell e) p)
cell_append [] e p = refl
cell_append (h ∷ c) e p = ap (λ b. holds h p && b) (cell_append c e p) ∙ and_groups (holds h p) (passes (shape_of_cell c) p) (passes (shape_of_cell e) p)

-- two lists of cells put together hold the points that one of them holds
pub cells_append : (f g : List (List HalfSpace)) (p : RationalPoint) → passes (shape_of_cells (f ++ g)) p ≡ (passes (shape_of_cells f) p || passes (shape_of_cells g) p)
cells_append [] g p = refl
cells_append (c ∷ f) g p = ap (λ b. passes (shape_of_cell c) p || b) (cells_append f g p) ∙ or_groups (passes (shape_of_cell c) p) (passes (shape_of_cells f) p) (passes (shape_of_cells g) p)

-- a cell put together with each cell of a list
abbrev with_each : List HalfSpace → List (List HalfSpace) → List (List HalfSpace)
with_each c [] = []
with_each c (e ∷ g) = (c ++ e) ∷ with_each c g

-- each cell of a list put together with each of another
abbrev pub all_joins : List (List HalfSpace) → List (List HalfSpace) → List (List HalfSpace)
all_joins [] g = []
all_joins (c ∷ f) g = with_each c g ++ all_joins f g

-- they hold the points that the cell and the list hold
with_each_passes : (c : List HalfSpace) (g : List (List HalfSpace)) (p : RationalPoint) → passes (shape_of_cells (with_each c g)) p ≡ (passes (shape_of_cell c) p && passes (shape_of_cells g) p)
with_each_passes c [] p = none_of (passes (shape_of_cell c) p)
with_each_passes c (e ∷ g) p = (λ i. cell_append c e p i || with_each_passes c g p i) ∙ and_spreads (passes (shape_of_cell c) p) (passes (shape_of_cell e) p) (passes (shape_of_cells g) p)

-- they hold the points that both lists hold
pub all_joins_passes : (f g : List (List HalfSpace)) (p : RationalPoint) → passes (shape_of_cells (all_joins f g)) p ≡ (passes (shape_of_cells f) p && passes (shape_of_cells g) p)
all_joins_passes [] g p = refl
all_joins_passes (c ∷ f) g p =
    cells_append (with_each c g) (all_joins f g) p
    ∙ (λ i. with_each_passes c g p i || all_joins_passes f g p i)
    ∙ or_spreads (passes (shape_of_cell c) p) (passes (shape_of_cells f) p) (passes (shape_of_cells g) p)

-- the complements of the half-spaces of a cell, each as a cell
abbrev pub complements : List HalfSpace → List (List HalfSpace)
complements [] = []
complements (h ∷ c) = (complement h ∷ []) ∷ complements c

-- they hold the points that the cell does not hold
pub complements_pass : (c : List HalfSpace) → AreHalfSpaces c → (p : RationalPoint) → IsPoint p → passes (shape_of_cells (complements c)) p ≡ not (passes (shape_of_cell c) p)
complements_pass [] k p w = refl
complements_pass (h ∷ c) k p w = (λ i. first_one i || complements_pass c k.1 p w i) ∙ not_and (holds h p) (passes (shape_of_cell c) p)
  where
    keep : (a : Bool) → (a && true) ≡ a
    keep true = refl
    keep false = refl

    first_one : (holds (complement h) p && true) ≡ not (holds h p)
    first_one = keep (holds (complement h) p) ∙ complement_holds_the_others_spec h k.0 p w

-- ---- bounds

-- a cell put together with each of a list keeps the bounds
with_each_bounded : (c : List HalfSpace) (g : List (List HalfSpace)) → AreHalfSpaces c → IsBoundedRegion g → IsBoundedRegion (with_each c g)
with_each_bounded c [] k l = tt
with_each_bounded c (e ∷ g) k l = (all_append IsHalfSpace c e k l.0, with_each_bounded c g k l.1)

-- and so does each of one list with each of another
pub all_joins_bounded : (f g : List (List HalfSpace)) → IsBoundedRegion f → IsBoundedRegion g → IsBoundedRegion (all_joins f g)
all_joins_bounded [] g k l = tt
all_joins_bounded (c ∷ f) g k l = all_append AreHalfSpaces (with_each c g) (all_joins f g) (with_each_bounded c g k.0 l) (all_joins_bounded f g k.1 l)

-- and so do the complements
pub complements_bounded : (c : List HalfSpace) → AreHalfSpaces c → IsBoundedRegion (complements c)
complements_bounded [] k = tt
complements_bounded (h ∷ c) k = ((complement_is_half_space h k.0, tt), complements_bounded c k.1)

-- a test, or its opposite
abbrev pub agrees : Bool → Bool → Bool
agrees true a = a
agrees false a = not a

-- ---- the cells of a prism, and of its outside

-- the cells of some edges more: an edge whose ends have one x is passed over, and the trapezoid of any other is put together with the cells of the other kind, its outside with those of the same kind
abbrev over_edge : Prism → Edge → Bool → List (List HalfSpace) → List (List HalfSpace) → List (List HalfSpace)
over_edge s e true same others = same
over_edge s e false same others = all_joins (trapezoid s e ∷ []) others ++ all_joins (complements (trapezoid s e)) same

-- the cells whose points are in an odd number of the trapezoids of some edges, or in an even number
abbrev pub crossed : Prism → List Edge → Bool → List (List HalfSpace)
crossed s [] true = []
crossed s [] false = [] ∷ []
crossed s (e ∷ es) b = over_edge s e (is_upright e) (crossed s es b) (crossed s es (not b))

-- one trapezoid more
one_more : (b t r : Bool) → (((t || false) && agrees (not b) r) || (not t && agrees b r)) ≡ agrees b (differ t r)
one_more true true r = or_false (not r)
one_more true false r = refl
one_more false true r = or_false r ∙ twice_not r
one_more false false r = refl

module _ (s : Prism) (k : IsPrism s) where
  -- the half-spaces of a trapezoid keep the bounds
  trapezoid_bounded : (e : Edge) → AreNear e → is_upright e ≡ false → AreHalfSpaces (trapezoid s e)
  trapezoid_bounded e n u = are_half_spaces (trapezoid s e) (trapezoid_kept s e k (ends_of IsNearby e n.0 n.1 u))

  -- the points of one edge more
  over_passes : (e : Edge) → AreNear e → (b r : Bool) (same others : List (List HalfSpace)) (p : RationalPoint) → IsPoint p
      → passes (shape_of_cells same) p ≡ agrees b r → passes (shape_of_cells others) p ≡ agrees (not b) r
      → (u : Bool) → is_upright e ≡ u → passes (shape_of_cells (over_edge s e u same others)) p ≡ agrees b (differ (in_trapezoid s p u e) r)
  over_passes e n b r same others p w h j true u = h
  over_passes e n b r same others p w h j false u =
      cells_append (all_joins (trapezoid s e ∷ []) others) (all_joins (complements (trapezoid s e)) same) p
      ∙ (λ i. all_joins_passes (trapezoid s e ∷ []) others p i || all_joins_passes (complements (trapezoid s e)) same p i)
      ∙ (λ i. ((passes (shape_of_cell (trapezoid s e)) p || false) && j i) || (complements_pass (trapezoid s e) (trapezoid_bounded e n u) p w i && h i))
      ∙ one_more b (passes (shape_of_cell (trapezoid s e)) p) r
      ∙ ap (λ t. agrees b (differ t r)) (sym (cell_passes_as (trapezoid s e) p))

  -- the points of the cells of some edges
  crossed_passes : (es : List Edge) → AllByRecursion AreNear es → (b : Bool) (p : RationalPoint) → IsPoint p → passes (shape_of_cells (crossed s es b)) p ≡ agrees b (parity (λ e. in_trapezoid s p (is_upright e) e) es)
  crossed_passes [] n true p w = refl
  crossed_passes [] n false p w = refl
  crossed_passes (e ∷ es) n b p w =
      over_passes e n.0 b (parity (λ d. in_trapezoid s p (is_upright d) d) es) (crossed s es b) (crossed s es (not b)) p w
      (crossed_passes es n.1 b p w) (crossed_passes es n.1 (not b) p w) (is_upright e) refl

  -- they keep the bounds, with one edge more
  over_bounded : (e : Edge) → AreNear e → (same others : List (List HalfSpace)) → IsBoundedRegion same → IsBoundedRegion others → (u : Bool) → is_upright e ≡ u → IsBoundedRegion (over_edge s e u same others)
  over_bounded e n same others h j true u = h
  over_bounded e n same others h j false u =
      let t = trapezoid_bounded e n u in
      all_append AreHalfSpaces (all_joins (trapezoid s e ∷ []) others) (all_joins (complements (trapezoid s e)) same)
      (all_joins_bounded (trapezoid s e ∷ []) others (t, tt) j)
      (all_joins_bounded (complements (trapezoid s e)) same (complements_bounded (trapezoid s e) t) h)

  -- and with all
  crossed_bounded : (es : List Edge) → AllByRecursion AreNear es → (b : Bool) → IsBoundedRegion (crossed s es b)
  crossed_bounded [] n true = tt
  crossed_bounded [] n false = (tt, tt)
  crossed_bounded (e ∷ es) n b = over_bounded e n.0 (crossed s es b) (crossed s es (not b)) (crossed_bounded es n.1 b) (crossed_bounded es n.1 (not b)) (is_upright e) refl

-- ---- the cells of a shape, and of its outside

-- the cells whose points pass the test of the shape, or do not pass it
abbrev pub cells_where : Shape → Bool → List (List HalfSpace)
cells_where (half_space h) true = (h ∷ []) ∷ []
cells_where (half_space h) false = (complement h ∷ []) ∷ []
cells_where (box b) true = box_half_spaces b ∷ []
cells_where (box b) false = complements (box_half_spaces b)
cells_where (prism s) b = crossed s (edges_of s.corners) b
cells_where everything true = [] ∷ []
cells_where everything false = []
cells_where nothing true = []
cells_where nothing false = [] ∷ []
cells_where (intersection s t) true = all_joins (cells_where s true) (cells_where t true)
cells_where (intersection s t) false = cells_where s false ++ cells_where t false
cells_where (union s t) true = cells_where s true ++ cells_where t true
cells_where (union s t) false = all_joins (cells_where s false) (cells_where t false)
cells_where (difference s t) true = all_joins (cells_where s true) (cells_where t false)
cells_where (difference s t) false = cells_where s false ++ cells_where t true
cells_where (Shape.complement s) true = cells_where s false
cells_where (Shape.complement s) false = cells_where s true

-- the points of these cells are those that pass, or do not pass
pub where_passes : (s : Shape) → IsBoundedShape s → (b : Bool) (p : RationalPoint) → IsPoint p → passes (shape_of_cells (cells_where s b)) p ≡ agrees b (passes s p)
where_passes (half_space h) k true p w = alone (holds h p)
where_passes (half_space h) k false p w = alone (holds (complement h) p) ∙ complement_holds_the_others_spec h k p w
where_passes (box b) k true p w = or_false (passes (box b) p)
where_passes (box b) k false p w = complements_pass (box_half_spaces b) (box_bounds b k) p w
where_passes (prism s) k b p w = crossed_passes s k (edges_of s.corners) (edges_near s k) b p w ∙ ap (agrees b) (trapezoids_together s p w k)
where_passes everything k true p w = refl
where_passes everything k false p w = refl
where_passes nothing k true p w = refl
where_passes nothing k false p w = refl
where_passes (intersection s t) k true p w = all_joins_passes (cells_where s true) (cells_where t true) p ∙ (λ i. where_passes s k.0 true p w i && where_passes t k.1 true p w i)
where_passes (intersection s t) k false p w = cells_append (cells_where s false) (cells_where t false) p ∙ (λ i. where_passes s k.0 false p w i || where_passes t k.1 false p w i) ∙ not_and (passes s p) (passes t p)
where_passes (union s t) k true p w = cells_append (cells_where s true) (cells_where t true) p ∙ (λ i. where_passes s k.0 true p w i || where_passes t k.1 true p w i)
where_passes (union s t) k false p w = all_joins_passes (cells_where s false) (cells_where t false) p ∙ (λ i. where_passes s k.0 false p w i && where_passes t k.1 false p w i) ∙ not_or (passes s p) (passes t p)
where_passes (difference s t) k true p w = all_joins_passes (cells_where s true) (cells_where t false) p ∙ (λ i. where_passes s k.0 true p w i && where_passes t k.1 false p w i)
where_passes (difference s t) k false p w = cells_append (cells_where s false) (cells_where t true) p ∙ (λ i. where_passes s k.0 false p w i || where_passes t k.1 true p w i) ∙ not_but (passes s p) (passes t p)
where_passes (Shape.complement s) k true p w = where_passes s k false p w
where_passes (Shape.complement s) k false p w = where_passes s k true p w ∙ twice_not (passes s p)

-- and they keep the bounds
pub where_bounded : (s : Shape) → IsBoundedShape s → (b : Bool) → IsBoundedRegion (cells_where s b)
where_bounded (half_space h) k true = ((k, tt), tt)
where_bounded (half_space h) k false = ((complement_is_half_space h k, tt), tt)
where_bounded (box b) k true = (box_bounds b k, tt)
where_bounded (box b) k false = complements_bounded (box_half_spaces b) (box_bounds b k)
where_bounded (prism s) k b = crossed_bounded s k (edges_of s.corners) (edges_near s k) b
where_bounded everything k true = (tt, tt)
where_bounded everything k false = tt
where_bounded nothing k true = tt
where_bounded nothing k false = (tt, tt)
where_bounded (intersection s t) k true = all_joins_bounded (cells_where s true) (cells_where t true) (where_bounded s k.0 true) (where_bounded t k.1 true)
where_bounded (intersection s t) k false = all_append AreHalfSpaces (cells_where s false) (cells_where t false) (where_bounded s k.0 false) (where_bounded t k.1 false)
where_bounded (union s t) k true = all_append AreHalfSpaces (cells_where s true) (cells_where t true) (where_bounded s k.0 true) (where_bounded t k.1 true)
where_bounded (union s t) k false = all_joins_bounded (cells_where s false) (cells_where t false) (where_bounded s k.0 false) (where_bounded t k.1 false)
where_bounded (difference s t) k true = all_joins_bounded (cells_where s true) (cells_where t false) (where_bounded s k.0 true) (where_bounded t k.1 false)
where_bounded (difference s t) k false = all_append AreHalfSpaces (cells_where s false) (cells_where t true) (where_bounded s k.0 false) (where_bounded t k.1 true)
where_bounded (Shape.complement s) k true = where_bounded s k false
where_bounded (Shape.complement s) k false = where_bounded s k true

-- the law
pub shape_is_region_spec : ShapeIsRegion
shape_is_region_spec s k = (cells_where s true, where_bounded s k true, same_of_tests (shape_of_cells (cells_where s true)) s (λ p w. where_passes s k true p w))

-- ---- regions as shapes

-- the shape of a cell keeps the bounds
pub cell_is_bounded : (cell : List HalfSpace) → AreHalfSpaces cell → IsBoundedShape (shape_of_cell cell)
cell_is_bounded [] k = tt
cell_is_bounded (h ∷ cell) k = (k.0, cell_is_bounded cell k.1)

-- and that of a list of parts
pub parts_are_bounded : (ps : List Part) → AllByRecursion (λ p. AreHalfSpaces p.cell) ps → IsBoundedShape (shape_of_parts ps)
parts_are_bounded [] k = tt
parts_are_bounded (p ∷ ps) k = (cell_is_bounded p.cell k.0, parts_are_bounded ps k.1)
