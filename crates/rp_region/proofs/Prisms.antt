-- The region of a prism, edge by edge.
use Rattle.std.proofs.Common.{◌≡◌, ℕ, suc, ◌+◌, ◌<◌, ◌≤◌, List, ◌++◌, length, drop, sym, ap, ◌∙◌, subst, add-one}
use Rattle.std.specs.Prelude.{Option, Some}
use Rattle.std.proofs.Math.Seq.{drop-cons}
use Rattle.std.proofs.lemmas.List.{drop_all}
use Rattle.rp_geometry.specs.Geometry.{HalfSpace}
use Rattle.rp_geometry.specs.sets.Prism.{edge_of, edges_of, is_upright, Prism, IsPrism}
use Rattle.rp_geometry.specs.sets.Shape.{Shape, Part, shape_of_parts}
use Rattle.rp_geometry.specs.sets.Sets.{SameMembers}
use Rattle.rp_geometry.specs.parts.Parts.{IsPart, AreOf, most_parts}
use Rattle.rp_semantics.specs.Walk.{done, Walk, ◌>>=◌, Work, part_test, first_tester}
use Rattle.rp_semantics.specs.Form.{if_at_most, subtract, exchange, exchange_edges, prism_form, exchange_lists, exchange_cell}
use Rattle.rp_footprint.specs.Cells.{no_corner, edge_at, trapezoid_at}
use Rattle.rp_forms.proofs.First.{first_tester_is_right_spec}
use Rattle.rp_forms.proofs.Prisms.{prism_is_right_spec}
use Rattle.rp_region.specs.declared.fault.OpFault.{OpFault}
use Rattle.rp_region.specs.Makes.{IsFaultOf}
use Rattle.rp_region.proofs.Grows.{then_tells, few_tells, part_tells, subtract_tells, exchange_tells, cell_tells, edge_as_cell, edges_tell}
use Rattle.rp_region.proofs.Left.{IsLeft, all_left, left_as, next_left, fault_left, end_left}
use Rattle.rp_region.proofs.Members.{at_done}

-- ---- one exchange

-- what is left of the first list outside the second: the other difference is left
pub first_left : (current made outside : List Part) {w u : Work} → subtract first_tester current made w ≡ done outside u
    → IsLeft w (exchange_lists first_tester current made) u (subtract first_tester made current >>= λ added. if_at_most most_parts (outside ++ added))
first_left current made outside {w = w} m =
    next_left (subtract first_tester current made) (λ outside. subtract first_tester made current >>= λ added. if_at_most most_parts (outside ++ added)) (subtract_tells current made) (all_left w (exchange_lists first_tester current made)) m

-- a first difference that has a fault
pub first_failed : (current made : List Part) (w u : Work) (e : OpFault) → IsFaultOf e w u (subtract first_tester current made) → IsFaultOf e w u (exchange_lists first_tester current made)
first_failed current made w u e m =
    fault_left (subtract first_tester current made) (λ outside. subtract first_tester made current >>= λ added. if_at_most most_parts (outside ++ added))
    (λ outside. then_tells (subtract first_tester made current) (λ added. if_at_most most_parts (outside ++ added)) (subtract_tells made current) (λ added. few_tells most_parts (outside ++ added)))
    (all_left w (exchange_lists first_tester current made)) e u m

-- and what is left of the second outside the first: the length of both together is left
pub second_left : (current made outside added : List Part) {w u v : Work} → subtract first_tester current made w ≡ done outside u → subtract first_tester made current u ≡ done added v
    → IsLeft w (exchange_lists first_tester current made) v (if_at_most most_parts (outside ++ added))
second_left current made outside added m n =
    next_left (subtract first_tester made current) (λ added. if_at_most most_parts (outside ++ added)) (subtract_tells made current) (first_left current made outside m) n

-- a second difference that has a fault
pub second_failed : (current made outside : List Part) (w u v : Work) → subtract first_tester current made w ≡ done outside u → (e : OpFault) → IsFaultOf e u v (subtract first_tester made current) → IsFaultOf e w v (exchange_lists first_tester current made)
second_failed current made outside w u v m e n =
    fault_left (subtract first_tester made current) (λ added. if_at_most most_parts (outside ++ added)) (λ added. few_tells most_parts (outside ++ added)) (first_left current made outside m) e v n

-- a part test has made a part or none, which is to be exchanged
pub cell_made : (current : List Part) (o : Option (List HalfSpace)) (cell held : List HalfSpace) (made : Option Part) {w v : Work} → o ≡ Some cell → held ≡ cell → part_test held w ≡ done made v
    → IsLeft w (exchange_cell first_tester current o) v (exchange first_tester current made)
cell_made current o cell held made {w = w} {v = v} i s m =
    next_left (part_test cell) (exchange first_tester current) (part_tells cell) (left_as (ap (exchange_cell first_tester current) i) (all_left w (exchange_cell first_tester current o))) (subst (λ c. part_test c w ≡ done made v) s m)

-- a part test that has a fault
pub cell_failed : (current : List Part) (o : Option (List HalfSpace)) (cell held : List HalfSpace) (w v : Work) → o ≡ Some cell → held ≡ cell → (e : OpFault) → IsFaultOf e w v (part_test held) → IsFaultOf e w v (exchange_cell first_tester current o)
cell_failed current o cell held w v i s e m =
    fault_left (part_test cell) (exchange first_tester current) (exchange_tells current) (left_as (ap (exchange_cell first_tester current) i) (all_left w (exchange_cell first_tester current o))) e v (subst (λ c. IsFaultOf e w v (part_test c)) s m)

-- ---- the edges in order

-- the edge with a number and those behind it are left: its cell first
edge_next : (s : Prism) (current : List Part) (k : ℕ) (cell : Option (List HalfSpace)) → k < length (edges_of s.corners) → cell ≡ trapezoid_at s k
    → exchange_edges first_tester s current (drop k (edges_of s.corners)) ≡ (exchange_cell first_tester current cell >>= λ next. exchange_edges first_tester s next (drop (k + 1) (edges_of s.corners)))
edge_next s current k cell h c =
    let es = edges_of s.corners in
    let e = edge_at s.corners k in
    ap (exchange_edges first_tester s current) (drop-cons es k (edge_of no_corner no_corner) h)
    ∙ (λ i. edge_as_cell s (is_upright e) current e i >>= λ next. exchange_edges first_tester s next (drop (suc k) es))
    ∙ (λ i. exchange_cell first_tester current (sym c i) >>= λ next. exchange_edges first_tester s next (drop (sym (add-one k) i) es))

-- its cell was exchanged: those behind it are left
pub edge_drawn : {start now new : Work} {whole : Walk Work (List Part)} (s : Prism) (current next : List Part) (k : ℕ) (cell : Option (List HalfSpace)) → k < length (edges_of s.corners) → cell ≡ trapezoid_at s k
    → IsLeft start whole now (exchange_edges first_tester s current (drop k (edges_of s.corners))) → exchange_cell first_tester current cell now ≡ done next new
    → IsLeft start whole new (exchange_edges first_tester s next (drop (k + 1) (edges_of s.corners)))
edge_drawn s current next k cell h c left m =
    next_left (exchange_cell first_tester current cell) (λ next. exchange_edges first_tester s next (drop (k + 1) (edges_of s.corners))) (cell_tells current cell) (left_as (edge_next s current k cell h c) left) m

-- its cell has a fault: so has the whole walk
pub edge_failed : {start now : Work} {whole : Walk Work (List Part)} (s : Prism) (current : List Part) (k : ℕ) (cell : Option (List HalfSpace)) → k < length (edges_of s.corners) → cell ≡ trapezoid_at s k
    → IsLeft start whole now (exchange_edges first_tester s current (drop k (edges_of s.corners))) → (e : OpFault) (new : Work) → IsFaultOf e now new (exchange_cell first_tester current cell) → IsFaultOf e start new whole
edge_failed s current k cell h c left e new m =
    fault_left (exchange_cell first_tester current cell) (λ next. exchange_edges first_tester s next (drop (k + 1) (edges_of s.corners))) (λ next. edges_tell s next (drop (k + 1) (edges_of s.corners))) (left_as (edge_next s current k cell h c) left) e new m

-- no edge is left
pub edges_end : {start now : Work} {whole : Walk Work (List Part)} (s : Prism) (current : List Part) (k : ℕ) → length (edges_of s.corners) ≤ k
    → IsLeft start whole now (exchange_edges first_tester s current (drop k (edges_of s.corners))) → whole start ≡ done current now
edges_end {now = now} s current k h left = end_left (done current now) left (ap (λ es. exchange_edges first_tester s current es now) (drop_all k (edges_of s.corners) h))

-- the form of a prism has its members
pub drawn_members : (s : Prism) → IsPrism s → (made : List Part) (w v : Work) → prism_form first_tester s w ≡ done made v → SameMembers (shape_of_parts made) (Shape.prism s)
drawn_members s k made w v e = (at_done (λ made. AreOf IsPart (Shape.prism s) made) (prism_form first_tester s w) made v e (prism_is_right_spec IsPart first_tester first_tester_is_right_spec s k w)).members
