-- The form of a prism, edge by edge.
use Rattle.std.proofs.Common.{◌≡◌, ℕ, suc, ◌+◌, ◌<◌, ◌≤◌, Bool, true, false, List, ◌++◌, length, drop, refl, sym, ap, ◌∙◌, subst, add-one}
use Rattle.std.specs.Prelude.{Option, Some}
use Rattle.std.proofs.Math.Seq.{drop-cons}
use Rattle.std.proofs.lemmas.List.{drop_all}
use Rattle.rp_geometry.specs.Geometry.{HalfSpace}
use Rattle.rp_geometry.specs.sets.Prism.{Edge, edge_of, edges_of, is_upright, Prism, IsPrism}
use Rattle.rp_geometry.specs.sets.Shape.{Shape, Part}
use Rattle.rp_geometry.specs.parts.Parts.{IsCheckedPart, AreOf, most_parts}
use Rattle.rp_semantics.specs.Walk.{done, Walk, ◌>>=◌}
use Rattle.rp_semantics.specs.FormLaws.{IfDone}
use Rattle.rp_semantics.specs.Form.{if_at_most, subtract, exchange, exchange_edge, exchange_edges, prism_form, exchange_lists, exchange_cell}
use Rattle.rp_reports.specs.Check.{Trail, follow_part, line_tester}
use Rattle.rp_footprint.specs.Cells.{no_corner, edge_at, trapezoid_by, trapezoid_at}
use Rattle.rp_forms.proofs.Prisms.{prism_is_right_spec}
use Rattle.rp_row_soundness.proofs.Lines.{line_tester_is_right_spec}
use Rattle.rp_oracle.specs.declared.stopped.Stopped.{Stopped}
use Rattle.rp_oracle.specs.Refines.{StopsBy}
use Rattle.rp_oracle.proofs.Left.{IsLeft, all_left, left_as, next_left, stop_left, end_left}

-- ---- one exchange

-- what is left of the first list outside the second: the other difference is left
first_left : (current made outside : List Part) {t u : Trail} → subtract line_tester current made t ≡ done outside u
    → IsLeft t (exchange_lists line_tester current made) u (subtract line_tester made current >>= λ added. if_at_most most_parts (outside ++ added))
first_left current made outside {t = t} m =
    next_left (subtract line_tester current made) (λ outside. subtract line_tester made current >>= λ added. if_at_most most_parts (outside ++ added)) (all_left t (exchange_lists line_tester current made)) m

-- a first difference that stops
pub first_stops : (current made : List Part) (t u : Trail) (e : Stopped) → StopsBy e u (subtract line_tester current made t) → StopsBy e u (exchange_lists line_tester current made t)
first_stops current made t u e m =
    stop_left (subtract line_tester current made) (λ outside. subtract line_tester made current >>= λ added. if_at_most most_parts (outside ++ added)) (all_left t (exchange_lists line_tester current made)) e u m

-- a second difference that stops
pub second_stops : (current made outside : List Part) (t u v : Trail) → subtract line_tester current made t ≡ done outside u → (e : Stopped) → StopsBy e v (subtract line_tester made current u) → StopsBy e v (exchange_lists line_tester current made t)
second_stops current made outside t u v m e n =
    stop_left (subtract line_tester made current) (λ added. if_at_most most_parts (outside ++ added)) (first_left current made outside m) e v n

-- ---- one cell

-- the lines have made a part of the cell or none, which is to be exchanged
pub cell_made : (current : List Part) (o : Option (List HalfSpace)) (cell : List HalfSpace) (made : Option Part) {t u : Trail} → o ≡ Some cell → follow_part cell t ≡ done made u
    → IsLeft t (exchange_cell line_tester current o) u (exchange line_tester current made)
cell_made current o cell made {t = t} i m =
    next_left (follow_part cell) (exchange line_tester current) (left_as (ap (exchange_cell line_tester current) i) (all_left t (exchange_cell line_tester current o))) m

-- a part test that stops
pub cell_stops : (current : List Part) (o : Option (List HalfSpace)) (cell : List HalfSpace) (t u : Trail) → o ≡ Some cell → (e : Stopped) → StopsBy e u (follow_part cell t) → StopsBy e u (exchange_cell line_tester current o t)
cell_stops current o cell t u i e m =
    stop_left (follow_part cell) (exchange line_tester current) (left_as (ap (exchange_cell line_tester current) i) (all_left t (exchange_cell line_tester current o))) e u m

-- ---- the edges in order

-- the cell of an edge is its trapezoid, if there is one
edge_as_cell : (s : Prism) (u : Bool) (current : List Part) (e : Edge) → exchange_edge line_tester s u current e ≡ exchange_cell line_tester current (trapezoid_by s u e)
edge_as_cell s true current e = refl
edge_as_cell s false current e = refl

-- the edge with a number and those behind it are left: its cell first
edge_next : (s : Prism) (current : List Part) (k : ℕ) (cell : Option (List HalfSpace)) → k < length (edges_of s.corners) → cell ≡ trapezoid_at s k
    → exchange_edges line_tester s current (drop k (edges_of s.corners)) ≡ (exchange_cell line_tester current cell >>= λ next. exchange_edges line_tester s next (drop (k + 1) (edges_of s.corners)))
edge_next s current k cell h c =
    let es = edges_of s.corners in
    let e = edge_at s.corners k in
    ap (exchange_edges line_tester s current) (drop-cons es k (edge_of no_corner no_corner) h)
    ∙ (λ i. edge_as_cell s (is_upright e) current e i >>= λ next. exchange_edges line_tester s next (drop (suc k) es))
    ∙ (λ i. exchange_cell line_tester current (sym c i) >>= λ next. exchange_edges line_tester s next (drop (sym (add-one k) i) es))

-- its cell was exchanged: those behind it are left
pub edge_drawn : {start now new : Trail} {whole : Walk Trail (List Part)} (s : Prism) (current next : List Part) (k : ℕ) (cell : Option (List HalfSpace)) → k < length (edges_of s.corners) → cell ≡ trapezoid_at s k
    → IsLeft start whole now (exchange_edges line_tester s current (drop k (edges_of s.corners))) → exchange_cell line_tester current cell now ≡ done next new
    → IsLeft start whole new (exchange_edges line_tester s next (drop (k + 1) (edges_of s.corners)))
edge_drawn s current next k cell h c left m =
    next_left (exchange_cell line_tester current cell) (λ next. exchange_edges line_tester s next (drop (k + 1) (edges_of s.corners))) (left_as (edge_next s current k cell h c) left) m

-- its cell stops: so does the whole walk
pub edge_stops : {start now : Trail} {whole : Walk Trail (List Part)} (s : Prism) (current : List Part) (k : ℕ) (cell : Option (List HalfSpace)) → k < length (edges_of s.corners) → cell ≡ trapezoid_at s k
    → IsLeft start whole now (exchange_edges line_tester s current (drop k (edges_of s.corners))) → (e : Stopped) (new : Trail) → StopsBy e new (exchange_cell line_tester current cell now) → StopsBy e new (whole start)
edge_stops s current k cell h c left e new m =
    stop_left (exchange_cell line_tester current cell) (λ next. exchange_edges line_tester s next (drop (k + 1) (edges_of s.corners))) (left_as (edge_next s current k cell h c) left) e new m

-- no edge is left
pub edges_end : {start now : Trail} {whole : Walk Trail (List Part)} (s : Prism) (current : List Part) (k : ℕ) → length (edges_of s.corners) ≤ k
    → IsLeft start whole now (exchange_edges line_tester s current (drop k (edges_of s.corners))) → whole start ≡ done current now
edges_end {now = now} s current k h left = end_left (done current now) left (ap (λ es. exchange_edges line_tester s current es now) (drop_all k (edges_of s.corners) h))

-- the form of a prism has its members
pub drawn_of : (s : Prism) → IsPrism s → (made : List Part) (t u : Trail) → prism_form line_tester s t ≡ done made u → AreOf IsCheckedPart (Shape.prism s) made
drawn_of s k made t u e = subst (λ o. IfDone o (λ made. AreOf IsCheckedPart (Shape.prism s) made)) e (prism_is_right_spec IsCheckedPart line_tester line_tester_is_right_spec s k t)
