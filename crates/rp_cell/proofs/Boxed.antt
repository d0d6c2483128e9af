-- The box of vertices in any order, and the least box of cells with the same members.
use Rattle.std.proofs.Common.{◌≡◌, true, ℤ, ◌≤ℤ◌, List, [], ◌∷◌, refl, ap, ◌∙◌, arith, Contains}
use Rattle.std.proofs.lemmas.Int.{ints}
use Rattle.rp_algebra.proofs.Listed.{Listed, first}
use Rattle.rp_geometry.specs.Geometry.{RationalPoint, HalfSpace, IntegerBox, is_box_in_bounds, is_closed_cube_point}
use Rattle.rp_geometry.specs.laws.CellLaws.{AreHalfSpaces}
use Rattle.rp_geometry.specs.parts.LeastBox.{BoxHoldsCell, IsBoxWithin, box_of_vertices, least_box}
use Rattle.rp_geometry.specs.searches.Vertex.{vertices}
use Rattle.rp_geometry.specs.sets.Shape.{shape_of_cell}
use Rattle.rp_geometry.specs.sets.Sets.{IsNonempty, IsWithin, SameMembers}
use Rattle.rp_convex.proofs.Held.{in_cell_is_member, member_in_cell}
use Rattle.rp_convex.proofs.Standing.{listed_contains, contains_listed}
use Rattle.rp_parts.proofs.Boxes.{vertex_within, vertices_within}
use Rattle.rp_parts.proofs.LeastBox.{least_box_is_least_spec}
use Rattle.rp_clip.specs.Tables.{AreVertices}
use Rattle.rp_vertex.proofs.InBounds.{vertex_in_cube, vertices_in_bounds}

-- two boxes of which each lies in the other
same_box : (b e : IntegerBox) → IsBoxWithin b e → IsBoxWithin e b → b ≡ e
same_box b e h k = λ i. record {
  x1 = same b.x1 e.x1 k.x.0 h.x.0 i;
  y1 = same b.y1 e.y1 k.y.0 h.y.0 i;
  z1 = same b.z1 e.z1 k.z.0 h.z.0 i;
  x2 = same b.x2 e.x2 h.x.1 k.x.1 i;
  y2 = same b.y2 e.y2 h.y.1 k.y.1 i;
  z2 = same b.z2 e.z2 h.z.1 k.z.1 i;
}
  where
    same : (a c : ℤ) → a ≤ℤ c → c ≤ℤ a → a ≡ c
    same a c h k = omega (arith, ints)

-- lists of the same points have the same box
same_points : (ps qs : List RationalPoint) → ((v : RationalPoint) → Listed v ps → Listed v qs) → ((v : RationalPoint) → Listed v qs → Listed v ps) → box_of_vertices ps ≡ box_of_vertices qs
same_points [] [] to from = refl
same_points [] (q ∷ qs) to from = elim (from q first) [ ]
same_points (p ∷ ps) [] to from = elim (to p first) [ ]
same_points (p ∷ ps) (q ∷ qs) to from =
    same_box (box_of_vertices (p ∷ ps)) (box_of_vertices (q ∷ qs))
    (vertices_within (p ∷ ps) p (box_of_vertices (q ∷ qs)) first (λ u l. vertex_within (q ∷ qs) u (to u l)))
    (vertices_within (q ∷ qs) q (box_of_vertices (p ∷ ps)) first (λ u l. vertex_within (p ∷ ps) u (from u l)))

-- the box of the vertices of a cell, in any order, is its least box
pub box_of_all : (cell : List HalfSpace) (ps : List RationalPoint) → AreVertices cell ps → box_of_vertices ps ≡ least_box cell
unfolding least_box
box_of_all cell ps k =
    same_points ps (vertices cell)
    (λ v l. contains_listed v (vertices cell) ((k.exact v).0 (listed_contains v ps l)))
    (λ v l. contains_listed v ps ((k.exact v).1 (listed_contains v (vertices cell) l)))

-- the vertices of a cell lie in the closed cube
pub all_in_cube : (cell : List HalfSpace) (ps : List RationalPoint) → AreVertices cell ps → (v : RationalPoint) → Contains ps v → is_closed_cube_point v ≡ true
all_in_cube cell ps k v c = vertex_in_cube cell v (contains_listed v (vertices cell) ((k.exact v).0 c))

-- the box of a cell's vertices in the order of the search is its least box
pub least_is : (cell : List HalfSpace) → box_of_vertices (vertices cell) ≡ least_box cell
unfolding least_box
least_is cell = refl

-- the least box of a cell keeps the bounds
pub least_in_bounds : (cell : List HalfSpace) (b : IntegerBox) → b ≡ least_box cell → is_box_in_bounds b ≡ true
unfolding least_box
least_in_bounds cell b e = ap is_box_in_bounds e ∙ vertices_in_bounds cell

-- a box that holds a cell holds one with no other members
holds_within : (cell other : List HalfSpace) (b : IntegerBox) → IsWithin (shape_of_cell other) (shape_of_cell cell) → BoxHoldsCell b cell → BoxHoldsCell b other
holds_within cell other b within holds p m = holds p (member_in_cell cell p (within p (in_cell_is_member other p m)))

-- cells with the same members have the same least box
pub same_least : (cell slim : List HalfSpace) → AreHalfSpaces cell → AreHalfSpaces slim → IsNonempty (shape_of_cell slim) → SameMembers (shape_of_cell slim) (shape_of_cell cell) → least_box cell ≡ least_box slim
same_least cell slim h k (p, m) (to, from) =
    let b = least_box_is_least_spec cell h (p, to p m) in
    let e = least_box_is_least_spec slim k (p, m) in
    same_box (least_box cell) (least_box slim)
    (b.least (least_box slim) (holds_within slim cell (least_box slim) from e.holds_all))
    (e.least (least_box cell) (holds_within cell slim (least_box cell) to b.holds_all))
