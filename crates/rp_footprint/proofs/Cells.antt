-- The cell of an edge, by its number.
use Rattle.std.proofs.Common.{◌≡◌, ℕ, zero, suc, ◌<◌, ◌≤◌, Bool, true, false, ℤ, pos, nat_abs, List, [], ◌∷◌, length, refl, sym, ap, ◌∙◌, subst, arith}
use Rattle.std.specs.Prelude.{slice_index_or, IsTrue}
use Rattle.std.specs.List.{AllByRecursion}
use Rattle.std.proofs.lemmas.Int.{ints}
use Rattle.std.proofs.lemmas.List.{get_or_default}
use Rattle.rp_algebra.proofs.Listed.{list_all_is}
use Rattle.rp_geometry.specs.Geometry.{is_within_bound, cube_bound}
use Rattle.rp_geometry.specs.sets.Prism.{Corner, Edge, edge_of, edges_along, edges_of, is_upright, is_corner_in_bounds, Prism, IsPrism}
use Rattle.rp_geometry.specs.parts.Trapezoid.{least_y}
use Rattle.rp_space.specs.Corners.{polygon_corner, polygon_corners, prism_of}
use Rattle.rp_space.specs.declared.corner.Corner.{Corner as Written}
use Rattle.rp_footprint.specs.Cells.{no_corner, edge_at, trapezoid_by, trapezoid_at, cell_by, AreNear, AreHeights}
use Rattle.rp_parts.proofs.Ends.{both_ends, least_is_near}

-- ---- the edge with a number

-- as many edges as corners
edges_length : (first c : Corner) (ds : List Corner) → length (edges_along first c ds) ≡ suc (length ds)
edges_length first c [] = refl
edges_length first c (d ∷ ds) = ap suc (edges_length first d ds)

-- as many edges as corners
pub edges_as_many : (cs : List Written) → length (edges_of (polygon_corners cs)) ≡ length cs
edges_as_many [] = refl
edges_as_many (c ∷ cs) = edges_length (polygon_corner c) (polygon_corner c) (polygon_corners cs) ∙ ap suc (as_many cs)
  where
    as_many : (ds : List Written) → length (polygon_corners ds) ≡ length ds
    as_many [] = refl
    as_many (d ∷ ds) = ap suc (as_many ds)

-- what is true of all items is true of that at a place
pub at_place : {A : Type 0} (P : A → Type 0) (xs : List A) (i : ℕ) (d : A) → AllByRecursion P xs → i < length xs → P (slice_index_or xs i d)
at_place P [] i d h k = absurd (omega arith)
at_place P (x ∷ xs) zero d h k = h.0
at_place P (x ∷ xs) (suc i) d h k = at_place P xs i d h.1 (omega arith)

-- both ends of the edge with a number are within bounds
ends_near : (low high : ℤ) (cs : List Written) (k : ℕ) → IsPrism (prism_of low high cs) → k < length cs → AreNear (edge_at (polygon_corners cs) k).start (edge_at (polygon_corners cs) k).end
ends_near low high cs k s h =
    let all = list_all_is is_corner_in_bounds (λ c. IsTrue (is_corner_in_bounds c)) (λ c e. e) (polygon_corners cs) s.corners in
    let both = at_place (λ e. IsTrue (is_corner_in_bounds e.start) × IsTrue (is_corner_in_bounds e.end)) (edges_of (polygon_corners cs)) k (edge_of no_corner no_corner)
    (both_ends (λ c. IsTrue (is_corner_in_bounds c)) (polygon_corners cs) all) (omega (arith, edges_as_many cs)) in
    record { first = both.0; second = both.1 }

-- the same of the corners that were read
pub ends_near_as : (low high : ℤ) (cs : List Written) (k : ℕ) (c d : Corner) → IsPrism (prism_of low high cs) → k < length cs → edge_at (polygon_corners cs) k ≡ edge_of c d → AreNear c d
ends_near_as low high cs k c d s h e = subst (λ v. AreNear v.start v.end) e (ends_near low high cs k s h)

-- the heights and the least y are within bounds
pub heights_near : (low high least : ℤ) (cs : List Written) → IsPrism (prism_of low high cs) → least ≡ least_y (polygon_corners cs) → AreHeights low high least
heights_near low high least cs s e = record { low = s.low; high = s.high; least = ap (λ v. is_within_bound cube_bound v) e ∙ within (least_y (polygon_corners cs)) (least_is_near (polygon_corners cs) s.corners) }
  where
    within : (v : ℤ) → nat_abs v ≤ 8388608 → is_within_bound cube_bound v ≡ true
    within v h = grind (arith, ints)

-- the cell from the least y is the trapezoid
pub cell_is_trapezoid : (s : Prism) (b : Bool) (e : Edge) → cell_by s.low s.high (least_y s.corners) b e ≡ trapezoid_by s b e
cell_is_trapezoid s true e = refl
cell_is_trapezoid s false e = refl

-- the cell of the edge that was read
pub cell_as_read : (low high least : ℤ) (cs : List Written) (k : ℕ) (c d : Corner) → least ≡ least_y (polygon_corners cs) → edge_at (polygon_corners cs) k ≡ edge_of c d
    → cell_by low high least (is_upright (edge_of c d)) (edge_of c d) ≡ trapezoid_at (prism_of low high cs) k
cell_as_read low high least cs k c d e f =
    ap (λ v. cell_by low high least (is_upright v) v) (sym f)
    ∙ ap (λ v. cell_by low high v (is_upright (edge_at (polygon_corners cs) k)) (edge_at (polygon_corners cs) k)) e
    ∙ cell_is_trapezoid (prism_of low high cs) (is_upright (edge_at (polygon_corners cs) k)) (edge_at (polygon_corners cs) k)

-- two heights and a y that are others
pub heights_read : {a b y z1 z2 least : ℤ} → a ≡ z1 → b ≡ z2 → y ≡ least → AreHeights z1 z2 least → AreHeights a b y
heights_read ea eb ey h = record {
  low = ap (λ v. is_within_bound cube_bound v) ea ∙ h.low;
  high = ap (λ v. is_within_bound cube_bound v) eb ∙ h.high;
  least = ap (λ v. is_within_bound cube_bound v) ey ∙ h.least;
}

-- the cell at two heights and a y that are others
pub cell_read : {a b y z1 z2 least : ℤ} (c d : Corner) → a ≡ z1 → b ≡ z2 → y ≡ least → cell_by a b y (is_upright (edge_of c d)) (edge_of c d) ≡ cell_by z1 z2 least (is_upright (edge_of c d)) (edge_of c d)
cell_read c d ea eb ey = λ i. cell_by (ea i) (eb i) (ey i) (is_upright (edge_of c d)) (edge_of c d)

-- a corner where there is none
abbrev pub no_written : Written
no_written = record { x = pos 0; y = pos 0 }

-- the edge that was read, for any corner where there is none
pub edge_as_read : (cs : List Written) (k : ℕ) (d e : Written) (end : Corner) → k < length cs → edge_at (polygon_corners cs) k ≡ edge_of (polygon_corner (slice_index_or cs k d)) end → edge_at (polygon_corners cs) k ≡ edge_of (polygon_corner (slice_index_or cs k e)) end
edge_as_read cs k d e end h a = a ∙ ap (λ v. edge_of (polygon_corner v) end) (get_or_default cs k d e h)

-- there are as many edges as corners
pub edge_there : (cs : List Written) (k : ℕ) → k < length cs → k < length (edges_of (polygon_corners cs))
edge_there cs k h = omega (arith, edges_as_many cs)

-- and no more
pub no_edge_there : (cs : List Written) (k : ℕ) → length cs ≤ k → length (edges_of (polygon_corners cs)) ≤ k
no_edge_there cs k h = omega (arith, edges_as_many cs)
