-- Whether a point is in a prism, edge by edge.
use Rattle.std.proofs.Common.{◌≡◌, ℕ, suc, ◌+◌, ◌<◌, ◌≤◌, Bool, true, false, not, ◌&&◌, ℤ, List, length, drop, refl, sym, ap, ◌∙◌, subst, arith, add-one}
use Rattle.std.specs.Prelude.{Option}
use Rattle.std.proofs.Math.Seq.{drop-cons}
use Rattle.std.proofs.lemmas.List.{drop_all}
use Rattle.rp_geometry.specs.Geometry.{RationalPoint, HalfSpace, is_cube_point}
use Rattle.rp_geometry.specs.sets.Prism.{Edge, edge_of, edges_of, is_upright, Prism, IsPrism, passes_prism}
use Rattle.rp_geometry.specs.sets.Shape.{Shape, is_member}
use Rattle.rp_geometry.proofs.SameMembers.{cube_point_is_point}
use Rattle.rp_space.specs.Corners.{polygon_corners, prism_of}
use Rattle.rp_space.specs.declared.corner.Corner.{Corner as Written}
use Rattle.rp_footprint.specs.Cells.{no_corner, edge_at, trapezoid_by, trapezoid_at, cell_holds}
use Rattle.rp_parts.proofs.Parity.{differ, parity}
use Rattle.rp_parts.proofs.Together.{in_trapezoid, trapezoids_together}
use Rattle.rp_footprint.proofs.Cells.{edges_as_many}

-- the point is in the trapezoid of an edge
abbrev pub counts : Prism → RationalPoint → Edge → Bool
counts s p e = in_trapezoid s p (is_upright e) e

-- it is in the cell of the edge, where there is one
cell_counts : (s : Prism) (p : RationalPoint) (b : Bool) (e : Edge) → cell_holds (trapezoid_by s b e) p ≡ in_trapezoid s p b e
cell_counts s p true e = refl
cell_counts s p false e = refl

-- what is known while edges are counted: the edges so far and those that are left are odd together exactly where all are
abbrev pub IsCounting : Prism → RationalPoint → Bool → ℕ → Type 0
IsCounting s p odd k = differ odd (parity (counts s p) (drop k (edges_of s.corners))) ≡ parity (counts s p) (edges_of s.corners)

-- one edge more
flips : (a b c : Bool) → differ (differ b a) c ≡ differ a (differ b c)
flips true true c = not_twice c
  where
    not_twice : (d : Bool) → d ≡ not (not d)
    not_twice true = refl
    not_twice false = refl
flips true false c = refl
flips false true c = refl
flips false false c = refl

-- one edge more is counted
pub counting_goes_on : (low high : ℤ) (cs : List Written) (p : RationalPoint) (k : ℕ) (odd : Bool) (cell : Option (List HalfSpace)) (inside next : Bool) → k < length cs → IsCounting (prism_of low high cs) p odd k
    → cell ≡ trapezoid_at (prism_of low high cs) k → inside ≡ cell_holds cell p → next ≡ differ inside odd → IsCounting (prism_of low high cs) p next (k + 1)
counting_goes_on low high cs p k odd cell inside next h a c_is i_is n_is =
    let s = prism_of low high cs in
    let rest = parity (counts s p) (drop (suc k) (edges_of (polygon_corners cs))) in
    let e = edge_at (polygon_corners cs) k in
    let counted : inside ≡ counts s p e = i_is ∙ ap (λ v. cell_holds v p) c_is ∙ cell_counts s p (is_upright e) e in
    (λ i. differ ((n_is ∙ ap (λ v. differ v odd) counted) i) (parity (counts s p) (drop (add-one k i) (edges_of (polygon_corners cs)))))
    ∙ flips odd (counts s p e) rest
    ∙ ap (λ v. differ odd (parity (counts s p) v)) (sym (drop-cons (edges_of (polygon_corners cs)) k (edge_of no_corner no_corner) (omega (arith, edges_as_many cs))))
    ∙ a

-- all edges are counted
pub counting_ends : (low high : ℤ) (cs : List Written) (p : RationalPoint) (k : ℕ) (odd : Bool) → IsPrism (prism_of low high cs) → length cs ≤ k → IsCounting (prism_of low high cs) p odd k
    → true ≡ is_cube_point p → odd ≡ is_member (Shape.prism (prism_of low high cs)) p
counting_ends low high cs p k odd is h a inside =
    let s = prism_of low high cs in
    sym (nothing_more odd)
    ∙ ap (λ v. differ odd (parity (counts s p) v)) (sym (drop_all k (edges_of (polygon_corners cs)) (omega (arith, edges_as_many cs))))
    ∙ a
    ∙ trapezoids_together s p (cube_point_is_point p (sym inside)) is
    ∙ (λ i. inside i && passes_prism s p)
  where
    nothing_more : (b : Bool) → differ b false ≡ b
    nothing_more true = refl
    nothing_more false = refl

-- the same at heights that are others
pub counting_read : (a b z1 z2 : ℤ) (cs : List Written) (p : RationalPoint) (odd : Bool) (k : ℕ) → a ≡ z1 → b ≡ z2 → IsCounting (prism_of a b cs) p odd k → IsCounting (prism_of z1 z2 cs) p odd k
counting_read a b z1 z2 cs p odd k ea eb h = subst (λ v. IsCounting (prism_of z1 v cs) p odd k) eb (subst (λ v. IsCounting (prism_of v b cs) p odd k) ea h)
