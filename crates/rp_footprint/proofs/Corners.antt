-- The edge with a number, from its corner to the next.
use Rattle.std.proofs.Common.{◌≡◌, ℕ, zero, suc, ◌+◌, ◌<◌, ◌≤◌, List, [], ◌∷◌, ◌++◌, length, refl, sym, ap, ◌∙◌, arith, add-one}
use Rattle.std.specs.Prelude.{slice_index_or}
use Rattle.rp_geometry.specs.sets.Prism.{Corner, Edge, edge_of, edges_along}
use Rattle.rp_space.specs.Corners.{polygon_corner, polygon_corners}
use Rattle.rp_space.specs.declared.corner.Corner.{Corner as Written}
use Rattle.rp_footprint.specs.Cells.{no_corner, edge_at}

-- ---- the edge with a number

-- the edge from a corner on
edge_along : (first c : Corner) (ds : List Corner) (k : ℕ) (e : Edge) → k < suc (length ds) → slice_index_or (edges_along first c ds) k e ≡ edge_of (slice_index_or (c ∷ ds) k no_corner) (slice_index_or (ds ++ first ∷ []) k no_corner)
edge_along first c [] zero e h = refl
edge_along first c [] (suc k) e h = absurd (omega arith)
edge_along first c (d ∷ ds) zero e h = refl
edge_along first c (d ∷ ds) (suc k) e h = edge_along first d ds k e (omega arith)

-- a corner of those of the model
corner_at : (cs : List Written) (k : ℕ) (d : Written) → k < length cs → slice_index_or (polygon_corners cs) k no_corner ≡ polygon_corner (slice_index_or cs k d)
corner_at [] k d h = absurd (omega arith)
corner_at (c ∷ cs) zero d h = refl
corner_at (c ∷ cs) (suc k) d h = corner_at cs k d (omega arith)

-- a corner before the last, and the last
before_last : (cs : List Written) (first : Corner) (k : ℕ) (d : Written) → k < length cs → slice_index_or (polygon_corners cs ++ first ∷ []) k no_corner ≡ polygon_corner (slice_index_or cs k d)
before_last [] first k d h = absurd (omega arith)
before_last (c ∷ cs) first zero d h = refl
before_last (c ∷ cs) first (suc k) d h = before_last cs first k d (omega arith)

-- the last
at_last : (cs : List Written) (first : Corner) (k : ℕ) → k ≡ length cs → slice_index_or (polygon_corners cs ++ first ∷ []) k no_corner ≡ first
at_last [] first zero e = refl
at_last [] first (suc k) e = absurd (omega arith)
at_last (c ∷ cs) first zero e = absurd (omega arith)
at_last (c ∷ cs) first (suc k) e = at_last cs first k (omega arith)

-- as many corners
as_many : (cs : List Written) → length (polygon_corners cs) ≡ length cs
as_many [] = refl
as_many (c ∷ cs) = ap suc (as_many cs)

-- an edge ends at the next corner
pub edge_to_next : (cs : List Written) (k : ℕ) (d e : Written) → k + 1 < length cs → edge_at (polygon_corners cs) k ≡ edge_of (polygon_corner (slice_index_or cs k d)) (polygon_corner (slice_index_or cs (k + 1) e))
edge_to_next [] k d e h = absurd (omega arith)
edge_to_next (c ∷ cs) k d e h =
    edge_along (polygon_corner c) (polygon_corner c) (polygon_corners cs) k (edge_of no_corner no_corner) (omega (arith, as_many cs))
    ∙ (λ i. edge_of (corner_at (c ∷ cs) k d (omega arith) i) (before_last cs (polygon_corner c) k e (omega arith) i))
    ∙ ap (λ n. edge_of (polygon_corner (slice_index_or (c ∷ cs) k d)) (polygon_corner (slice_index_or (c ∷ cs) n e))) (sym (add-one k))

-- the last edge ends at the first corner
pub edge_to_first : (cs : List Written) (k : ℕ) (d e : Written) → k < length cs → length cs ≤ k + 1 → edge_at (polygon_corners cs) k ≡ edge_of (polygon_corner (slice_index_or cs k d)) (polygon_corner (slice_index_or cs 0 e))
edge_to_first [] k d e h b = absurd (omega arith)
edge_to_first (c ∷ cs) k d e h b =
    edge_along (polygon_corner c) (polygon_corner c) (polygon_corners cs) k (edge_of no_corner no_corner) (omega (arith, as_many cs))
    ∙ (λ i. edge_of (corner_at (c ∷ cs) k d h i) (at_last cs (polygon_corner c) k (omega arith) i))
