-- The determinant of three planes with the planes in another order.
use Rattle.std.proofs.Common.{◌≡◌, pos, neg_ℤ, [], ◌∷◌}
use Rattle.rp_algebra.proofs.Reify.{by_ring_at, reify}
use Rattle.rp_geometry.specs.Geometry.{HalfSpace}
use Rattle.rp_geometry.specs.searches.Vertex.{meeting_weight}

-- the first two exchanged
pub weight_exchanged : (f g h : HalfSpace) → meeting_weight g f h ≡ neg_ℤ (meeting_weight f g h)
weight_exchanged f g h = by_ring_at (f.a ∷ f.b ∷ f.c ∷ g.a ∷ g.b ∷ g.c ∷ h.a ∷ h.b ∷ h.c ∷ []) (search reify depth 40 fits 100000) tt

-- the last two exchanged
pub weight_exchanged_last : (f g h : HalfSpace) → meeting_weight f h g ≡ neg_ℤ (meeting_weight f g h)
weight_exchanged_last f g h = by_ring_at (f.a ∷ f.b ∷ f.c ∷ g.a ∷ g.b ∷ g.c ∷ h.a ∷ h.b ∷ h.c ∷ []) (search reify depth 40 fits 100000) tt

-- the first one put last
pub weight_turned : (f g h : HalfSpace) → meeting_weight g h f ≡ meeting_weight f g h
weight_turned f g h = by_ring_at (f.a ∷ f.b ∷ f.c ∷ g.a ∷ g.b ∷ g.c ∷ h.a ∷ h.b ∷ h.c ∷ []) (search reify depth 40 fits 100000) tt

-- with a plane twice it is 0
pub weight_twice : (f h : HalfSpace) → meeting_weight f f h ≡ pos 0
weight_twice f h = by_ring_at (f.a ∷ f.b ∷ f.c ∷ h.a ∷ h.b ∷ h.c ∷ []) (search reify depth 40 fits 100000) tt
