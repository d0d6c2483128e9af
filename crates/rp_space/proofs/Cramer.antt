-- Cramer's rule along the third plane, by the minors of the first two.
use Rattle.std.proofs.Common.{◌≡◌, ℤ, ◌+ℤ◌, ◌-ℤ◌, ◌*ℤ◌, [], ◌∷◌, ◌∙◌}
use Rattle.rp_algebra.proofs.Reify.{by_ring_at, reify}
use Rattle.rp_geometry.specs.Geometry.{HalfSpace}
use Rattle.rp_geometry.specs.searches.Vertex.{det2, cramer_point}

-- the first coordinate
pub x_is : (f g h : HalfSpace) (bd cd bc : ℤ) → bd ≡ det2 f.b f.d g.b g.d → cd ≡ det2 f.c f.d g.c g.d → bc ≡ det2 f.b f.c g.b g.c → h.c *ℤ bd -ℤ h.b *ℤ cd -ℤ h.d *ℤ bc ≡ (cramer_point f g h).x
x_is f g h bd cd bc ebd ecd ebc =
    (λ i. h.c *ℤ (ebd i) -ℤ h.b *ℤ (ecd i) -ℤ h.d *ℤ (ebc i)) ∙ by_ring_at (f.a ∷ f.b ∷ f.c ∷ f.d ∷ g.a ∷ g.b ∷ g.c ∷ g.d ∷ h.a ∷ h.b ∷ h.c ∷ h.d ∷ []) (search reify depth 40 fits 100000) tt

-- the second coordinate
pub y_is : (f g h : HalfSpace) (cd ad ac : ℤ) → cd ≡ det2 f.c f.d g.c g.d → ad ≡ det2 f.a f.d g.a g.d → ac ≡ det2 f.a f.c g.a g.c → h.a *ℤ cd -ℤ h.c *ℤ ad +ℤ h.d *ℤ ac ≡ (cramer_point f g h).y
y_is f g h cd ad ac ecd ead eac =
    (λ i. h.a *ℤ (ecd i) -ℤ h.c *ℤ (ead i) +ℤ h.d *ℤ (eac i)) ∙ by_ring_at (f.a ∷ f.b ∷ f.c ∷ f.d ∷ g.a ∷ g.b ∷ g.c ∷ g.d ∷ h.a ∷ h.b ∷ h.c ∷ h.d ∷ []) (search reify depth 40 fits 100000) tt

-- the third coordinate
pub z_is : (f g h : HalfSpace) (ad bd ab : ℤ) → ad ≡ det2 f.a f.d g.a g.d → bd ≡ det2 f.b f.d g.b g.d → ab ≡ det2 f.a f.b g.a g.b → h.b *ℤ ad -ℤ h.a *ℤ bd -ℤ h.d *ℤ ab ≡ (cramer_point f g h).z
z_is f g h ad bd ab ead ebd eab =
    (λ i. h.b *ℤ (ead i) -ℤ h.a *ℤ (ebd i) -ℤ h.d *ℤ (eab i)) ∙ by_ring_at (f.a ∷ f.b ∷ f.c ∷ f.d ∷ g.a ∷ g.b ∷ g.c ∷ g.d ∷ h.a ∷ h.b ∷ h.c ∷ h.d ∷ []) (search reify depth 40 fits 100000) tt

-- the weight
pub weight_is : (f g h : HalfSpace) (bc ac ab : ℤ) → bc ≡ det2 f.b f.c g.b g.c → ac ≡ det2 f.a f.c g.a g.c → ab ≡ det2 f.a f.b g.a g.b → h.a *ℤ bc -ℤ h.b *ℤ ac +ℤ h.c *ℤ ab ≡ (cramer_point f g h).w
weight_is f g h bc ac ab ebc eac eab =
    (λ i. h.a *ℤ (ebc i) -ℤ h.b *ℤ (eac i) +ℤ h.c *ℤ (eab i)) ∙ by_ring_at (f.a ∷ f.b ∷ f.c ∷ f.d ∷ g.a ∷ g.b ∷ g.c ∷ g.d ∷ h.a ∷ h.b ∷ h.c ∷ h.d ∷ []) (search reify depth 40 fits 100000) tt
