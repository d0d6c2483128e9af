-- The cross product of the normals of two half-spaces.
use Rattle.std.specs.Prelude.{◌≡◌, ◌*◌, ◌^◌}
use Rattle.rp_algebra.specs.Within.{IsWithin}
use Rattle.rp_geometry.specs.searches.Vertex.{det2}
use Rattle.rp_elim.specs.declared.cross.Cross.TheInside.{Inside}

-- the stored minors are those of the two half-spaces
pub record HasMinors (p : Inside) : Type 0 where
  pub bc : p.bc ≡ det2 p.first.now.b p.first.now.c p.second.now.b p.second.now.c
  pub ac : p.ac ≡ det2 p.first.now.a p.first.now.c p.second.now.a p.second.now.c
  pub ab : p.ab ≡ det2 p.first.now.a p.first.now.b p.second.now.a p.second.now.b
  pub small_bc : IsWithin (2 * 2 ^ 48) p.bc
  pub small_ac : IsWithin (2 * 2 ^ 48) p.ac
  pub small_ab : IsWithin (2 * 2 ^ 48) p.ab
