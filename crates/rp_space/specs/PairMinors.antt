-- Two half-spaces with the 2 by 2 minors of their numbers.
use Rattle.std.specs.Prelude.{◌≡◌, ◌*◌, ◌^◌}
use Rattle.rp_algebra.specs.Within.{IsWithin}
use Rattle.rp_geometry.specs.searches.Vertex.{det2}
use Rattle.rp_space.specs.declared.meeting.Pair.TheInside.{Inside}

-- the stored minors are those of the two half-spaces, and their sizes are within the bounds that follow
pub record HasMinors (p : Inside) : Type 0 where
  pub ab : p.ab ≡ det2 p.first.a p.first.b p.second.a p.second.b
  pub ac : p.ac ≡ det2 p.first.a p.first.c p.second.a p.second.c
  pub bc : p.bc ≡ det2 p.first.b p.first.c p.second.b p.second.c
  pub ad : p.ad ≡ det2 p.first.a p.first.d p.second.a p.second.d
  pub bd : p.bd ≡ det2 p.first.b p.first.d p.second.b p.second.d
  pub cd : p.cd ≡ det2 p.first.c p.first.d p.second.c p.second.d
  pub small_ab : IsWithin (2 * 2 ^ 48) p.ab
  pub small_ac : IsWithin (2 * 2 ^ 48) p.ac
  pub small_bc : IsWithin (2 * 2 ^ 48) p.bc
  pub small_ad : IsWithin (6 * 2 ^ 72) p.ad
  pub small_bd : IsWithin (6 * 2 ^ 72) p.bd
  pub small_cd : IsWithin (6 * 2 ^ 72) p.cd
