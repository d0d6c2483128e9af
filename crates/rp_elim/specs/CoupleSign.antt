-- The values that two half-spaces share in the refutations by them and a third one.
use Rattle.std.specs.Prelude.{◌≡◌, true}
use Rattle.rp_elim.specs.Axes.{axes_of, minor_on}
use Rattle.rp_elim.specs.Sides.{has_sign}
use Rattle.rp_elim.specs.declared.couple.Couple.TheInside.{Inside}

-- the stored axes are those of the two half-spaces, and the stored sign is that of their minor there
pub record IsPrepared (p : Inside) : Type 0 where
  pub axes : (p.u, p.v) ≡ axes_of p.cross.first p.cross.second
  pub last : has_sign p.positive (minor_on (axes_of p.cross.first p.cross.second) p.cross.first p.cross.second) ≡ true
