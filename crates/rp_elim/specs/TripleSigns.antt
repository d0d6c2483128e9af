-- The values that three half-spaces share in the refutations by them and a fourth one.
use Rattle.std.specs.Prelude.{◌≡◌, true, neg_ℤ}
use Rattle.rp_geometry.specs.searches.Vertex.{meeting_weight}
use Rattle.rp_space.specs.TwoHalfSpaces.{two_of}
use Rattle.rp_elim.specs.Sides.{has_sign}
use Rattle.rp_elim.specs.declared.triple.Triple.TheInside.{Inside}

-- the stored cross products are those of the three half-spaces, and the stored sign is that of the last minor
pub record IsPrepared (t : Inside) : Type 0 where
  pub eg : t.eg ≡ two_of t.ef.first t.eg.second
  pub fg : t.fg ≡ two_of t.ef.second t.eg.second
  pub last : has_sign t.positive (neg_ℤ (meeting_weight t.ef.first t.ef.second t.eg.second)) ≡ true
