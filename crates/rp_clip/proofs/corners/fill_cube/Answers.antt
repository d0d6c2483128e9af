use Rattle.std.proofs.Common.{refl, ap}
use Rattle.rp_clip.specs.Masks.{mask_of}
use Rattle.rp_clip.specs.Tables.{Rows}
use Rattle.rp_clip.proofs.CubeCorners.{pushed}
use Rattle.rp_clip.proofs.corners.fill_cube.Goals as goal

pub returns-clause-planes : goal.returns-clause-planes
unfolding mask_of
returns-clause-planes g c =
    pushed (pushed (pushed (pushed (pushed (pushed (pushed (pushed (ap (λ (t : Rows). t.planes) c.clear.ensures) c.push.ensures.planes refl) c.push-2.ensures.planes refl) c.push-3.ensures.planes refl)
    c.push-4.ensures.planes refl) c.push-5.ensures.planes refl) c.push-6.ensures.planes refl) c.push-7.ensures.planes refl) c.push-8.ensures.planes refl
