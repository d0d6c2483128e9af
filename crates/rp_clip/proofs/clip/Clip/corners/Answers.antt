use Rattle.std.proofs.Common.{List, sym, subst}
use Rattle.rp_geometry.specs.Geometry.{RationalPoint}
use Rattle.rp_clip.specs.Tables.{AreVertices}
use Rattle.rp_clip.proofs.Added.{clip_vertices}
use Rattle.rp_clip.proofs.clip.Clip.corners.Goals as goal

pub returns-clause-vertices : goal.returns-clause-vertices
returns-clause-vertices g c =
    subst (λ (xs : List RationalPoint). AreVertices c.args.self.now.halves xs) (sym c.corners.ensures.points) (clip_vertices c.args.self.now.halves c.table.result.now c.table.ensures.clip)
