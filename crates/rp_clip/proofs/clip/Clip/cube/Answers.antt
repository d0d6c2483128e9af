use Rattle.std.proofs.Common.{List, [], subst, sym}
use Rattle.rp_geometry.specs.Geometry.{HalfSpace}
use Rattle.rp_clip.specs.Clipped.{HasVertices}
use Rattle.rp_clip.proofs.Added.{clip_vertices}
use Rattle.rp_clip.proofs.CubeCorners.{cube_clip}
use Rattle.rp_clip.proofs.clip.Clip.cube.Goals as goal

pub invariant_of-clip : goal.invariant_of-clip
invariant_of-clip g c =
    subst (λ (hs : List HalfSpace). HasVertices g.row.MOST hs c.fill_cube.new.table) (sym c.new.ensures) (cube_clip g.row.MOST c.fill_cube.new.table c.requires c.fill_cube.ensures.points c.fill_cube.ensures.planes)

pub returns-clause-vertices : goal.returns-clause-vertices
returns-clause-vertices g c = clip_vertices [] c.fill_cube.new.table (cube_clip g.row.MOST c.fill_cube.new.table c.requires c.fill_cube.ensures.points c.fill_cube.ensures.planes)
