use Rattle.std.proofs.Common.{arith}
use Rattle.rp_clip.proofs.CubeCorners.{cube_clip}
use Rattle.rp_clip.proofs.Polygons.{empty_polygon}
use Rattle.rp_clip.proofs.polygon.Polygon.new.Goals as goal

pub invariant_of-result : goal.invariant_of-result
invariant_of-result c =
    (cube_clip 16 c.fill_cube.new.table (omega arith) c.fill_cube.ensures.points c.fill_cube.ensures.planes, empty_polygon c.new.result c.new-2.result c.new.ensures c.new-2.ensures)
