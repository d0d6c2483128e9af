use Rattle.rp_vertex.proofs.Lines.{cube_span}
use Rattle.rp_vertex.proofs.line.line_of.Goals as goal

pub clipped-requires : goal.clipped-requires
clipped-requires c = cube_span c.args.system.now c.args.pair.now c.in-Some.span c.requires c.in-Some.ensures
