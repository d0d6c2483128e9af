use Rattle.std.proofs.Common.{sym, ◌∙◌}
use Rattle.rp_geometry.specs.searches.Vertex.{meeting_weight}
use Rattle.rp_elim.proofs.Mixed.{opposite_of_positive}
use Rattle.rp_elim.proofs.cross.Cross.opposite_sign.Goals as goal

pub returns-then-has_sign-2 : goal.returns-then-has_sign-2
returns-then-has_sign-2 c =
    opposite_of_positive (meeting_weight c.args.self.now.first c.args.self.now.second c.args.h.now) (sym c.has_sign-2.ensures ∙ c.if-has_sign-2.true)
