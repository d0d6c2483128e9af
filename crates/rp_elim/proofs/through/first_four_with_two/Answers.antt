use Rattle.std.proofs.Common.{sym, ◌∙◌}
use Rattle.rp_geometry.specs.searches.Vertex.{meeting_weight}
use Rattle.rp_elim.proofs.Unfit.{none_with_plane}
use Rattle.rp_elim.proofs.through.first_four_with_two.Goals as goal

pub returns-in-None : goal.returns-in-None
returns-in-None c =
    let q = c.args.q.now in
    sym (none_with_plane c.args.strict c.args.k.now c.args.p.now q (sym (λ i. meeting_weight (c.requires.pair i).first (c.requires.pair i).second q.half) ∙ c.in-None.ensures) c.args.rs.now)
