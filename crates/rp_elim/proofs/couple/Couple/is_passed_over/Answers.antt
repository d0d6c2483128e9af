use Rattle.std.proofs.Common.{sym, ◌∙◌}
use Rattle.rp_geometry.specs.searches.Elimination.{refutation_of_three}
use Rattle.rp_elim.proofs.Dependent.{three_independent}
use Rattle.rp_elim.proofs.couple.Couple.is_passed_over.Goals as goal

pub returns : goal.returns
returns c is strict =
    let p = c.self.inside.cross in
    sym (λ i. refutation_of_three strict (c.self.view_is i).first (c.self.view_is i).second c.args.h.now)
    ∙ three_independent strict p.first p.second c.args.h.now (c.is_seen_independent.ensures is)
