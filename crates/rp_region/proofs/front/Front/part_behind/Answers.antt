use Rattle.std.proofs.Common.{[], ◌∷◌, ◌++◌, ◌∙◌}
use Rattle.std.proofs.lemmas.Result.{err_from_is_err_and}
use Rattle.rp_geometry.specs.searches.ProofLine.{out_line, strict_line}
use Rattle.rp_semantics.specs.Walk.{part_test}
use Rattle.rp_region.proofs.Grows.{part_tells}
use Rattle.rp_region.proofs.Left.{not_begun}
use Rattle.rp_region.proofs.Tested.{no_points, no_part}
use Rattle.rp_region.proofs.front.Front.part_behind.Goals as goal

pub returns-in_err-tell-clause-makes : goal.returns-in_err-tell-clause-makes
returns-in_err-tell-clause-makes c =
    let p = err_from_is_err_and c.from_residual.result c.from_residual.ensures.1 in
    let cell = c.args.self.now ++ c.args.half.now ∷ [] in
    rw (p.1, p.2) (not_begun (part_test cell) c.args.work.now c.tell.new.self (part_tells cell) c.in_err-tell.ensures.err)

pub returns-in-Some-clause-makes : goal.returns-in-Some-clause-makes
returns-in-Some-clause-makes c =
    let cell = c.args.self.now ++ c.args.half.now ∷ [] in
    let line = c.in-Some.ensures ∙ (λ i. strict_line (c.self.view_is i ++ c.args.half.now ∷ [])) in
    no_part cell (out_line c.in-Some.terms) c.args.work.now c.tell.new.self (no_points cell c.in-Some.terms line) line c.in_ok-tell.ensures.ok
