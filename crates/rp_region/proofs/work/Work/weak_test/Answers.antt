use Rattle.std.proofs.Common.{◌∷◌, [], sym, ap, ◌∙◌}
use Rattle.std.specs.Prelude.{Some, None}
use Rattle.std.proofs.lemmas.Result.{err_from_is_err_and}
use Rattle.rp_geometry.specs.searches.ProofLine.{at_line, apart_line}
use Rattle.rp_semantics.specs.Walk.{weak_test, with_lines}
use Rattle.rp_region.specs.Tells.{weak_tells}
use Rattle.rp_region.proofs.Left.{not_begun}
use Rattle.rp_region.proofs.Tested.{no_weak_point, weak_told}
use Rattle.rp_region.proofs.work.Work.weak_test.Goals as goal

pub returns-in_err-tell-in-At-clause-makes : goal.returns-in_err-tell-in-At-clause-makes
returns-in_err-tell-in-At-clause-makes c =
    let p = err_from_is_err_and c.from_residual.result c.from_residual.ensures.1 in
    let cell = c.args.cell.now in
    rw (p.1) (not_begun (weak_test cell) c.args.self.now c.tell.new.self (weak_tells cell) (c.in_err-tell-in-At.ensures.err ∙ c.decide_weak.ensures.same))

pub returns-in_err-tell-in-Outside-clause-makes : goal.returns-in_err-tell-in-Outside-clause-makes
returns-in_err-tell-in-Outside-clause-makes c =
    let p = err_from_is_err_and c.from_residual-in_err-tell-in-Outside.result c.from_residual-in_err-tell-in-Outside.ensures.1 in
    let cell = c.args.cell.now in
    rw (p.1) (not_begun (weak_test cell) c.args.self.now c.tell-in-Outside.new.self (weak_tells cell) (c.in_err-tell-in-Outside.ensures.err ∙ c.decide_weak.ensures.same))

pub returns-in_ok-tell-in-At-clause-makes : goal.returns-in_ok-tell-in-At-clause-makes
returns-in_ok-tell-in-At-clause-makes c =
    (weak_told c.args.cell.now (Some c.in-At.point) (at_line c.in-At.point) c.args.self.now c.tell.new.self c.in-At.ensures.decides.0 c.in-At.ensures.line (c.in_ok-tell-in-At.ensures.ok ∙ ap (λ w. with_lines w (at_line c.in-At.point ∷ [])) c.decide_weak.ensures.same))

pub returns-in_ok-tell-in-Outside-clause-makes : goal.returns-in_ok-tell-in-Outside-clause-makes
returns-in_ok-tell-in-Outside-clause-makes c =
    (weak_told c.args.cell.now None (apart_line c.in-Outside.terms) c.args.self.now c.tell-in-Outside.new.self (no_weak_point c.args.cell.now c.in-Outside.terms c.in-Outside.ensures.line) c.in-Outside.ensures.line (c.in_ok-tell-in-Outside.ensures.ok ∙ ap (λ w. with_lines w (apart_line c.in-Outside.terms ∷ [])) c.decide_weak.ensures.same))

pub returns-in_ok-tell-in-Outside-clause-first : goal.returns-in_ok-tell-in-Outside-clause-first
returns-in_ok-tell-in-Outside-clause-first c =
    sym (no_weak_point c.args.cell.now c.in-Outside.terms c.in-Outside.ensures.line)
