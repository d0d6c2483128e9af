use Rattle.std.proofs.Common.{Bool, not, ap, ◌∙◌}
use Rattle.std.proofs.lemmas.Result.{err_from_is_err_and}
use Rattle.rp_semantics.specs.Walk.{done, after_first}
use Rattle.rp_model.specs.commands.Verdict.{gap}
use Rattle.rp_model.specs.commands.Checks.{refuse_if}
use Rattle.rp_model.specs.commands.Reply.{check}
use Rattle.rp_oracle.proofs.Left.{stops_on}
use Rattle.rp_subdivide.proofs.children.check_covered.Goals as goal

pub returns-in_err-has_gap : goal.returns-in_err-has_gap
returns-in_err-has_gap g c rest =
    let p = err_from_is_err_and c.from_residual.result c.from_residual.ensures.1 in
    rw (p.1, p.2) (stops_on (λ covered. check (refuse_if (not covered) gap) rest) c.in_err-has_gap.field-0.0 c.has_gap.new.tests _ c.in_err-has_gap.ensures)

pub returns-then-branch : goal.returns-then-branch
returns-then-branch g c rest = ap (after_first (λ covered. check (refuse_if (not covered) gap) rest)) (c.in_ok-has_gap.ensures ∙ ap (λ (b : Bool). done (not b) c.has_gap.new.tests) c.if-branch.true)

pub returns : goal.returns
returns g c rest = ap (after_first (λ covered. check (refuse_if (not covered) gap) rest)) (c.in_ok-has_gap.ensures ∙ ap (λ (b : Bool). done (not b) c.has_gap.new.tests) c.if-branch.false)
