use Rattle.std.proofs.Common.{ap, ◌∙◌}
use Rattle.std.specs.Prelude.{option_map}
use Rattle.std.proofs.lemmas.Result.{err_from_is_err_and}
use Rattle.rp_semantics.specs.Walk.{done, after_first}
use Rattle.rp_model.specs.commands.Verdict.{outside_lot}
use Rattle.rp_model.specs.commands.Reply.{check}
use Rattle.rp_oracle.proofs.Left.{stops_on}
use Rattle.rp_subdivide.proofs.children.check_inside.Goals as goal

pub returns-in_err-number : goal.returns-in_err-number
returns-in_err-number g c rest =
    let p = err_from_is_err_and c.from_residual.result c.from_residual.ensures.1 in
    rw (p.1, p.2) (stops_on (λ out. check out rest) c.in_err-number.field-0.0 c.first_outside.new.tests _ c.in_err-number.ensures)

pub returns-in-Some : goal.returns-in-Some
returns-in-Some g c rest = ap (after_first (λ out. check out rest)) (c.in_ok-number.ensures ∙ ap (λ o. done (option_map outside_lot o) c.first_outside.new.tests) c.in-Some.is)

pub returns-in-None : goal.returns-in-None
returns-in-None g c rest = ap (after_first (λ out. check out rest)) (c.in_ok-number.ensures ∙ ap (λ o. done (option_map outside_lot o) c.first_outside.new.tests) c.in-None.is)
