use Rattle.std.proofs.Common.{List, [], ◌∷◌, ◌++◌, ap, ◌∙◌, subst}
use Rattle.std.proofs.lemmas.Result.{err_from_is_err_and}
use Rattle.rp_geometry.specs.sets.Shape.{Part}
use Rattle.rp_reports.specs.Check.{line_tester}
use Rattle.rp_semantics.specs.Form.{exchange, exchange_lists}
use Rattle.rp_oracle.specs.Refines.{Refines}
use Rattle.rp_oracle.proofs.Left.{left_as, comes_left}
use Rattle.rp_trail.proofs.Prisms.{cell_made, cell_stops}
use Rattle.rp_trail.proofs.prism.exchange_cell.Goals as goal

pub returns-in_err-part : goal.returns-in_err-part
returns-in_err-part c =
    let p = err_from_is_err_and c.from_residual.result c.from_residual.ensures.1 in
    rw (p.1, p.2) (cell_stops c.args.current.items c.args.cell c.in-Some.halves c.args.trail.now c.made.new.trail c.in-Some.is c.in_err-part.field-0.0 c.in_err-part.ensures.comes)

pub returns : goal.returns
returns c =
    comes_left (λ form. form.items) c.exchange.result c.exchange.new.trail
    (left_as (ap (exchange line_tester c.args.current.items) c.in-Some-2.is)
    (cell_made c.args.current.items c.args.cell c.in-Some.halves c.in_ok-part.field-0 c.in-Some.is c.in_ok-part.ensures.comes))
    (subst (λ (ps : List Part). Refines (λ form. form.items) c.exchange.result c.exchange.new.trail (exchange_lists line_tester c.args.current.items ps c.made.new.trail))
    (c.in_ok-push.ensures.ok ∙ ap (λ ps. ps ++ c.in-Some-2.part ∷ []) c.new-new.ensures) c.exchange.ensures)
