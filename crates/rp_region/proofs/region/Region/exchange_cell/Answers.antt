use Rattle.std.proofs.Common.{List, ap, refl, subst}
use Rattle.std.proofs.lemmas.Result.{err_from_is_err_and}
use Rattle.rp_geometry.specs.sets.Shape.{Part}
use Rattle.rp_semantics.specs.Walk.{first_tester}
use Rattle.rp_semantics.specs.Form.{exchange, exchange_lists}
use Rattle.rp_region.specs.Makes.{Makes}
use Rattle.rp_region.proofs.Grows.{exchange_tells}
use Rattle.rp_region.proofs.Left.{left_as, given_up, makes_left}
use Rattle.rp_region.proofs.Prisms.{cell_made, cell_failed}
use Rattle.rp_region.proofs.region.Region.exchange_cell.Goals as goal

pub returns-in_err-part : goal.returns-in_err-part
returns-in_err-part c =
    let p = err_from_is_err_and c.from_residual.result c.from_residual.ensures.1 in
    rw (p.1, p.2) (cell_failed c.args.self c.args.cell c.in-Some.halves c.in-Some.halves c.args.work.now c.part_test.new.self c.in-Some.is refl c.in_err-part.field-0.0 c.in_err-part.ensures.makes)

pub returns-in_err-made : goal.returns-in_err-made
returns-in_err-made c =
    let p = err_from_is_err_and c.from_residual-in_err-made.result c.from_residual-in_err-made.ensures.1 in
    rw (p.1, p.2)
    (given_up (exchange first_tester c.args.self c.in_ok-part.field-0) (exchange_tells c.args.self c.in_ok-part.field-0)
    (cell_made c.args.self c.args.cell c.in-Some.halves c.in-Some.halves c.in_ok-part.field-0 c.in-Some.is refl c.in_ok-part.ensures.makes))

pub returns : goal.returns
returns c =
    makes_left (λ region. region) c.exchange.result c.exchange.new.work
    (left_as (ap (exchange first_tester c.args.self) c.in-Some-2.is)
    (cell_made c.args.self c.args.cell c.in-Some.halves c.in-Some.halves c.in_ok-part.field-0 c.in-Some.is refl c.in_ok-part.ensures.makes))
    (subst (λ (ps : List Part). Makes (λ region. region) c.exchange.result c.part_test.new.self c.exchange.new.work (exchange_lists first_tester c.args.self ps)) c.in_ok-made.ensures c.exchange.ensures)
