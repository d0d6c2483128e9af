use Rattle.std.proofs.Common.{ap, ◌∙◌}
use Rattle.std.specs.Prelude.{None, Some, Ok}
use Rattle.std.proofs.lemmas.Result.{err_from_is_err_and}
use Rattle.rp_geometry.specs.parts.Parts.{IsCheckedPart}
use Rattle.rp_semantics.specs.Walk.{done}
use Rattle.rp_semantics.specs.FormLaws.{IsMadeOf}
use Rattle.rp_reports.specs.Check.{follow_part}
use Rattle.rp_row_soundness.proofs.Lines.{line_tester_is_right_spec}
use Rattle.rp_trail.proofs.Tested.{right_where, part_stops, part_none, part_some, part_made_stops}
use Rattle.rp_trail.proofs.part.made.Goals as goal

pub made_inside-requires-clause-shown : goal.made_inside-requires-clause-shown
made_inside-requires-clause-shown c = record { start = c.args.trail.now; shown = c.in_ok-inside.ensures.comes ∙ ap (λ b. done b c.strict_test.new.self) c.if-not-inside.false }

pub returns-in_err-inside-clause-comes : goal.returns-in_err-inside-clause-comes
returns-in_err-inside-clause-comes c =
    let p = err_from_is_err_and c.from_residual.result c.from_residual.ensures.1 in
    rw (p.1, p.2) (part_stops c.args.cell.now c.args.trail.now c.strict_test.new.self c.in_err-inside.field-0.0 c.in_err-inside.ensures.comes)

pub returns-then-not-inside-clause-comes : goal.returns-then-not-inside-clause-comes
returns-then-not-inside-clause-comes c =
    part_none c.args.cell.now c.args.trail.now c.strict_test.new.self (c.in_ok-inside.ensures.comes ∙ ap (λ b. done b c.strict_test.new.self) c.if-not-inside.true)

pub returns-then-not-inside-clause-made : goal.returns-then-not-inside-clause-made
returns-then-not-inside-clause-made c =
    right_where (λ o. o) (λ m. IsMadeOf IsCheckedPart c.args.cell.now m) (Ok None) c.strict_test.new.self (follow_part c.args.cell.now c.args.trail.now) (returns-then-not-inside-clause-comes c)
    (line_tester_is_right_spec.part c.args.cell.now c.keep_halves.ensures c.args.trail.now)

pub returns-in_err-part-clause-comes : goal.returns-in_err-part-clause-comes
returns-in_err-part-clause-comes c =
    let p = err_from_is_err_and c.from_residual-in_err-part.result c.from_residual-in_err-part.ensures.1 in
    rw (p.1, p.2)
    (part_made_stops c.args.cell.now c.args.trail.now c.strict_test.new.self c.made_inside.new.trail c.in_err-part.field-0.0
    (c.in_ok-inside.ensures.comes ∙ ap (λ b. done b c.strict_test.new.self) c.if-not-inside.false) c.in_err-part.ensures)

pub returns-clause-comes : goal.returns-clause-comes
returns-clause-comes c =
    part_some c.args.cell.now c.args.trail.now c.strict_test.new.self (c.in_ok-inside.ensures.comes ∙ ap (λ b. done b c.strict_test.new.self) c.if-not-inside.false)
    ∙ c.in_ok-part.ensures

pub returns-clause-made : goal.returns-clause-made
returns-clause-made c =
    right_where (λ o. o) (λ m. IsMadeOf IsCheckedPart c.args.cell.now m) (Ok (Some c.in_ok-part.part)) c.made_inside.new.trail (follow_part c.args.cell.now c.args.trail.now) (returns-clause-comes c)
    (line_tester_is_right_spec.part c.args.cell.now c.keep_halves.ensures c.args.trail.now)
