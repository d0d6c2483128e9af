use Rattle.std.proofs.Common.{ap, sym, ◌∙◌, subst, List, map, rules, w32}
use Rattle.std.proofs.lemmas.Int.{to_z-of_z}
use Rattle.std.specs.Int.RustNames.{FitsSigned}
use Rattle.std.specs.List.{AllByRecursion}
use Rattle.rp_geometry.specs.sets.Shape.{Part}
use Rattle.rp_language.specs.Name.{Label}
use Rattle.rp_language.specs.Expression.{Command, IsKeptExpression, Meaning, expressions_of, subdivide, consolidate, ask_section}
use Rattle.rp_command.specs.declared.command.Expr.{Expr}
use Rattle.rp_command.specs.Views.{child_of, command_of, expression_of, shapes_of}
use Rattle.rp_command.proofs.Children.{kept_shapes}
use Rattle.rp_model.specs.commands.Row.{row}
use Rattle.rp_model.specs.commands.Empty.{row_empty}
use Rattle.rp_model.specs.commands.Pieces.{row_pieces}
use Rattle.rp_model.specs.commands.Rcc.{row_relation}
use Rattle.rp_eval.specs.declared.question.Question.TheVariants.{Equal, Within, Overlap, Contact}
use Rattle.rp_rows.specs.Asked.{row_asking, row_of_member, row_show}
use Rattle.rp_answer.specs.Replies.{Tells, GoesOn, row_of_form, row_of_forms}
use Rattle.rp_register_state.specs.Rows.{rest_of}
use Rattle.rp_register_state.proofs.Told.{told_goes_on, changed_goes_on, told_ready, changed_ready}
use Rattle.rp_register_state.proofs.rows.carry_out.Goals as goal

pub subdivision-requires-clause-kept : goal.subdivision-requires-clause-kept
subdivision-requires-clause-kept g c =
    subst (λ (es : List _). AllByRecursion IsKeptExpression (shapes_of es)) (sym c.items.ensures)
    (kept_shapes c.in-Subdivide.entries.items (subst (λ (d : Command). AllByRecursion IsKeptExpression (expressions_of d)) (ap command_of c.in-Subdivide.is) c.requires.kept))

pub returns-in-Member-clause-goes_on : goal.returns-in-Member-clause-goes_on
returns-in-Member-clause-goes_on g c =
    rw (ap command_of c.in-Member.is, c.told.ensures) (told_goes_on g.T.Oracle.tester g.T.Oracle.parts_of (g.K.Keeper.state c.args.keeper.now) c.membership.result c.args.tests.now _
    (subst (λ (m : Meaning (List Part)). Tells c.membership.result c.args.tests.now (row_of_member m (expression_of c.in-Member.region) c.in-Member.point c.args.tests.now)) c.keep_meaning.ensures (c.membership.ensures c.args.tests.now)))

pub returns-in-Member-clause-ready : goal.returns-in-Member-clause-ready
returns-in-Member-clause-ready g c = told_ready g.T.Oracle.parts_of c.told.result c.membership.result c.told.ensures

pub returns-in-Empty-clause-goes_on : goal.returns-in-Empty-clause-goes_on
returns-in-Empty-clause-goes_on g c =
    rw (ap command_of c.in-Empty.is, c.told-in-Empty.ensures) (told_goes_on g.T.Oracle.tester g.T.Oracle.parts_of (g.K.Keeper.state c.args.keeper.now) c.emptiness.result c.emptiness.new.tests _
    (subst (λ (m : Meaning (List Part)). Tells c.emptiness.result c.emptiness.new.tests (row_of_form g.T.Oracle.tester m (expression_of c.in-Empty.region) (row_empty g.T.Oracle.tester) c.args.tests.now)) c.keep_meaning.ensures c.emptiness.ensures))

pub returns-in-Empty-clause-ready : goal.returns-in-Empty-clause-ready
returns-in-Empty-clause-ready g c = told_ready g.T.Oracle.parts_of c.told-in-Empty.result c.emptiness.result c.told-in-Empty.ensures

pub returns-in-Pieces-clause-goes_on : goal.returns-in-Pieces-clause-goes_on
returns-in-Pieces-clause-goes_on g c =
    rw (ap command_of c.in-Pieces.is, c.told-in-Pieces.ensures) (told_goes_on g.T.Oracle.tester g.T.Oracle.parts_of (g.K.Keeper.state c.args.keeper.now) c.piece_numbers.result c.piece_numbers.new.tests _
    (subst (λ (m : Meaning (List Part)). Tells c.piece_numbers.result c.piece_numbers.new.tests (row_of_form g.T.Oracle.tester m (expression_of c.in-Pieces.region) (row_pieces g.T.Oracle.tester) c.args.tests.now)) c.keep_meaning.ensures c.piece_numbers.ensures))

pub returns-in-Pieces-clause-ready : goal.returns-in-Pieces-clause-ready
returns-in-Pieces-clause-ready g c = told_ready g.T.Oracle.parts_of c.told-in-Pieces.result c.piece_numbers.result c.told-in-Pieces.ensures

pub returns-in-Show-clause-goes_on : goal.returns-in-Show-clause-goes_on
returns-in-Show-clause-goes_on g c =
    rw (ap command_of c.in-Show.is, c.told-in-Show.ensures) (told_goes_on g.T.Oracle.tester g.T.Oracle.parts_of (g.K.Keeper.state c.args.keeper.now) c.shown_parts.result c.shown_parts.new.tests _
    (subst (λ (m : Meaning (List Part)). Tells c.shown_parts.result c.shown_parts.new.tests (row_of_form g.T.Oracle.tester m (expression_of c.in-Show.region) row_show c.args.tests.now)) c.keep_meaning.ensures c.shown_parts.ensures))

pub returns-in-Show-clause-ready : goal.returns-in-Show-clause-ready
returns-in-Show-clause-ready g c = told_ready g.T.Oracle.parts_of c.told-in-Show.result c.shown_parts.result c.told-in-Show.ensures

pub returns-in-Equal-clause-goes_on : goal.returns-in-Equal-clause-goes_on
returns-in-Equal-clause-goes_on g c =
    rw (ap command_of c.in-Equal.is, c.told-in-Equal.ensures) (told_goes_on g.T.Oracle.tester g.T.Oracle.parts_of (g.K.Keeper.state c.args.keeper.now) c.comparison.result c.comparison.new.tests _
    (subst (λ (m : Meaning (List Part)). Tells c.comparison.result c.comparison.new.tests (row_of_forms g.T.Oracle.tester m (expression_of c.in-Equal.a) (expression_of c.in-Equal.b) (row_asking g.T.Oracle.tester Equal) c.args.tests.now)) c.keep_meaning.ensures c.comparison.ensures))

pub returns-in-Equal-clause-ready : goal.returns-in-Equal-clause-ready
returns-in-Equal-clause-ready g c = told_ready g.T.Oracle.parts_of c.told-in-Equal.result c.comparison.result c.told-in-Equal.ensures

pub returns-in-Within-clause-goes_on : goal.returns-in-Within-clause-goes_on
returns-in-Within-clause-goes_on g c =
    rw (ap command_of c.in-Within.is, c.told-in-Within.ensures) (told_goes_on g.T.Oracle.tester g.T.Oracle.parts_of (g.K.Keeper.state c.args.keeper.now) c.comparison-in-Within.result c.comparison-in-Within.new.tests _
    (subst (λ (m : Meaning (List Part)). Tells c.comparison-in-Within.result c.comparison-in-Within.new.tests (row_of_forms g.T.Oracle.tester m (expression_of c.in-Within.a) (expression_of c.in-Within.b) (row_asking g.T.Oracle.tester Within) c.args.tests.now)) c.keep_meaning.ensures c.comparison-in-Within.ensures))

pub returns-in-Within-clause-ready : goal.returns-in-Within-clause-ready
returns-in-Within-clause-ready g c = told_ready g.T.Oracle.parts_of c.told-in-Within.result c.comparison-in-Within.result c.told-in-Within.ensures

pub returns-in-Overlap-clause-goes_on : goal.returns-in-Overlap-clause-goes_on
returns-in-Overlap-clause-goes_on g c =
    rw (ap command_of c.in-Overlap.is, c.told-in-Overlap.ensures) (told_goes_on g.T.Oracle.tester g.T.Oracle.parts_of (g.K.Keeper.state c.args.keeper.now) c.comparison-in-Overlap.result c.comparison-in-Overlap.new.tests _
    (subst (λ (m : Meaning (List Part)). Tells c.comparison-in-Overlap.result c.comparison-in-Overlap.new.tests (row_of_forms g.T.Oracle.tester m (expression_of c.in-Overlap.a) (expression_of c.in-Overlap.b) (row_asking g.T.Oracle.tester Overlap) c.args.tests.now)) c.keep_meaning.ensures c.comparison-in-Overlap.ensures))

pub returns-in-Overlap-clause-ready : goal.returns-in-Overlap-clause-ready
returns-in-Overlap-clause-ready g c = told_ready g.T.Oracle.parts_of c.told-in-Overlap.result c.comparison-in-Overlap.result c.told-in-Overlap.ensures

pub returns-in-Contact-clause-goes_on : goal.returns-in-Contact-clause-goes_on
returns-in-Contact-clause-goes_on g c =
    rw (ap command_of c.in-Contact.is, c.told-in-Contact.ensures) (told_goes_on g.T.Oracle.tester g.T.Oracle.parts_of (g.K.Keeper.state c.args.keeper.now) c.comparison-in-Contact.result c.comparison-in-Contact.new.tests _
    (subst (λ (m : Meaning (List Part)). Tells c.comparison-in-Contact.result c.comparison-in-Contact.new.tests (row_of_forms g.T.Oracle.tester m (expression_of c.in-Contact.a) (expression_of c.in-Contact.b) (row_asking g.T.Oracle.tester Contact) c.args.tests.now)) c.keep_meaning.ensures c.comparison-in-Contact.ensures))

pub returns-in-Contact-clause-ready : goal.returns-in-Contact-clause-ready
returns-in-Contact-clause-ready g c = told_ready g.T.Oracle.parts_of c.told-in-Contact.result c.comparison-in-Contact.result c.told-in-Contact.ensures

pub returns-in-Rcc-clause-goes_on : goal.returns-in-Rcc-clause-goes_on
returns-in-Rcc-clause-goes_on g c =
    rw (ap command_of c.in-Rcc.is, c.told-in-Rcc.ensures) (told_goes_on g.T.Oracle.tester g.T.Oracle.parts_of (g.K.Keeper.state c.args.keeper.now) c.related.result c.related.new.tests _
    (subst (λ (m : Meaning (List Part)). Tells c.related.result c.related.new.tests (row_of_forms g.T.Oracle.tester m (expression_of c.in-Rcc.a) (expression_of c.in-Rcc.b) (row_relation g.T.Oracle.tester) c.args.tests.now)) c.keep_meaning.ensures c.related.ensures))

pub returns-in-Rcc-clause-ready : goal.returns-in-Rcc-clause-ready
returns-in-Rcc-clause-ready g c = told_ready g.T.Oracle.parts_of c.told-in-Rcc.result c.related.result c.told-in-Rcc.ensures

pub returns-in-History-clause-goes_on : goal.returns-in-History-clause-goes_on
returns-in-History-clause-goes_on g c =
    rw (ap command_of c.in-History.is, c.told-in-History.ensures) (told_goes_on g.T.Oracle.tester g.T.Oracle.parts_of (g.K.Keeper.state c.args.keeper.now) c.origins.result c.args.tests.now _
    (c.origins.ensures c.args.tests.now))

pub returns-in-History-clause-ready : goal.returns-in-History-clause-ready
returns-in-History-clause-ready g c = told_ready g.T.Oracle.parts_of c.told-in-History.result c.origins.result c.told-in-History.ensures

pub returns-in-At-clause-goes_on : goal.returns-in-At-clause-goes_on
returns-in-At-clause-goes_on g c =
    rw (ap command_of c.in-At.is, c.told-in-At.ensures) (told_goes_on g.T.Oracle.tester g.T.Oracle.parts_of (g.K.Keeper.state c.args.keeper.now) c.owner.result c.args.tests.now _
    (c.owner.ensures c.args.tests.now))

pub returns-in-At-clause-ready : goal.returns-in-At-clause-ready
returns-in-At-clause-ready g c = told_ready g.T.Oracle.parts_of c.told-in-At.result c.owner.result c.told-in-At.ensures

pub returns-in-Asof-clause-goes_on : goal.returns-in-Asof-clause-goes_on
returns-in-Asof-clause-goes_on g c =
    rw (ap command_of c.in-Asof.is, c.told-in-Asof.ensures) (told_goes_on g.T.Oracle.tester g.T.Oracle.parts_of (g.K.Keeper.state c.args.keeper.now) c.owner_then.result c.args.tests.now _
    (c.owner_then.ensures c.args.tests.now))

pub returns-in-Asof-clause-ready : goal.returns-in-Asof-clause-ready
returns-in-Asof-clause-ready g c = told_ready g.T.Oracle.parts_of c.told-in-Asof.result c.owner_then.result c.told-in-Asof.ensures

pub returns-in-List-clause-goes_on : goal.returns-in-List-clause-goes_on
returns-in-List-clause-goes_on g c =
    rw (ap command_of c.in-List.is, c.told-in-List.ensures) (told_goes_on g.T.Oracle.tester g.T.Oracle.parts_of (g.K.Keeper.state c.args.keeper.now) c.live_list.result c.args.tests.now _
    (c.live_list.ensures c.args.tests.now))

pub returns-in-List-clause-ready : goal.returns-in-List-clause-ready
returns-in-List-clause-ready g c = told_ready g.T.Oracle.parts_of c.told-in-List.result c.live_list.result c.told-in-List.ensures

pub returns-in-Let-clause-goes_on : goal.returns-in-Let-clause-goes_on
returns-in-Let-clause-goes_on g c =
    rw (ap command_of c.in-Let.is, c.changed.ensures) (changed_goes_on g.T.Oracle.tester g.T.Oracle.parts_of (g.K.Keeper.state c.args.keeper.now) c.definition.result c.definition.new.tests _
    c.definition.ensures)

pub returns-in-Let-clause-ready : goal.returns-in-Let-clause-ready
returns-in-Let-clause-ready g c = changed_ready g.T.Oracle.parts_of c.changed.result c.definition.result c.changed.ensures

pub returns-in-Register-clause-goes_on : goal.returns-in-Register-clause-goes_on
returns-in-Register-clause-goes_on g c =
    rw (ap command_of c.in-Register.is, c.changed-in-Register.ensures) (changed_goes_on g.T.Oracle.tester g.T.Oracle.parts_of (g.K.Keeper.state c.args.keeper.now) c.registration.result c.registration.new.tests _
    c.registration.ensures)

pub returns-in-Register-clause-ready : goal.returns-in-Register-clause-ready
returns-in-Register-clause-ready g c = changed_ready g.T.Oracle.parts_of c.changed-in-Register.result c.registration.result c.changed-in-Register.ensures

pub returns-in-Cut-clause-goes_on : goal.returns-in-Cut-clause-goes_on
returns-in-Cut-clause-goes_on g c =
    rw (ap command_of c.in-Cut.is, c.changed-in-Cut.ensures) (changed_goes_on g.T.Oracle.tester g.T.Oracle.parts_of (g.K.Keeper.state c.args.keeper.now) c.cutting.result c.cutting.new.tests _
    c.cutting.ensures)

pub returns-in-Cut-clause-ready : goal.returns-in-Cut-clause-ready
returns-in-Cut-clause-ready g c = changed_ready g.T.Oracle.parts_of c.changed-in-Cut.result c.cutting.result c.changed-in-Cut.ensures

pub returns-in-Subdivide-clause-goes_on : goal.returns-in-Subdivide-clause-goes_on
returns-in-Subdivide-clause-goes_on g c =
    rw (ap command_of c.in-Subdivide.is ∙ ap (λ (es : List (Label × Expr)). subdivide c.in-Subdivide.id (map child_of es)) (sym c.items.ensures), c.changed-in-Subdivide.ensures) (changed_goes_on g.T.Oracle.tester g.T.Oracle.parts_of (g.K.Keeper.state c.args.keeper.now) c.subdivision.result c.subdivision.new.tests _
    c.subdivision.ensures)

pub returns-in-Subdivide-clause-ready : goal.returns-in-Subdivide-clause-ready
returns-in-Subdivide-clause-ready g c = changed_ready g.T.Oracle.parts_of c.changed-in-Subdivide.result c.subdivision.result c.changed-in-Subdivide.ensures

pub returns-in-Consolidate-clause-goes_on : goal.returns-in-Consolidate-clause-goes_on
returns-in-Consolidate-clause-goes_on g c =
    rw (ap command_of c.in-Consolidate.is ∙ ap (consolidate c.in-Consolidate.new) (sym c.items-in-Consolidate.ensures), c.changed-in-Consolidate.ensures) (changed_goes_on g.T.Oracle.tester g.T.Oracle.parts_of (g.K.Keeper.state c.args.keeper.now) c.consolidation.result c.consolidation.new.tests _
    c.consolidation.ensures)

pub returns-in-Consolidate-clause-ready : goal.returns-in-Consolidate-clause-ready
returns-in-Consolidate-clause-ready g c = changed_ready g.T.Oracle.parts_of c.changed-in-Consolidate.result c.consolidation.result c.changed-in-Consolidate.ensures

pub returns-in-Retire-clause-goes_on : goal.returns-in-Retire-clause-goes_on
returns-in-Retire-clause-goes_on g c =
    rw (ap command_of c.in-Retire.is, c.changed-in-Retire.ensures) (changed_goes_on g.T.Oracle.tester g.T.Oracle.parts_of (g.K.Keeper.state c.args.keeper.now) c.retirement.result c.args.tests.now _
    (c.retirement.ensures c.args.tests.now))

pub returns-in-Retire-clause-ready : goal.returns-in-Retire-clause-ready
returns-in-Retire-clause-ready g c = changed_ready g.T.Oracle.parts_of c.changed-in-Retire.result c.retirement.result c.changed-in-Retire.ensures

pub returns-in-Section-clause-goes_on : goal.returns-in-Section-clause-goes_on
returns-in-Section-clause-goes_on g c =
    let tester = g.T.Oracle.tester in
    let s = g.K.Keeper.state c.args.keeper.now in
    let fits : FitsSigned w32 c.in-Section.z = search rules in
    let same = ap command_of c.in-Section.is ∙ ap (ask_section (expression_of c.in-Section.region)) (sym (to_z-of_z w32 c.in-Section.z fits)) in
    subst (λ (d : Command). GoesOn (λ x. x) c.formed.result c.formed.new.tests (rest_of tester g.T.Oracle.parts_of s) (row tester s d c.args.tests.now)) (sym same) c.formed.ensures.goes_on
