use Rattle.std.proofs.Common.{◌≡◌, Err, subst}
use Rattle.std.specs.Prelude.{IfSome, IfOk, IsNone}
use Rattle.rp_command.specs.Views.{expression_of}
use Rattle.rp_geometry.specs.sets.Shape.{shape_of_parts}
use Rattle.rp_geometry.specs.sets.Sets.{SameMembers}
use Rattle.rp_language.specs.Expression.{resolve_names, first_unknown}
use Rattle.rp_semantics.specs.Walk.{first_tester}
use Rattle.rp_semantics.specs.Form.{form}
use Rattle.rp_model.specs.states.State.{parts_in, state_of_parts}
use Rattle.rp_model.specs.states.Sound.{IsSound}
use Rattle.rp_model.specs.commands.Parts.{shapes_of_parts}
use Rattle.rp_reports.specs.Machine.{Running}
use Rattle.rp_machine.specs.Forms.{MakesForm}
use Rattle.rp_machine.specs.declared.fault.FormFault.TheVariants.{Unknown}
use Rattle.rp_machine.proofs.machine.Machine.form.Goals as goal

pub returns-clause-unknown : goal.returns-clause-unknown
returns-clause-unknown c =
    let e = expression_of c.args.region.now in
    subst (λ (m : Running). IfSome (first_unknown (parts_in m.state) e) (λ x. (c.form.result ≡ Err (Unknown x)) × (c.form.new.work ≡ c.args.work.now))) c.self.view_is c.form.ensures.unknown

pub returns-clause-makes : goal.returns-clause-makes
returns-clause-makes c =
    let e = expression_of c.args.region.now in
    subst (λ (m : Running). IsNone (first_unknown (parts_in m.state) e) → MakesForm (λ f. f) c.form.result c.args.work.now c.form.new.work (form first_tester (parts_in m.state) e)) c.self.view_is c.form.ensures.makes

pub returns-clause-members : goal.returns-clause-members
returns-clause-members c =
    let e = expression_of c.args.region.now in
    subst (λ (m : Running). IfOk c.form.result (λ f. SameMembers (shape_of_parts f) (resolve_names (shapes_of_parts (parts_in m.state)) e))) c.self.view_is c.form.ensures.members

pub returns-clause-sound : goal.returns-clause-sound
returns-clause-sound c = subst (λ (m : Running). IsSound (state_of_parts m.state)) c.self.view_is c.form.ensures.sound
