-- The form of an expression: its members, and what its walk comes to on a work of its own.
use Rattle.std.proofs.Common.{◌≡◌, List, Result, Err, subst}
use Rattle.rp_geometry.specs.sets.Shape.{Shape, Part, shape_of_parts}
use Rattle.rp_geometry.specs.sets.Sets.{SameMembers}
use Rattle.rp_geometry.specs.parts.Parts.{IsPart, AreOf}
use Rattle.rp_language.specs.Expression.{Expression, IsKeptExpression, Meaning, resolve_names}
use Rattle.rp_semantics.specs.Walk.{Outcome, Work, done, first_tester}
use Rattle.rp_semantics.specs.Form.{form}
use Rattle.rp_semantics.specs.FormLaws.{IfDone, MeaningsAgree}
use Rattle.rp_forms.proofs.First.{first_tester_is_right_spec}
use Rattle.rp_forms.proofs.Forms.{form_is_right_spec}
use Rattle.rp_parametricity.proofs.Likeness.{PartsHave}
use Rattle.rp_checker_completeness.proofs.Commands.{Any}
use Rattle.rp_oracle.specs.declared.stopped.Stopped.{Stopped}
use Rattle.rp_oracle.specs.Refines.{Refines}
use Rattle.rp_region.specs.declared.fault.OpFault.{OpFault}
use Rattle.rp_region.specs.declared.fault.OpFault.TheVariants.{Limit, Memory}
use Rattle.rp_region.specs.Makes.{Makes}
use Rattle.rp_region.specs.Stops.{fresh, TakesOver}
use Rattle.rp_region.proofs.Behind.{ComesBehind, makes_behind}
use Rattle.rp_eval.proofs.Appended.{form_appended, ends_behind, stops_behind}
use Rattle.rp_machine.specs.Forms.{fault_of_form, MakesForm}

-- a form that was made has the members of the expression
pub form_has : (parts : Meaning (List Part)) (sets : Meaning Shape) → MeaningsAgree IsPart parts sets → (e : Expression) → IsKeptExpression e → (old new : Work) (ps : List Part) → form first_tester parts e old ≡ done ps new → SameMembers (shape_of_parts ps) (resolve_names sets e)
form_has parts sets agree e kept old new ps made =
    (subst (λ (o : Outcome Work (List Part)). IfDone o (λ made. AreOf IsPart (resolve_names sets e) made)) made (form_is_right_spec IsPart first_tester first_tester_is_right_spec parts sets agree e kept old)).members

-- the walk comes to the same behind any lines
form_behind : (m : Meaning (List Part)) (e : Expression) → ComesBehind (form first_tester m e)
form_behind m e = record { ends = ends_behind (PartsHave Any) (form first_tester m e) (form_appended m e); stops = stops_behind (PartsHave Any) (form first_tester m e) (form_appended m e) }

-- what it has come to on a fresh work, taken over, is what it makes of the work
pub form_taken : (m : Meaning (List Part)) (e : Expression) (came : Result (List Part) Stopped) (r : Result (List Part) OpFault) (old begun walked new : Work)
    → begun ≡ fresh old → Refines (λ f. f) came walked (form first_tester m e begun) → TakesOver came walked r old new → Makes (λ f. f) r old new (form first_tester m e)
form_taken m e came r old begun walked new is h t =
    makes_behind (λ f. f) came r (form first_tester m e) old walked new (form_behind m e) (subst (λ w. Refines (λ f. f) came walked (form first_tester m e w)) is h) t

-- an operation that has a fault, as the fault of a form
pub op_fails : (fault : OpFault) (m : Meaning (List Part)) (e : Expression) (old new : Work) → Makes {A = List Part} (λ f. f) (Err fault) old new (form first_tester m e) → MakesForm {A = List Part} (λ f. f) (Err (fault_of_form fault)) old new (form first_tester m e)
op_fails Limit m e old new h = h
op_fails (Memory x) m e old new h = h
