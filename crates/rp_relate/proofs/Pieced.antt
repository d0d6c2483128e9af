-- The pieces of a region, as a work takes over what their row has come to.
use Rattle.std.proofs.Common.{◌≡◌, ℕ, List, Result, Ok, Err, subst}
use Rattle.std.specs.Prelude.{IfOk}
use Rattle.rp_geometry.specs.sets.Shape.{Part}
use Rattle.rp_geometry.specs.sets.Pieces.{ArePieces}
use Rattle.rp_geometry.specs.parts.Parts.{IsPart, IsRegion}
use Rattle.rp_semantics.specs.FormLaws.{IfDone}
use Rattle.rp_semantics.specs.Walk.{Outcome, Work, first_tester}
use Rattle.rp_semantics.specs.Pieces.{pieces_of_parts}
use Rattle.rp_forms.proofs.First.{first_tester_is_right_spec}
use Rattle.rp_forms.proofs.Pieces.{pieces_are_right_spec}
use Rattle.rp_oracle.specs.declared.stopped.Stopped.{Stopped}
use Rattle.rp_region.specs.declared.fault.OpFault.{OpFault}
use Rattle.rp_region.specs.Makes.{Makes}
use Rattle.rp_region.specs.Stops.{TakesOver}

-- what the walk comes to are the pieces
pub pieces_right : {A : Type 0} (view : A → List (List ℕ)) (ps : List Part) (r : Result A OpFault) (w v : Work) → IsRegion ps → Makes view r w v (pieces_of_parts first_tester ps) → IfOk r (λ x. ArePieces ps (view x))
pieces_right view ps (Ok x) w v kept e =
    subst (λ (o : Outcome Work (List (List ℕ))). IfDone o (λ gs. ArePieces ps gs)) e (pieces_are_right_spec IsPart first_tester first_tester_is_right_spec ps kept w)
pieces_right view ps (Err e) w v kept m = tt

-- what is true of the result of a row is true of what is taken over
pub ok_taken : {A : Type 0} (P : A → Type 0) (came : Result A Stopped) (r : Result A OpFault) (old walked new : Work) → TakesOver came walked r old new → IfOk came P → IfOk r P
ok_taken P came (Ok x) old walked new t h = subst (λ c. IfOk c P) t.0 h
ok_taken P came (Err e) old walked new t h = tt
