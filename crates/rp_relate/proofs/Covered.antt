-- When a region has no point, and what rows of comparisons come to means.
use Rattle.std.proofs.Common.{◌≡◌, true, false, Bool, List, [], ◌∷◌, length, refl, sym, ap, ◌∙◌, subst, arith}
use Rattle.std.specs.Prelude.{suc, ◌↔◌, ◌==◌, IsTrue, Result, Ok, Err, IfOk}
use Rattle.std.proofs.lemmas.Bool.{eqb-true}
use Rattle.rp_geometry.specs.sets.Shape.{Shape, Part, shape_of_parts}
use Rattle.rp_geometry.specs.sets.Sets.{IsNonempty, IsEmpty, IsWithin, SameMembers}
use Rattle.rp_geometry.specs.parts.Parts.{IsPart, IsRegion}
use Rattle.rp_geometry.proofs.SameMembers.{same_itself}
use Rattle.rp_forms.proofs.Cover.{empty_of_none, nonempty_of_some, show_told, cover_is_right_spec}
use Rattle.rp_region.specs.declared.fault.OpFault.{OpFault}
use Rattle.rp_region.specs.declared.fault.OpFault.TheVariants.{Limit, Memory}
use Rattle.rp_geometry.specs.sets.Relation.{Relation, StandIn}
use Rattle.rp_geometry.proofs.Kept.{part_is_checked}
use Rattle.rp_semantics.specs.Walk.{Outcome, done, Walk, Work, pass, first_tester}
use Rattle.rp_semantics.specs.Compare.{show_then_no, is_covered, relation_of_parts}
use Rattle.rp_semantics.specs.FormLaws.{IfDone}
use Rattle.rp_semantics.proofs.Outcomes.{weaker_done, then_done}
use Rattle.rp_forms.proofs.First.{first_tester_is_right_spec}
use Rattle.rp_forms.proofs.Relations.{relation_is_right_spec}
use Rattle.rp_region.specs.Makes.{Makes}
use Rattle.rp_relate.specs.Relations.{fault_of_relation, cover_each_other, TellsEmpty}

-- a region without parts has no point
pub no_point : IsEmpty (shape_of_parts [])
no_point = empty_of_none IsPart (shape_of_parts []) (record { all = record { each = tt; few = omega arith }; members = same_itself (shape_of_parts []) })

-- a region with a part has one
pub some_point : (p : Part) (ps : List Part) → IsRegion (p ∷ ps) → IsNonempty (shape_of_parts (p ∷ ps))
some_point p ps k = nonempty_of_some IsPart part_is_checked (shape_of_parts (p ∷ ps)) p ps (record { all = k; members = same_itself (shape_of_parts (p ∷ ps)) })

-- a region of so many parts as a list that is not empty has a point
pub has_point : (ps items : List Part) → IsRegion ps → items ≡ ps → false ≡ (length items == 0) → IsNonempty (shape_of_parts ps)
has_point ps items k e n = by_parts ps k (n ∙ ap (λ (qs : List Part). length qs == 0) e)
  where
    by_parts : (ps : List Part) → IsRegion ps → false ≡ (length ps == 0) → IsNonempty (shape_of_parts ps)
    by_parts [] k n = absurd (cc)
    by_parts (p ∷ ps) k n = some_point p ps k

-- a region of so many parts as an empty list has none
pub has_no_point : (ps items : List Part) → items ≡ ps → true ≡ (length items == 0) → IsEmpty (shape_of_parts ps)
has_no_point ps items e n = by_parts ps (n ∙ ap (λ (qs : List Part). length qs == 0) e)
  where
    by_parts : (ps : List Part) → true ≡ (length ps == 0) → IsEmpty (shape_of_parts ps)
    by_parts [] n = no_point
    by_parts (p ∷ ps) n = absurd (let f = eqb-true (suc (length ps)) 0 (sym n) in omega (arith, f))

-- where an operation has a fault, both shapes have a point
pub fault_tells : (e : OpFault) (s t : Shape) → IsNonempty s → IsNonempty t → TellsEmpty (Err (fault_of_relation e)) s t
fault_tells Limit s t m n = (m, n)
fault_tells (Memory e) s t m n = (m, n)

-- the relation that was found is that of the shapes
pub found_right : (ps qs : List Part) (r : Relation) (w v : Work) → IsRegion ps → IsRegion qs → IsNonempty (shape_of_parts ps) → IsNonempty (shape_of_parts qs) → relation_of_parts first_tester ps qs w ≡ done r v
    → StandIn r (shape_of_parts ps) (shape_of_parts qs)
found_right ps qs r w v hp hq np nq e =
    subst (λ (o : Outcome Work Relation). IfDone o (λ r. StandIn r (shape_of_parts ps) (shape_of_parts qs))) e (relation_is_right_spec IsPart first_tester first_tester_is_right_spec ps qs hp hq np nq w)

-- ---- what is true of what a walk comes to

-- it is true of the result of the call that made the walk
pub made_right : {A : Type 0} (P : A → Type 0) (walk : Walk Work A) (r : Result A OpFault) (w v : Work) → Makes (λ x. x) r w v walk → IfDone (walk w) P → IfOk r P
made_right P walk (Ok x) w v m h = subst (λ o. IfDone o P) m h
made_right P walk (Err e) w v m h = tt

-- whether a list is empty
pub empty_right : (ps : List Part) (w : Work) → IsRegion ps → IfDone (show_then_no first_tester ps w) (λ is_so. IsTrue is_so ↔ IsEmpty (shape_of_parts ps))
empty_right ps w k = show_told IsPart first_tester first_tester_is_right_spec (shape_of_parts ps) ps (record { all = k; members = same_itself (shape_of_parts ps) }) w

-- whether a list is within another
pub within_right : (ps qs : List Part) (w : Work) → IsRegion ps → IsRegion qs → IfDone (is_covered first_tester ps qs w) (λ is_so. IsTrue is_so ↔ IsWithin (shape_of_parts ps) (shape_of_parts qs))
within_right ps qs w hp hq = cover_is_right_spec IsPart first_tester first_tester_is_right_spec ps qs hp hq w

-- whether two lists have the same members
pub equal_right : (ps qs : List Part) (w : Work) → IsRegion ps → IsRegion qs → IfDone (cover_each_other ps qs w) (λ is_so. IsTrue is_so ↔ SameMembers (shape_of_parts ps) (shape_of_parts qs))
equal_right ps qs w hp hq =
    then_done (λ is_so. IsTrue is_so ↔ IsWithin s t) (λ is_so. IsTrue is_so ↔ SameMembers s t) (is_covered first_tester ps qs w) second (within_right ps qs w hp hq) by_there
  where
    s : Shape
    s = shape_of_parts ps

    t : Shape
    t = shape_of_parts qs

    second : Bool → Walk Work Bool
    second there = elim there as (λ _. Walk Work Bool) [ false ↦ pass false | true ↦ is_covered first_tester qs ps ]

    by_there : (there : Bool) (v : Work) → (IsTrue there ↔ IsWithin s t) → IfDone (second there v) (λ is_so. IsTrue is_so ↔ SameMembers s t)
    by_there false v h = (λ e. absurd (cc), λ same. h.1 same.0)
    by_there true v h =
        weaker_done (λ is_so. IsTrue is_so ↔ IsWithin t s) (λ is_so. IsTrue is_so ↔ SameMembers s t) (is_covered first_tester qs ps v) (within_right qs ps v hq hp) (λ is_so g. (λ e. (h.0 refl, g.0 e), λ same. g.1 same.1))
