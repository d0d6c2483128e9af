-- The members of the regions that walks come to, and points in them.
use Rattle.std.proofs.Common.{◌≡◌, ◌*◌, List, [], length, ap, ◌∙◌, subst, arith}
use Rattle.std.specs.Prelude.{Bool, true, false, Option, Some, None, Result, Ok, Err, is_some, IsSome, IsTrue, IfOk, ◌↔◌}
use Rattle.rp_geometry.specs.Geometry.{HalfSpace}
use Rattle.rp_geometry.specs.sets.Shape.{Shape, Part, shape_of_parts}
use Rattle.rp_geometry.specs.parts.Parts.{IsPart, IsRegion, AreOf}
use Rattle.rp_geometry.specs.sets.Sets.{Overlaps}
use Rattle.rp_geometry.specs.sets.Contact.{IsInContact}
use Rattle.rp_semantics.specs.Walk.{Outcome, Walk, done, after_first, Work, count_tests, strict_test, weak_test, first_tester}
use Rattle.rp_semantics.specs.Form.{near_pair, touching_pair, made_part, join_each, join, subtract}
use Rattle.rp_semantics.specs.FormLaws.{IfDone, IsMadeOf}
use Rattle.rp_forms.proofs.Common.{common_is_right_spec}
use Rattle.rp_forms.proofs.Touch.{touch_is_right_spec}
use Rattle.rp_forms.proofs.Difference.{difference_is_right_spec}
use Rattle.rp_forms.proofs.First.{first_tester_is_right_spec}
use Rattle.rp_forms.proofs.Join.{join_is_right_spec}
use Rattle.rp_region.specs.declared.fault.OpFault.{OpFault}
use Rattle.rp_region.specs.Makes.{Makes}
use Rattle.rp_region.specs.Pairs.{first_pair_by, common_by, touch_by}

-- what is known of the end of a walk, of the end it has come to
pub at_done : {A : Type 0} (P : A → Type 0) (o : Outcome Work A) (x : A) (w : Work) → o ≡ done x w → IfDone o P → P x
at_done P o x w e h = subst (λ r. IfDone r P) e h

-- a join whose tests were counted
pub join_counted : (ps qs made : List Part) (w u v : Work) → count_tests (length ps * length qs) w ≡ done tt u → join_each first_tester [] ps qs u ≡ done made v → join first_tester ps qs w ≡ done made v
join_counted ps qs made w u v e m = ap (after_first (λ _. join_each first_tester [] ps qs)) e ∙ m

-- a join has the common members
pub joined_of : (ps qs made : List Part) (w v : Work) → IsRegion ps → IsRegion qs → join first_tester ps qs w ≡ done made v → AreOf IsPart (Shape.intersection (shape_of_parts ps) (shape_of_parts qs)) made
joined_of ps qs made w v hp hq e =
    at_done (λ made. AreOf IsPart (Shape.intersection (shape_of_parts ps) (shape_of_parts qs)) made) (join first_tester ps qs w) made v e (join_is_right_spec IsPart first_tester first_tester_is_right_spec ps qs hp hq w)

-- a difference has the members of the first that are none of the second
pub left_of : (ps qs made : List Part) (w v : Work) → IsRegion ps → IsRegion qs → subtract first_tester ps qs w ≡ done made v → AreOf IsPart (Shape.difference (shape_of_parts ps) (shape_of_parts qs)) made
left_of ps qs made w v hp hq e =
    at_done (λ made. AreOf IsPart (Shape.difference (shape_of_parts ps) (shape_of_parts qs)) made) (subtract first_tester ps qs w) made v e (difference_is_right_spec IsPart first_tester first_tester_is_right_spec ps qs hp hq w)

-- ---- what two regions share

-- what was found, in the words of the walk: it is there exactly where the fact holds
pub found_where : {A : Type 0} (P : Type 0) (view_walk : Walk Work Bool) (r : Result (Option A) OpFault) (w v : Work) → IfDone (view_walk w) (λ found. IsTrue found ↔ P) → Makes is_some r w v view_walk → IfOk r (λ o. IsSome o ↔ P)
found_where P walk (Ok o) w v h m = subst (λ out. IfDone out (λ found. IsTrue found ↔ P)) m h
found_where P walk (Err e) w v h m = tt

-- the strict loop in other words
pub common_made : {A : Type 0} (near : Bool) (ps qs : List Part) (r : Result (Option A) OpFault) (w v : Work) → Makes is_some r w v (first_pair_by near near_pair strict_test ps qs) → Makes is_some r w v (common_by near ps qs)
common_made true ps qs r w v m = m
common_made false ps qs r w v m = m

-- the weak loop in other words
pub touch_made : {A : Type 0} (near : Bool) (ps qs : List Part) (r : Result (Option A) OpFault) (w v : Work) → Makes is_some r w v (first_pair_by near touching_pair weak_test ps qs) → Makes is_some r w v (touch_by near ps qs)
touch_made true ps qs r w v m = m
touch_made false ps qs r w v m = m

-- a common point
pub common_where : {A : Type 0} (near : Bool) (ps qs : List Part) (r : Result (Option A) OpFault) (w v : Work) → IsRegion ps → IsRegion qs → Makes is_some r w v (common_by near ps qs)
    → IfOk r (λ o. IsSome o ↔ Overlaps (shape_of_parts ps) (shape_of_parts qs))
common_where true ps qs r w v hp hq m = found_where (Overlaps (shape_of_parts ps) (shape_of_parts qs)) (common_by true ps qs) r w v (common_is_right_spec IsPart first_tester first_tester_is_right_spec ps qs hp hq w).1 m
common_where false ps qs r w v hp hq m = found_where (Overlaps (shape_of_parts ps) (shape_of_parts qs)) (common_by false ps qs) r w v (common_is_right_spec IsPart first_tester first_tester_is_right_spec ps qs hp hq w).0 m

-- contact
pub touch_where : {A : Type 0} (near : Bool) (ps qs : List Part) (r : Result (Option A) OpFault) (w v : Work) → IsRegion ps → IsRegion qs → Makes is_some r w v (touch_by near ps qs)
    → IfOk r (λ o. IsSome o ↔ IsInContact (shape_of_parts ps) (shape_of_parts qs))
touch_where true ps qs r w v hp hq m = found_where (IsInContact (shape_of_parts ps) (shape_of_parts qs)) (touch_by true ps qs) r w v (touch_is_right_spec IsPart first_tester first_tester_is_right_spec ps qs hp hq w).1 m
touch_where false ps qs r w v hp hq m = found_where (IsInContact (shape_of_parts ps) (shape_of_parts qs)) (touch_by false ps qs) r w v (touch_is_right_spec IsPart first_tester first_tester_is_right_spec ps qs hp hq w).0 m

-- ---- points

-- the part that a test makes, or none, is a region
pub region_made : (cell : List HalfSpace) (o : Option Part) → IsMadeOf IsPart cell o → IsRegion (made_part o)
region_made cell None m = record { each = tt; few = omega arith }
region_made cell (Some p) m = record { each = (m.fact, tt); few = omega arith }
