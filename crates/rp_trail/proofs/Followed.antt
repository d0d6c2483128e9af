-- What is true of each item of a list that is gone through, and of forms that were followed.
use Rattle.std.proofs.Common.{◌≡◌, ℕ, ◌+◌, ◌<◌, ◌≤◌, List, [], ◌∷◌, length, get_or, take, sym, subst}
use Rattle.std.specs.Prelude.{◌↔◌, Bool, true, false, Result, IfOk, IsTrue}
use Rattle.std.specs.List.{AllByRecursion}
use Rattle.std.proofs.lemmas.List.{take_more}
use Rattle.rp_algebra.proofs.Listed.{all_append}
use Rattle.rp_geometry.specs.sets.Shape.{Shape, Part, shape_of_parts}
use Rattle.rp_geometry.specs.sets.Sets.{Overlaps}
use Rattle.rp_geometry.specs.sets.Contact.{IsInContact}
use Rattle.rp_geometry.specs.parts.Parts.{AreOf, IsCheckedPart, most_parts}
use Rattle.rp_semantics.specs.Form.{join, subtract}
use Rattle.rp_reports.specs.Check.{Trail, line_tester}
use Rattle.rp_row_soundness.proofs.Right.{line_walks_are_right}
use Rattle.rp_oracle.specs.declared.stopped.Stopped.{Stopped}
use Rattle.rp_oracle.specs.Refines.{Refines}
use Rattle.rp_trail.specs.Pairs.{common_by, touch_by}
use Rattle.rp_trail.proofs.Tested.{right_where}

-- one more item of which the fact is true
pub all_more : {X : Type 0} (P : X → Type 0) (xs : List X) (i : ℕ) (x : X) → i < length xs → AllByRecursion P (take i xs) → x ≡ get_or xs i x → P x → AllByRecursion P (take (i + 1) xs)
all_more P xs i x l all e k =
    subst (λ ys. AllByRecursion P ys) (sym (take_more xs i x l))
    (all_append P (take i xs) (get_or xs i x ∷ []) all (subst P e k, tt))

-- parts as they must be
abbrev pub AreChecked : List Part → Type 0
AreChecked ps = AllByRecursion IsCheckedPart ps

-- a join has the common members
pub joined_right : {A : Type 0} (view : A → List Part) (r : Result A Stopped) (ps qs : List Part) (t u : Trail) → AreChecked ps → AreChecked qs → Refines view r u (join line_tester ps qs t)
    → length ps ≤ most_parts → length qs ≤ most_parts → IfOk r (λ x. AreOf IsCheckedPart (Shape.intersection (shape_of_parts ps) (shape_of_parts qs)) (view x))
joined_right view r ps qs t u hp hq m few fewer =
    right_where view (λ made. AreOf IsCheckedPart (Shape.intersection (shape_of_parts ps) (shape_of_parts qs)) made) r u (join line_tester ps qs t) m
    (line_walks_are_right.joins ps qs (record { each = hp; few = few }) (record { each = hq; few = fewer }) t)

-- a difference has the members of the first list that are none of the second
pub differed_right : {A : Type 0} (view : A → List Part) (r : Result A Stopped) (ps qs : List Part) (t u : Trail) → AreChecked ps → AreChecked qs → Refines view r u (subtract line_tester ps qs t)
    → length ps ≤ most_parts → length qs ≤ most_parts → IfOk r (λ x. AreOf IsCheckedPart (Shape.difference (shape_of_parts ps) (shape_of_parts qs)) (view x))
differed_right view r ps qs t u hp hq m few fewer =
    right_where view (λ made. AreOf IsCheckedPart (Shape.difference (shape_of_parts ps) (shape_of_parts qs)) made) r u (subtract line_tester ps qs t) m
    (line_walks_are_right.differences ps qs (record { each = hp; few = few }) (record { each = hq; few = fewer }) t)

-- a common member was found exactly where there is one
pub common_right : (near : Bool) (r : Result Bool Stopped) (ps qs : List Part) (t u : Trail) → AreChecked ps → AreChecked qs → Refines (λ found. found) r u (common_by near ps qs t)
    → length ps ≤ most_parts → length qs ≤ most_parts → IfOk r (λ found. IsTrue found ↔ Overlaps (shape_of_parts ps) (shape_of_parts qs))
common_right true r ps qs t u hp hq m few fewer =
    right_where (λ found. found) (λ found. IsTrue found ↔ Overlaps (shape_of_parts ps) (shape_of_parts qs)) r u (common_by true ps qs t) m
    (line_walks_are_right.commons ps qs (record { each = hp; few = few }) (record { each = hq; few = fewer }) t).1
common_right false r ps qs t u hp hq m few fewer =
    right_where (λ found. found) (λ found. IsTrue found ↔ Overlaps (shape_of_parts ps) (shape_of_parts qs)) r u (common_by false ps qs t) m
    (line_walks_are_right.commons ps qs (record { each = hp; few = few }) (record { each = hq; few = fewer }) t).0

-- contact was found exactly where there is contact
pub touch_right : (near : Bool) (r : Result Bool Stopped) (ps qs : List Part) (t u : Trail) → AreChecked ps → AreChecked qs → Refines (λ found. found) r u (touch_by near ps qs t)
    → length ps ≤ most_parts → length qs ≤ most_parts → IfOk r (λ found. IsTrue found ↔ IsInContact (shape_of_parts ps) (shape_of_parts qs))
touch_right true r ps qs t u hp hq m few fewer =
    right_where (λ found. found) (λ found. IsTrue found ↔ IsInContact (shape_of_parts ps) (shape_of_parts qs)) r u (touch_by true ps qs t) m
    (line_walks_are_right.touches ps qs (record { each = hp; few = few }) (record { each = hq; few = fewer }) t).1
touch_right false r ps qs t u hp hq m few fewer =
    right_where (λ found. found) (λ found. IsTrue found ↔ IsInContact (shape_of_parts ps) (shape_of_parts qs)) r u (touch_by false ps qs t) m
    (line_walks_are_right.touches ps qs (record { each = hp; few = few }) (record { each = hq; few = fewer }) t).0
