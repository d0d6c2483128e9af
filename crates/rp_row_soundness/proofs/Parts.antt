-- Lists of parts that have the members of a set: whether it is empty, a difference with any number of parts, and whether one set is within another.
use Rattle.std.proofs.Common.{◌≡◌, suc, Bool, true, false, not, ◌&&◌, ◌||◌, List, [], ◌∷◌, length, refl, arith}
use Rattle.std.specs.Prelude.{IsTrue, ◌↔◌, ◌==◌}
use Rattle.std.proofs.lemmas.Bool.{eqb-true}
use Rattle.std.specs.List.{AllByRecursion}
use Rattle.rp_algebra.proofs.Tests.{false_not_true}
use Rattle.rp_geometry.specs.sets.Shape.{Shape, Part, passes, shape_of_cell, shape_of_parts}
use Rattle.rp_geometry.specs.sets.Sets.{IsNonempty, IsEmpty, IsWithin, SameMembers}
use Rattle.rp_semantics.specs.Walk.{Tester, pass}
use Rattle.rp_geometry.specs.parts.Parts.{most_parts, AreParts, AreOf}
use Rattle.rp_semantics.specs.Form.{subtract, subtract_part, if_at_most}
use Rattle.rp_semantics.specs.Compare.{show_then_no, is_covered}
use Rattle.rp_semantics.specs.FormLaws.{IfDone, AnswersRightly, DifferenceIsRight}
use Rattle.rp_semantics.proofs.Outcomes.{then_done, after_done, weaker_done}
use Rattle.rp_geometry.proofs.Members.{member_in_cube, member_passes, is_member_of}
use Rattle.rp_geometry.proofs.SameMembers.{same_of_passes, same_itself, same_next, same_difference, within_of_rest, rest_of_within}
use Rattle.rp_forms.proofs.Cover.{empty_of_none}
use Rattle.rp_row_soundness.proofs.Outcomes.{middle_then}

-- ---- whether there is a part

-- a list with a part has a member
pub some_part_is_nonempty : {W : Type 0} (P : Part → Type 0) (t : Tester W) → AnswersRightly P t → (a : Shape) (p : Part) (ps : List Part) → AreOf P a (p ∷ ps) → IsNonempty a
some_part_is_nonempty P t right a part ps h =
    let (p, m) = (right.checked part h.all.each.0).nonempty in
    (p, h.members.0 p (is_member_of (shape_of_parts (part ∷ ps)) p m.0 (member_in_cube (shape_of_cell part.cell) p m) (or_first (passes (shape_of_cell part.cell) p) (passes (shape_of_parts ps) p) (member_passes (shape_of_cell part.cell) p m))))
  where
    or_first : (b c : Bool) → b ≡ true → (b || c) ≡ true
    or_first true c e = refl
    or_first false c e = absurd (cc)

-- where the test finds no part the set is empty
pub empty_if : (P : Part → Type 0) (a : Shape) (ps : List Part) → AreOf P a ps → (length ps == 0) ≡ true → IsEmpty a
empty_if P a [] h e = empty_of_none P a h
empty_if P a (p ∷ ps) h e = absurd (let f = eqb-true (suc (length ps)) 0 e in omega (arith, f))

-- where the test finds a part the set has a member
pub nonempty_if : {W : Type 0} (P : Part → Type 0) (t : Tester W) → AnswersRightly P t → (a : Shape) (ps : List Part) → AreOf P a ps → (length ps == 0) ≡ false → IsNonempty a
nonempty_if P t right a [] h e = absurd (false_not_true true refl e)
nonempty_if P t right a (p ∷ ps) h e = some_part_is_nonempty P t right a p ps h

-- the test of the first part again tells whether there is none
pub shown_done : {W : Type 0} (P : Part → Type 0) (t : Tester W) → AnswersRightly P t → (a : Shape) (ps : List Part) → AreOf P a ps → (w : W) → IfDone (show_then_no t ps w) (λ b. IsTrue b ↔ IsEmpty a)
shown_done P t right a [] h w = (λ _. empty_of_none P a h, λ _. refl)
shown_done P t right a (p ∷ ps) h w =
    after_done (λ b. IsTrue b ↔ IsEmpty a) (t.strict p.cell w) (λ _. pass false)
    (λ _ v. (λ e. absurd (false_not_true false e refl), λ n. absurd (let k = some_part_is_nonempty P t right a p ps h in n k.0 k.1)))

-- ---- differences

-- without one part and without the others is without all of them
rest_of_rest : (P : Part → Type 0) (a b : Shape) (q : Part) (qs made : List Part) → SameMembers b (Shape.difference a (shape_of_parts (q ∷ []))) → AreOf P (Shape.difference b (shape_of_parts qs)) made → AreOf P (Shape.difference a (shape_of_parts (q ∷ qs))) made
rest_of_rest P a b q qs made same h = record {
  all = h.all;
  members = same_next (shape_of_parts made) (Shape.difference b (shape_of_parts qs)) (Shape.difference a (shape_of_parts (q ∷ qs))) h.members
      (same_next (Shape.difference b (shape_of_parts qs)) (Shape.difference (Shape.difference a (shape_of_parts (q ∷ []))) (shape_of_parts qs)) (Shape.difference a (shape_of_parts (q ∷ qs)))
      (same_difference b (shape_of_parts qs) (Shape.difference a (shape_of_parts (q ∷ []))) (shape_of_parts qs) same (same_itself (shape_of_parts qs)))
      (same_of_passes (Shape.difference (Shape.difference a (shape_of_parts (q ∷ []))) (shape_of_parts qs)) (Shape.difference a (shape_of_parts (q ∷ qs)))
      (λ p w e. regroup (passes a p) (passes (shape_of_cell q.cell) p) (passes (shape_of_parts qs) p))));
}
  where
    regroup : (x y z : Bool) → ((x && not (y || false)) && not z) ≡ (x && not (y || z))
    regroup true true z = refl
    regroup true false z = refl
    regroup false y z = refl

-- a difference has exactly the members of the first list that are none of the second, however long that is
pub difference_done : {W : Type 0} (P : Part → Type 0) (t : Tester W) → DifferenceIsRight P t → (ps qs : List Part) → AreParts P ps → AllByRecursion P qs → (w : W)
    → IfDone (subtract t ps qs w) (λ made. AreOf P (Shape.difference (shape_of_parts ps) (shape_of_parts qs)) made)
difference_done P t right ps [] h k w = record {
  all = h;
  members = same_of_passes (shape_of_parts ps) (Shape.difference (shape_of_parts ps) Shape.nothing) (λ p v e. unchanged (passes (shape_of_parts ps) p));
}
  where
    unchanged : (b : Bool) → b ≡ (b && not false)
    unchanged true = refl
    unchanged false = refl
difference_done P t right ps (q ∷ qs) h k w =
    middle_then (AreOf P (Shape.difference (shape_of_parts ps) (shape_of_parts (q ∷ [])))) (AreOf P (Shape.difference (shape_of_parts ps) (shape_of_parts (q ∷ qs))))
    (subtract_part t [] ps q w) (λ left. if_at_most most_parts left) (λ next. subtract t next qs)
    (right ps (q ∷ []) h (record { each = (k.0, tt); few = omega arith }) w)
    (λ next v m. weaker_done (AreOf P (Shape.difference (shape_of_parts next) (shape_of_parts qs))) (AreOf P (Shape.difference (shape_of_parts ps) (shape_of_parts (q ∷ qs))))
    (subtract t next qs v) (difference_done P t right next qs m.all k.1 v)
    (λ made. rest_of_rest P (shape_of_parts ps) (shape_of_parts next) q qs made m.members))

-- the difference without parts, or else a member of it
pub rest_done : {W : Type 0} (P : Part → Type 0) (t : Tester W) → AnswersRightly P t → DifferenceIsRight P t → (ps qs : List Part) → AreParts P ps → AllByRecursion P qs → (w : W)
    → IfDone (is_covered t ps qs w) (λ b. (b ≡ true → IsEmpty (Shape.difference (shape_of_parts ps) (shape_of_parts qs))) × (b ≡ false → IsNonempty (Shape.difference (shape_of_parts ps) (shape_of_parts qs))))
rest_done {W = W} P t tests right ps qs h k w =
    then_done (λ made. AreOf P rest made) (λ b. (b ≡ true → IsEmpty rest) × (b ≡ false → IsNonempty rest)) (subtract t ps qs w) (λ left. show_then_no t left) (difference_done P t right ps qs h k w) by_parts
  where
    rest : Shape
    rest = Shape.difference (shape_of_parts ps) (shape_of_parts qs)

    by_parts : (made : List Part) (v : W) → AreOf P rest made → IfDone (show_then_no t made v) (λ b. (b ≡ true → IsEmpty rest) × (b ≡ false → IsNonempty rest))
    by_parts [] v m = (λ _. empty_of_none P rest m, λ e. absurd (false_not_true true refl e))
    by_parts (p ∷ made) v m =
        after_done (λ b. (b ≡ true → IsEmpty rest) × (b ≡ false → IsNonempty rest)) (t.strict p.cell v) (λ _. pass false)
        (λ _ u. (λ e. absurd (false_not_true false e refl), λ _. some_part_is_nonempty P t tests rest p made m))

-- the difference without parts and the test of its first part tell whether the first list is within the second, however long that is
pub cover_done : {W : Type 0} (P : Part → Type 0) (t : Tester W) → AnswersRightly P t → DifferenceIsRight P t → (ps qs : List Part) → AreParts P ps → AllByRecursion P qs → (w : W)
    → IfDone (is_covered t ps qs w) (λ within. IsTrue within ↔ IsWithin (shape_of_parts ps) (shape_of_parts qs))
cover_done P t tests right ps qs h k w =
    then_done (λ made. AreOf P (Shape.difference (shape_of_parts ps) (shape_of_parts qs)) made) (λ within. IsTrue within ↔ IsWithin (shape_of_parts ps) (shape_of_parts qs))
    (subtract t ps qs w) (λ left. show_then_no t left) (difference_done P t right ps qs h k w)
    (λ made v m. weaker_done (λ b. IsTrue b ↔ IsEmpty (Shape.difference (shape_of_parts ps) (shape_of_parts qs))) (λ within. IsTrue within ↔ IsWithin (shape_of_parts ps) (shape_of_parts qs))
    (show_then_no t made v) (shown_done P t tests (Shape.difference (shape_of_parts ps) (shape_of_parts qs)) made m v)
    (λ b f. (λ e. within_of_rest (shape_of_parts ps) (shape_of_parts qs) (f.0 e), λ i. f.1 (rest_of_within (shape_of_parts ps) (shape_of_parts qs) i))))
