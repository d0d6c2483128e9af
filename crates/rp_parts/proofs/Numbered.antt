-- The parts of a list by their numbers, counted from 1.
use Rattle.std.proofs.Common.{◌≡◌, ℕ, zero, suc, ◌≤◌, List, [], ◌∷◌, length, Option, Some, None, refl, subst, sym, ◌∙◌, arith}
use Rattle.std.specs.Prelude.{slice_get}
use Rattle.std.specs.List.{AllByRecursion}
use Rattle.rp_algebra.proofs.Listed.{Listed, first, later, all_of, listed_at}
use Rattle.rp_algebra.proofs.Lists.{range_listed, listed_range}
use Rattle.rp_geometry.specs.Geometry.{RationalPoint}
use Rattle.rp_geometry.specs.sets.Shape.{Part, shape_of_cell}
use Rattle.rp_geometry.specs.sets.Contact.{IsNear}
use Rattle.rp_geometry.specs.sets.Pieces.{numbered_parts, shape_of_numbers}
use Rattle.rp_geometry.specs.parts.Groups.{numbers_to}
use Rattle.rp_geometry.specs.laws.PieceLaws.{IsNonemptyPart, part_numbered}
use Rattle.rp_geometry.proofs.Members.{near_larger}
use Rattle.rp_parts.proofs.PieceRegions.{part_within, near_some_part}

-- ---- the part with a number

-- the part with the number, if there is one
abbrev pub part_at : List Part → ℕ → Option Part
part_at parts zero = None
part_at parts (suc k) = slice_get parts k

-- the part, if there is one, and then the parts
abbrev with_part : Option Part → List Part → List Part
with_part o parts = elim o [ None ↦ parts | Some p ↦ p ∷ parts ]

-- the parts of one number more
numbered_more : (parts : List Part) (k : ℕ) (ks : List ℕ) → numbered_parts parts (k ∷ ks) ≡ with_part (part_at parts k) (numbered_parts parts ks)
numbered_more parts zero ks = refl
numbered_more parts (suc k) ks = refl

-- a number of the list, and that the part has it
pub record HasNumber (parts : List Part) (ks : List ℕ) (p : Part) : Type 0 where
  pub number : ℕ
  pub listed : Listed number ks
  pub is : part_at parts number ≡ Some p

-- each part of the numbers of a list has a number of the list
pub number_of : (parts : List Part) (ks : List ℕ) (p : Part) → Listed p (numbered_parts parts ks) → HasNumber parts ks p
number_of parts [] p l = elim l [ ]
number_of parts (k ∷ ks) p l = by_part (part_at parts k) refl (number_of parts ks p) (subst (λ ps. Listed p ps) (numbered_more parts k ks) l)
  where
    by_part : (o : Option Part) → part_at parts k ≡ o → (Listed p (numbered_parts parts ks) → HasNumber parts ks p) → Listed p (with_part o (numbered_parts parts ks)) → HasNumber parts (k ∷ ks) p
    by_part None e rest i = let r = rest i in record { number = r.number; listed = later r.listed; is = r.is }
    by_part (Some q) e rest first = record { number = k; listed = first; is = e }
    by_part (Some q) e rest (later i) = let r = rest i in record { number = r.number; listed = later r.listed; is = r.is }

-- a part with a number of a list is one of the parts of these numbers
pub numbered_listed : (parts : List Part) (ks : List ℕ) (k : ℕ) (p : Part) → Listed k ks → part_at parts k ≡ Some p → Listed p (numbered_parts parts ks)
numbered_listed parts [] k p l e = elim l [ ]
numbered_listed parts (j ∷ ks) k p first e = subst (λ ps. Listed p ps) (sym (numbered_more parts k ks)) (subst (λ o. Listed p (with_part o (numbered_parts parts ks))) (sym e) first)
numbered_listed parts (j ∷ ks) k p (later l) e = subst (λ ps. Listed p ps) (sym (numbered_more parts j ks)) (after (part_at parts j) (numbered_listed parts ks k p l e))
  where
    after : (o : Option Part) → Listed p (numbered_parts parts ks) → Listed p (with_part o (numbered_parts parts ks))
    after None i = i
    after (Some q) i = later i

-- what is true of all parts is true of the part with a number
pub at_number : (P : Part → Type 0) (parts : List Part) → AllByRecursion P parts → (k : ℕ) (p : Part) → part_at parts k ≡ Some p → P p
at_number P parts h zero p e = absurd (cc)
at_number P parts h (suc k) p e = all_of P parts h p (listed_at p parts k e)

-- and of all parts with the numbers of a list
pub at_numbers : (P : Part → Type 0) (parts : List Part) → AllByRecursion P parts → (ks : List ℕ) → AllByRecursion P (numbered_parts parts ks)
at_numbers P parts h [] = tt
at_numbers P parts h (k ∷ ks) = subst (AllByRecursion P) (sym (numbered_more parts k ks)) (by_part (part_at parts k) refl (at_numbers P parts h ks))
  where
    by_part : (o : Option Part) → part_at parts k ≡ o → AllByRecursion P (numbered_parts parts ks) → AllByRecursion P (with_part o (numbered_parts parts ks))
    by_part None e rest = rest
    by_part (Some q) e rest = (at_number P parts h k q e, rest)

-- ---- which numbers there are

-- a part has a number from 1 to the length of the list
pub number_in_range : (parts : List Part) (k : ℕ) (p : Part) → part_at parts k ≡ Some p → (1 ≤ k) × (k ≤ length parts)
number_in_range parts zero p e = absurd (cc)
number_in_range parts (suc k) p e = (omega arith, within parts k e)
  where
    within : (ps : List Part) (i : ℕ) → slice_get ps i ≡ Some p → suc i ≤ length ps
    within [] i f = absurd (cc)
    within (q ∷ ps) zero f = omega arith
    within (q ∷ ps) (suc i) f = let h = within ps i f in omega (arith, h)

-- a number from 1 to the length of the list has a part
pub part_in_range : (parts : List Part) (k : ℕ) → 1 ≤ k → k ≤ length parts → (p : Part) × (part_at parts k ≡ Some p)
part_in_range parts zero h l = absurd (omega (arith, h))
part_in_range parts (suc k) h l = there parts k l
  where
    there : (ps : List Part) (i : ℕ) → suc i ≤ length ps → (p : Part) × (slice_get ps i ≡ Some p)
    there [] i f = absurd (omega (arith, f))
    there (q ∷ ps) zero f = (q, refl)
    there (q ∷ ps) (suc i) f = there ps i (omega (arith, f))

-- the numbers from 1 to n are those
pub listed_to : (n k : ℕ) → 1 ≤ k → k ≤ n → Listed k (numbers_to n)
listed_to n k h l = range_listed n 1 k h (omega (arith, l))

-- and no others
pub to_listed : (n k : ℕ) → Listed k (numbers_to n) → (1 ≤ k) × (k ≤ n)
to_listed n k l = let r = listed_range n 1 k l in (r.0, omega (arith, r.1))

-- ---- the shape of a number

-- of two answers that are equal and some, the items are equal
same_item : {o : Option Part} (p q : Part) → o ≡ Some p → o ≡ Some q → p ≡ q
same_item p q e f = let both : Some p ≡ Some q = sym e ∙ f in cc

-- what is near a part with a number of a list is near the shape of the numbers
pub near_numbers : (parts : List Part) (ks : List ℕ) (k : ℕ) (p : Part) → Listed k ks → part_at parts k ≡ Some p → (q : RationalPoint) → IsNear (shape_of_cell p.cell) q → IsNear (shape_of_numbers parts ks) q
near_numbers parts ks k p l e q n = near_larger (shape_of_cell p.cell) (shape_of_numbers parts ks) (part_within (numbered_parts parts ks) p (numbered_listed parts ks k p l e)) q n

-- what is near a part is near the shape of its number
pub near_numbered : (parts : List Part) (k : ℕ) (p : Part) → part_at parts k ≡ Some p → (q : RationalPoint) → IsNear (shape_of_cell p.cell) q → IsNear (part_numbered parts k) q
near_numbered parts k p e q n = near_numbers parts (k ∷ []) k p first e q n

-- what is near the shape of a number is near its part
pub near_part : (parts : List Part) → AllByRecursion IsNonemptyPart parts → (k : ℕ) (p : Part) → part_at parts k ≡ Some p → (q : RationalPoint) → IsNear (part_numbered parts k) q → IsNear (shape_of_cell p.cell) q
near_part parts h k p e q n =
    let r = near_some_part (numbered_parts parts (k ∷ [])) (at_numbers IsNonemptyPart parts h (k ∷ [])) q n in
    let i = number_of parts (k ∷ []) r.part r.listed in
    let same : r.part ≡ p = same_item r.part p (subst (λ j. part_at parts j ≡ Some r.part) (only i.number i.listed) i.is) e in
    subst (λ s. IsNear (shape_of_cell s.cell) q) same r.near
  where
    only : (j : ℕ) → Listed j (k ∷ []) → j ≡ k
    only j first = refl
    only j (later l) = elim l [ ]

-- a number of a list, and its part, to which the point is near
pub record IsNearNumber (parts : List Part) (ks : List ℕ) (q : RationalPoint) : Type 0 where
  pub number : ℕ
  pub listed : Listed number ks
  pub near : IsNear (part_numbered parts number) q

-- what is near the shape of the numbers of a list is near the shape of some number
pub near_some_number : (parts : List Part) → AllByRecursion IsNonemptyPart parts → (ks : List ℕ) (q : RationalPoint) → IsNear (shape_of_numbers parts ks) q → IsNearNumber parts ks q
near_some_number parts h ks q n =
    let r = near_some_part (numbered_parts parts ks) (at_numbers IsNonemptyPart parts h ks) q n in
    let i = number_of parts ks r.part r.listed in
    record { number = i.number; listed = i.listed; near = near_numbered parts i.number r.part i.is q r.near }
