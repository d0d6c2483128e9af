-- Two nonempty shapes stand in exactly one of the eight relations: six answers determine it.
use Rattle.std.proofs.Common.{◌≡◌, ℕ, zero, suc, Bool, true, false, not, ◌&&◌, refl, sym, ap, ◌∙◌}
use Rattle.std.specs.Prelude.{◌↔◌, IsTrue}
use Rattle.rp_algebra.proofs.Tests.{false_unless, false_not_true, and_first, and_second, and_true}
use Rattle.rp_geometry.specs.sets.Shape.{Shape, shape_of_cells}
use Rattle.rp_geometry.specs.sets.Sets.{IsNonempty, IsWithin, SameMembers, IsProperPart, Overlaps}
use Rattle.rp_geometry.specs.sets.Contact.{IsInContact, IsExternallyConnected, HasCommonNeighbour}
use Rattle.rp_geometry.specs.sets.Relation.{Relation, DC, EC, PO, EQ, TPP, NTPP, TPPi, NTPPi, StandIn}
use Rattle.rp_geometry.specs.laws.RegionLaws.{IsBoundedShape, RelationIsOne, RelationsExclude, RelationsAreOfMembers}
use Rattle.rp_geometry.proofs.Members.{overlap_larger, overlap_turned, contact_larger, within_of_apart, apart_of_within}
use Rattle.rp_geometry.proofs.SameMembers.{same_back}
use Rattle.rp_parts.proofs.NearMembers.{contact_of_overlap}
use Rattle.rp_parts.proofs.Regions.{shape_is_region_spec}
use Rattle.rp_parts.proofs.Found.{some_cells, share, touch_full, overlap_of_cells, contact_of_cells}
use Rattle.rp_parts.proofs.Tangential.{itself, neighbour_touches_outside, outside_is_neighbour}

-- ---- answers

-- a test that passes exactly where a fact holds
pub record Answer (A : Type 0) : Type 0 where
  pub test : Bool
  pub says : IsTrue test ↔ A

-- where the test fails the fact does not hold
answer_no : (A : Type 0) (b : Bool) → IsTrue b ↔ A → b ≡ false → A → ⊥
answer_no A b says e k = false_not_true b (says.1 k) e

-- whether two shapes share a member
pub overlap_answer : (s t : Shape) → IsBoundedShape s → IsBoundedShape t → Answer (Overlaps s t)
overlap_answer s t ks kt =
    let (f, kf, same_f) = shape_is_region_spec s ks in
    let (g, kg, same_g) = shape_is_region_spec t kt in
    let found = overlap_of_cells f g kf kg in
    record {
      test = some_cells share f g;
      says = (λ e. overlap_larger (shape_of_cells f) s (shape_of_cells g) t same_f.0 same_g.0 (found.1 e), λ k. found.0 (overlap_larger s (shape_of_cells f) t (shape_of_cells g) same_f.1 same_g.1 k));
    }

-- whether two shapes are in contact
pub contact_answer : (s t : Shape) → IsBoundedShape s → IsBoundedShape t → Answer (IsInContact s t)
contact_answer s t ks kt =
    let (f, kf, same_f) = shape_is_region_spec s ks in
    let (g, kg, same_g) = shape_is_region_spec t kt in
    let found = contact_of_cells f g kf kg in
    record {
      test = some_cells touch_full f g;
      says = (λ e. contact_larger (shape_of_cells f) s (shape_of_cells g) t same_f.0 same_g.0 (found.1 e), λ k. found.0 (contact_larger s (shape_of_cells f) t (shape_of_cells g) same_f.1 same_g.1 k));
    }

-- whether one shape is within another: whether it shares no member with the outside of the other
pub within_answer : (s t : Shape) → IsBoundedShape s → IsBoundedShape t → Answer (IsWithin s t)
within_answer s t ks kt =
    let outside = overlap_answer s (Shape.complement t) ks kt in
    record {
      test = not outside.test;
      says = (
        λ e. within_of_apart s t (λ k. turned outside.test (outside.says.1 k) e),
        λ k. ap not (false_unless outside.test (λ e. apart_of_within s t k (outside.says.0 e))),
      );
    }
  where
    turned : (b : Bool) → b ≡ true → not b ≡ true → ⊥
    turned true e f = cc
    turned false e f = cc

-- one shape is within another and has a common neighbour with it
abbrev IsTouchingPart : Shape → Shape → Type 0
IsTouchingPart s t = IsWithin s t × HasCommonNeighbour s t

-- whether this is so: whether it is within the other, and in contact with the outside of the other
pub touching_answer : (s t : Shape) → IsBoundedShape s → IsBoundedShape t → Answer (IsTouchingPart s t)
touching_answer s t ks kt =
    let within = within_answer s t ks kt in
    let touch = contact_answer s (Shape.complement t) ks kt in
    record {
      test = within.test && touch.test;
      says = (
        λ e. let w = within.says.0 (and_first within.test touch.test e) in (w, outside_is_neighbour s t kt w (touch.says.0 (and_second within.test touch.test e))),
        λ (w, n). and_true within.test touch.test (within.says.1 w) (touch.says.1 (neighbour_touches_outside s t n)),
      );
    }

-- ---- the relation by six answers

-- without a common member contact decides
abbrev relation_apart : Bool → Relation
relation_apart true = EC
relation_apart false = DC

-- of a proper part, by whether it has a common neighbour with the whole
abbrev relation_part : Bool → Relation
relation_part true = TPP
relation_part false = NTPP

-- of a whole, by the same
abbrev relation_whole : Bool → Relation
relation_whole true = TPPi
relation_whole false = NTPPi

-- with a common member: whether the first is within the second, the second within the first, and whether each is a touching part of the other
abbrev relation_together : Bool → Bool → Bool → Bool → Relation
relation_together true true touches touched = EQ
relation_together true false touches touched = relation_part touches
relation_together false true touches touched = relation_whole touched
relation_together false false touches touched = PO

-- whether they share a member, whether they are in contact, and then the same
abbrev relation_by : Bool → Bool → Bool → Bool → Bool → Bool → Relation
relation_by false contact within around touches touched = relation_apart contact
relation_by true contact within around touches touched = relation_together within around touches touched

-- six right answers about two shapes
record SixAnswers (s t : Shape) : Type 0 where
  common : Answer (Overlaps s t)
  contact : Answer (IsInContact s t)
  within : Answer (IsWithin s t)
  around : Answer (IsWithin t s)
  touches : Answer (IsTouchingPart s t)
  touched : Answer (IsTouchingPart t s)

-- the relation that they give
abbrev relation_of : {s : Shape} {t : Shape} → SixAnswers s t → Relation
relation_of a = relation_by a.common.test a.contact.test a.within.test a.around.test a.touches.test a.touched.test

-- the shapes stand in it
stands : (s t : Shape) (common contact within around touches touched : Bool)
    → IsTrue common ↔ Overlaps s t → IsTrue contact ↔ IsInContact s t → IsTrue within ↔ IsWithin s t → IsTrue around ↔ IsWithin t s
    → IsTrue touches ↔ IsTouchingPart s t → IsTrue touched ↔ IsTouchingPart t s
    → StandIn (relation_by common contact within around touches touched) s t
stands s t false false w v a b hc hk hw hv ha hb = answer_no (IsInContact s t) false hk refl
stands s t false true w v a b hc hk hw hv ha hb = (hk.0 refl, answer_no (Overlaps s t) false hc refl)
stands s t true k true true a b hc hk hw hv ha hb = (hw.0 refl, hv.0 refl)
stands s t true k true false true b hc hk hw hv ha hb = ((hw.0 refl, answer_no (IsWithin t s) false hv refl), (ha.0 refl).1)
stands s t true k true false false b hc hk hw hv ha hb = ((hw.0 refl, answer_no (IsWithin t s) false hv refl), λ n. answer_no (IsTouchingPart s t) false ha refl (hw.0 refl, n))
stands s t true k false true a true hc hk hw hv ha hb = ((hv.0 refl, answer_no (IsWithin s t) false hw refl), (hb.0 refl).1)
stands s t true k false true a false hc hk hw hv ha hb = ((hv.0 refl, answer_no (IsWithin s t) false hw refl), λ n. answer_no (IsTouchingPart t s) false hb refl (hv.0 refl, n))
stands s t true k false false a b hc hk hw hv ha hb = (hc.0 refl, answer_no (IsWithin s t) false hw refl, answer_no (IsWithin t s) false hv refl)

-- a shape with a member shares it with what holds the shape
shares_all : (s t : Shape) → IsNonempty s → IsWithin s t → Overlaps s t
shares_all s t (p, m) within = (p, m, within p m)

-- a test of what does not hold fails
no_answer : (A : Type 0) (a : Answer A) → (A → ⊥) → a.test ≡ false
no_answer A a n = false_unless a.test (λ e. n (a.says.0 e))

-- two nonempty shapes that stand in a relation stand in the one that the answers give
stands_only : (s t : Shape) → IsNonempty s → IsNonempty t → (a : SixAnswers s t) (q : Relation) → StandIn q s t → relation_of a ≡ q
stands_only s t ns nt a DC is =
    let c = no_answer (Overlaps s t) a.common (λ o. is (contact_of_overlap s t o)) in
    let k = no_answer (IsInContact s t) a.contact is in
    λ i. relation_by (c i) (k i) a.within.test a.around.test a.touches.test a.touched.test
stands_only s t ns nt a EC is =
    let c = no_answer (Overlaps s t) a.common is.1 in
    let k = a.contact.says.1 is.0 in
    λ i. relation_by (c i) (k i) a.within.test a.around.test a.touches.test a.touched.test
stands_only s t ns nt a PO is =
    let c = a.common.says.1 is.0 in
    let w = no_answer (IsWithin s t) a.within is.1 in
    let v = no_answer (IsWithin t s) a.around is.2 in
    λ i. relation_by (c i) a.contact.test (w i) (v i) a.touches.test a.touched.test
stands_only s t ns nt a EQ is =
    let c = a.common.says.1 (shares_all s t ns is.0) in
    let w = a.within.says.1 is.0 in
    let v = a.around.says.1 is.1 in
    λ i. relation_by (c i) a.contact.test (w i) (v i) a.touches.test a.touched.test
stands_only s t ns nt a TPP is =
    let c = a.common.says.1 (shares_all s t ns is.0.0) in
    let w = a.within.says.1 is.0.0 in
    let v = no_answer (IsWithin t s) a.around is.0.1 in
    let e = a.touches.says.1 (is.0.0, is.1) in
    λ i. relation_by (c i) a.contact.test (w i) (v i) (e i) a.touched.test
stands_only s t ns nt a NTPP is =
    let c = a.common.says.1 (shares_all s t ns is.0.0) in
    let w = a.within.says.1 is.0.0 in
    let v = no_answer (IsWithin t s) a.around is.0.1 in
    let e = no_answer (IsTouchingPart s t) a.touches (λ k. is.1 k.1) in
    λ i. relation_by (c i) a.contact.test (w i) (v i) (e i) a.touched.test
stands_only s t ns nt a TPPi is =
    let c = a.common.says.1 (overlap_turned t s (shares_all t s nt is.0.0)) in
    let w = no_answer (IsWithin s t) a.within is.0.1 in
    let v = a.around.says.1 is.0.0 in
    let e = a.touched.says.1 (is.0.0, is.1) in
    λ i. relation_by (c i) a.contact.test (w i) (v i) a.touches.test (e i)
stands_only s t ns nt a NTPPi is =
    let c = a.common.says.1 (overlap_turned t s (shares_all t s nt is.0.0)) in
    let w = no_answer (IsWithin s t) a.within is.0.1 in
    let v = a.around.says.1 is.0.0 in
    let e = no_answer (IsTouchingPart t s) a.touched (λ k. is.1 k.1) in
    λ i. relation_by (c i) a.contact.test (w i) (v i) a.touches.test (e i)

-- ---- exactly one relation

-- all six can be asked of bounded shapes
six_answers : (s t : Shape) → IsBoundedShape s → IsBoundedShape t → SixAnswers s t
six_answers s t ks kt = record {
  common = overlap_answer s t ks kt;
  contact = contact_answer s t ks kt;
  within = within_answer s t ks kt;
  around = within_answer t s kt ks;
  touches = touching_answer s t ks kt;
  touched = touching_answer t s kt ks;
}

-- the law
pub relation_is_one_spec : RelationIsOne
relation_is_one_spec s t ks kt ns nt =
    let a = six_answers s t ks kt in (
      relation_of a,
      stands s t a.common.test a.contact.test a.within.test a.around.test a.touches.test a.touched.test a.common.says a.contact.says a.within.says a.around.says a.touches.says a.touched.says,
      λ q is. sym (stands_only s t ns nt a q is),
    )

-- ---- no two relations, of any shapes

-- a number for each relation
number_of : Relation → ℕ
number_of DC = 0
number_of EC = 1
number_of PO = 2
number_of EQ = 3
number_of TPP = 4
number_of NTPP = 5
number_of TPPi = 6
number_of NTPPi = 7

-- the relation with the number
named : ℕ → Relation
named zero = DC
named (suc zero) = EC
named (suc (suc zero)) = PO
named (suc (suc (suc zero))) = EQ
named (suc (suc (suc (suc zero)))) = TPP
named (suc (suc (suc (suc (suc zero))))) = NTPP
named (suc (suc (suc (suc (suc (suc zero)))))) = TPPi
named (suc (suc (suc (suc (suc (suc (suc n))))))) = NTPPi

-- a relation has its number
back : (r : Relation) → named (number_of r) ≡ r
unfolding named number_of
back DC = refl
back EC = refl
back PO = refl
back EQ = refl
back TPP = refl
back NTPP = refl
back TPPi = refl
back NTPPi = refl

-- numbers that cannot be different are the same
same_numbers : (m n : ℕ) → ((m ≡ n → ⊥) → ⊥) → m ≡ n
same_numbers zero zero h = refl
same_numbers zero (suc n) h = absurd (h (λ e. cc))
same_numbers (suc m) zero h = absurd (h (λ e. cc))
same_numbers (suc m) (suc n) h = ap suc (same_numbers m n (λ k. h (λ e. k (cc))))

-- and so are relations
pub same_unless : (r q : Relation) → ((r ≡ q → ⊥) → ⊥) → r ≡ q
same_unless r q h = sym (back r) ∙ ap named (same_numbers (number_of r) (number_of q) (λ n. h (λ e. n (ap number_of e)))) ∙ back q

-- that a fact has no answer leads to a contradiction, also where no test of it is known
no_lack : (A : Type 0) → (Answer A → ⊥) → ⊥
no_lack A n = n (record { test = false; says = (λ e. absurd (cc), λ k. absurd (n (record { test = true; says = (λ e. k, λ j. refl) }))) })

-- the law
pub relations_exclude_spec : RelationsExclude
relations_exclude_spec s t ns nt r q is_r is_q =
    same_unless r q (λ n.
    no_lack (Overlaps s t) (λ common.
    no_lack (IsInContact s t) (λ contact.
    no_lack (IsWithin s t) (λ within.
    no_lack (IsWithin t s) (λ around.
    no_lack (IsTouchingPart s t) (λ touches.
    no_lack (IsTouchingPart t s) (λ touched.
    let a : SixAnswers s t = record { common = common; contact = contact; within = within; around = around; touches = touches; touched = touched } in
    n (sym (stands_only s t ns nt a r is_r) ∙ stands_only s t ns nt a q is_q))))))))

-- ---- shapes with the same members

-- inclusion is of members
within_of_same : (s s' t t' : Shape) → IsWithin s' s → IsWithin t t' → IsWithin s t → IsWithin s' t'
within_of_same s s' t t' a b w p m = b p (w p (a p m))

-- a proper part is of members
proper_of_same : (s s' t t' : Shape) → SameMembers s s' → SameMembers t t' → IsProperPart s t → IsProperPart s' t'
proper_of_same s s' t t' a b k = (within_of_same s s' t t' a.1 b.0 k.0, λ w. k.1 (within_of_same t' t s' s b.0 a.1 w))

-- external connection is of members
connected_of_same : (s s' t t' : Shape) → SameMembers s s' → SameMembers t t' → IsExternallyConnected s t → IsExternallyConnected s' t'
connected_of_same s s' t t' a b k = (contact_larger s s' t t' a.0 b.0 k.0, λ o. k.1 (overlap_larger s' s t' t a.1 b.1 o))

-- a common neighbour is of members
neighbour_of_same : (s s' t t' : Shape) → SameMembers s s' → SameMembers t t' → HasCommonNeighbour s t → HasCommonNeighbour s' t'
neighbour_of_same s s' t t' a b (cells, bounded, first, second) =
    let z = shape_of_cells cells in
    let same : SameMembers z z = (itself z, itself z) in
    (cells, bounded, connected_of_same z z s s' same a first, connected_of_same z z t t' same b second)

-- the law
pub relations_are_of_members_spec : RelationsAreOfMembers
relations_are_of_members_spec s s' t t' a b DC is = λ k. is (contact_larger s' s t' t a.1 b.1 k)
relations_are_of_members_spec s s' t t' a b EC is = connected_of_same s s' t t' a b is
relations_are_of_members_spec s s' t t' a b PO is = (
  overlap_larger s s' t t' a.0 b.0 is.0,
  λ w. is.1 (within_of_same s' s t' t a.0 b.1 w),
  λ w. is.2 (within_of_same t' t s' s b.0 a.1 w),
)
relations_are_of_members_spec s s' t t' a b EQ is = (within_of_same s s' t t' a.1 b.0 is.0, within_of_same t t' s s' b.1 a.0 is.1)
relations_are_of_members_spec s s' t t' a b TPP is = (proper_of_same s s' t t' a b is.0, neighbour_of_same s s' t t' a b is.1)
relations_are_of_members_spec s s' t t' a b NTPP is = (proper_of_same s s' t t' a b is.0, λ n. is.1 (neighbour_of_same s' s t' t (same_back s s' a) (same_back t t' b) n))
relations_are_of_members_spec s s' t t' a b TPPi is = (proper_of_same t t' s s' b a is.0, neighbour_of_same t t' s s' b a is.1)
relations_are_of_members_spec s s' t t' a b NTPPi is = (proper_of_same t t' s s' b a is.0, λ n. is.1 (neighbour_of_same t' t s' s (same_back t t' b) (same_back s s' a) n))
