-- Lists of numbers in which each number from 1 to n stands once, and that there is only one such list of lists whose lists are the classes of a relation.
use Rattle.std.proofs.Common.{◌≡◌, ℕ, zero, suc, ◌+◌, ◌<◌, ◌≤◌, Bool, true, false, ◌&&◌, ◌⊎◌, inl, inr, ⊎_elim, List, [], ◌∷◌, length, refl, subst, sym, ◌∙◌, arith}
use Rattle.std.proofs.lemmas.Bool.{leb-true, le-leb}
use Rattle.std.proofs.lemmas.List.Sums.{sum_by-cons}
use Rattle.std.specs.Prelude.{◌==◌, nat_le, count_by, if◌then◌else◌, ◌↔◌}
use Rattle.std.specs.List.{AllByRecursion}
use Rattle.rp_algebra.proofs.Listed.{Listed, first, later}
use Rattle.rp_algebra.proofs.Tests.{and_first, and_second, and_true}
use Rattle.rp_geometry.specs.sets.Pieces.{occurrences, once_up_to, first_number, first_numbers}
use Rattle.rp_parts.proofs.Rising.{Rises, listed_or_not, first_least, rises_same, count_none, count_some, count_once}

-- a list of the lists that has the number
pub record Holds (k : ℕ) (gs : List (List ℕ)) : Type 0 where
  pub list : List ℕ
  pub listed : Listed list gs
  pub has : Listed k list

-- no list has a number in common with a later one
abbrev pub AreDisjoint : List (List ℕ) → Type 0
AreDisjoint [] = Unit {0}
AreDisjoint (ks ∷ gs) = ((k : ℕ) → Listed k ks → Holds k gs → ⊥) × AreDisjoint gs

-- each number from 1 to n stands in one list, and no other number
pub record IsPartition (n : ℕ) (gs : List (List ℕ)) : Type 0 where
  pub in_range : (k : ℕ) → Holds k gs → (1 ≤ k) × (k ≤ n)
  pub holds : (k : ℕ) → 1 ≤ k → k ≤ n → Holds k gs
  pub disjoint : AreDisjoint gs

-- a number of a later list
pub holds_later : {k : ℕ} {ks : List ℕ} {gs : List (List ℕ)} → Holds k gs → Holds k (ks ∷ gs)
holds_later h = record { list = h.list; listed = later h.listed; has = h.has }

-- a number of the lists stands in the first one or in a later one
pub holds_cases : (k : ℕ) (ks : List ℕ) (gs : List (List ℕ)) → Holds k (ks ∷ gs) → Listed k ks ⊎ Holds k gs
holds_cases k ks gs h = by_place h.list h.listed h.has
  where
    by_place : (js : List ℕ) → Listed js (ks ∷ gs) → Listed k js → Listed k ks ⊎ Holds k gs
    by_place js first i = inl i
    by_place js (later l) i = inr (record { list = js; listed = l; has = i })

-- ---- how often a number stands in the lists

-- one list more
occurrences_more : (k : ℕ) (ks : List ℕ) (gs : List (List ℕ)) → occurrences k (ks ∷ gs) ≡ count_by (λ j. j == k) ks + occurrences k gs
occurrences_more k ks gs = sum_by-cons (λ js. count_by (λ j. j == k) js) ks gs

-- a number that no list has stands there no time
occurrences_none : (k : ℕ) (gs : List (List ℕ)) → (Holds k gs → ⊥) → occurrences k gs ≡ 0
occurrences_none k [] n = refl
occurrences_none k (ks ∷ gs) n =
    let here = count_none k ks (λ l. n (record { list = ks; listed = first; has = l })) in
    let rest = occurrences_none k gs (λ h. n (holds_later h)) in
    omega (arith, occurrences_more k ks gs, here, rest)

-- a number that a list has stands there some time
occurrences_some : (k : ℕ) (gs : List (List ℕ)) → Holds k gs → 0 < occurrences k gs
occurrences_some k [] h = elim h.listed [ ]
occurrences_some k (ks ∷ gs) h =
    ⊎_elim
    (λ (l : Listed k ks). let here = count_some k ks l in omega (arith, occurrences_more k ks gs, here))
    (λ (r : Holds k gs). let rest = occurrences_some k gs r in omega (arith, occurrences_more k ks gs, rest))
    (holds_cases k ks gs h)

-- a list has the number or none has
holds_or_not : (k : ℕ) (gs : List (List ℕ)) → Holds k gs ⊎ (Holds k gs → ⊥)
holds_or_not k [] = inr (λ h. elim h.listed [ ])
holds_or_not k (ks ∷ gs) =
    ⊎_elim
    (λ (l : Listed k ks). inl (record { list = ks; listed = first; has = l }))
    (λ (n : Listed k ks → ⊥). ⊎_elim
    (λ (h : Holds k gs). inl (holds_later h))
    (λ (m : Holds k gs → ⊥). inr (λ h. ⊎_elim n m (holds_cases k ks gs h)))
    (holds_or_not k gs))
    (listed_or_not k ks)

-- a number of disjoint lists that rise stands there once
occurrences_once : (k : ℕ) (gs : List (List ℕ)) → AreDisjoint gs → AllByRecursion Rises gs → Holds k gs → occurrences k gs ≡ 1
occurrences_once k [] d r h = elim h.listed [ ]
occurrences_once k (ks ∷ gs) d r h =
    ⊎_elim
    (λ (l : Listed k ks).
    let here = count_once k ks r.0 l in
    let rest = occurrences_none k gs (λ x. d.0 k l x) in
    omega (arith, occurrences_more k ks gs, here, rest))
    (λ (x : Holds k gs).
    let here = count_none k ks (λ l. d.0 k l x) in
    let rest = occurrences_once k gs d.1 r.1 x in
    omega (arith, occurrences_more k ks gs, here, rest))
    (holds_cases k ks gs h)

-- where no number stands twice in the lists, they are disjoint
disjoint_of : (gs : List (List ℕ)) → ((k : ℕ) → occurrences k gs ≤ 1) → AreDisjoint gs
disjoint_of [] few = tt
disjoint_of (ks ∷ gs) few = (
  λ k l h.
      let here = count_some k ks l in
      let rest = occurrences_some k gs h in
      absurd (omega (arith, occurrences_more k ks gs, here, rest, few k)),
  disjoint_of gs (λ k. let f = few k in omega (arith, occurrences_more k ks gs, f)),
)

-- ---- the numbers from 1 to n

-- 1 where the test passes
abbrev one_if : Bool → ℕ
one_if b = if b then 1 else 0

-- 1 for those
once_in : (n k : ℕ) → 1 ≤ k → k ≤ n → once_up_to n k ≡ 1
once_in n k h l = by_test (nat_le 1 k && nat_le k n) (and_true (nat_le 1 k) (nat_le k n) (le-leb 1 k h) (le-leb k n l))
  where
    by_test : (b : Bool) → b ≡ true → one_if b ≡ 1
    by_test true e = refl
    by_test false e = absurd (cc)

-- the other way round
in_once : (n k : ℕ) → 0 < once_up_to n k → (1 ≤ k) × (k ≤ n)
in_once n k h = by_test (nat_le 1 k && nat_le k n) refl h
  where
    by_test : (b : Bool) → (nat_le 1 k && nat_le k n) ≡ b → 0 < one_if b → (1 ≤ k) × (k ≤ n)
    by_test true e p = (leb-true 1 k (and_first (nat_le 1 k) (nat_le k n) e), leb-true k n (and_second (nat_le 1 k) (nat_le k n) e))
    by_test false e p = absurd (omega (arith, p))

-- never more than 1
once_few : (n k : ℕ) → once_up_to n k ≤ 1
once_few n k = by_test (nat_le 1 k && nat_le k n)
  where
    by_test : (b : Bool) → one_if b ≤ 1
    by_test true = omega arith
    by_test false = omega arith

-- ---- what both say is the same

-- where each number from 1 to n stands once in the lists, and no other, they are a partition
pub partition_of : (n : ℕ) (gs : List (List ℕ)) → ((k : ℕ) → occurrences k gs ≡ once_up_to n k) → IsPartition n gs
partition_of n gs once = record {
  in_range = λ k h. in_once n k (subst (λ m. 0 < m) (once k) (occurrences_some k gs h));
  holds = λ k h l. ⊎_elim (λ x. x) (λ x. absurd (let none = occurrences_none k gs x in let one = once_in n k h l in omega (arith, none, one, once k))) (holds_or_not k gs);
  disjoint = disjoint_of gs (λ k. let few = once_few n k in omega (arith, few, once k));
}

-- in a partition whose lists rise each number from 1 to n stands once, and no other
pub once_of : (n : ℕ) (gs : List (List ℕ)) → IsPartition n gs → AllByRecursion Rises gs → (k : ℕ) → occurrences k gs ≡ once_up_to n k
once_of n gs p r k =
    ⊎_elim
    (λ (h : Holds k gs). let i = p.in_range k h in occurrences_once k gs p.disjoint r h ∙ sym (once_in n k i.0 i.1))
    (λ (h : Holds k gs → ⊥). occurrences_none k gs h ∙ never (once_up_to n k) (λ m. let i = in_once n k m in h (p.holds k i.0 i.1)))
    (holds_or_not k gs)
  where
    never : (m : ℕ) → (0 < m → ⊥) → 0 ≡ m
    never zero n = refl
    never (suc m) n = absurd (n (omega arith))

-- ---- the classes of a relation

-- the lists are the classes of a relation
pub record AreClasses (R : ℕ → ℕ → Type 0) (gs : List (List ℕ)) : Type 0 where
  pub disjoint : AreDisjoint gs
  pub none_empty : AllByRecursion (λ ks. 0 < length ks) gs
  pub rising : AllByRecursion Rises gs
  pub in_order : Rises (first_numbers gs)
  pub joined : AllByRecursion (λ ks. (i j : ℕ) → Listed i ks → (Listed j ks ↔ R i j)) gs

-- the later lists are classes too
later_classes : (R : ℕ → ℕ → Type 0) (ks : List ℕ) (gs : List (List ℕ)) → AreClasses R (ks ∷ gs) → AreClasses R gs
later_classes R ks gs c = record { disjoint = c.disjoint.1; none_empty = c.none_empty.1; rising = c.rising.1; in_order = c.in_order.1; joined = c.joined.1 }

-- the first number of a list is at most each number of it
pub at_most_each : (ks : List ℕ) → Rises ks → (k : ℕ) → Listed k ks → first_number ks ≤ k
at_most_each [] r k l = elim l [ ]
at_most_each (j ∷ ks) r k l = first_least j ks r k l

-- a list has its first number
pub has_first : (ks : List ℕ) → 0 < length ks → Listed (first_number ks) ks
has_first [] h = absurd (omega (arith, h))
has_first (k ∷ ks) h = first

-- the first number of all is at most each number of the lists
at_most_all : (m : ℕ) (gs : List (List ℕ)) → AllByRecursion Rises gs → AllByRecursion (λ j. m < j) (first_numbers gs) → (k : ℕ) → Holds k gs → m ≤ k
at_most_all m [] r a k h = elim h.listed [ ]
at_most_all m (ks ∷ gs) r a k h =
    ⊎_elim
    (λ (l : Listed k ks). let b = at_most_each ks r.0 k l in let c = a.0 in omega (arith, b, c))
    (λ (x : Holds k gs). at_most_all m gs r.1 a.1 k x)
    (holds_cases k ks gs h)

-- so the first number of the first list is
first_of_all : (R : ℕ → ℕ → Type 0) (ks : List ℕ) (gs : List (List ℕ)) → AreClasses R (ks ∷ gs) → (k : ℕ) → Holds k (ks ∷ gs) → first_number ks ≤ k
first_of_all R ks gs c k h =
    ⊎_elim
    (λ (l : Listed k ks). at_most_each ks c.rising.0 k l)
    (λ (x : Holds k gs). at_most_all (first_number ks) gs c.rising.1 c.in_order.0 k x)
    (holds_cases k ks gs h)

-- the numbers of the one lists are those of the others
abbrev pub HoldTheSame : List (List ℕ) → List (List ℕ) → Type 0
HoldTheSame gs hs = ((k : ℕ) → Holds k gs → Holds k hs) × ((k : ℕ) → Holds k hs → Holds k gs)

-- there is only one list of classes
pub classes_same : (R : ℕ → ℕ → Type 0) (gs hs : List (List ℕ)) → AreClasses R gs → AreClasses R hs → HoldTheSame gs hs → gs ≡ hs
classes_same R [] [] c d s = refl
classes_same R [] (js ∷ hs) c d s = absurd (let h = s.1 (first_number js) (record { list = js; listed = first; has = has_first js d.none_empty.0 }) in elim h.listed [ ])
classes_same R (ks ∷ gs) [] c d s = absurd (let h = s.0 (first_number ks) (record { list = ks; listed = first; has = has_first ks c.none_empty.0 }) in elim h.listed [ ])
classes_same R (ks ∷ gs) (js ∷ hs) c d s =
    let fk = has_first ks c.none_empty.0 in
    let fj = has_first js d.none_empty.0 in
    let below = first_of_all R js hs d (first_number ks) (s.0 (first_number ks) (record { list = ks; listed = first; has = fk })) in
    let above = first_of_all R ks gs c (first_number js) (s.1 (first_number js) (record { list = js; listed = first; has = fj })) in
    let e : first_number ks ≡ first_number js = omega (arith, below, above) in
    let same : ks ≡ js = rises_same ks js c.rising.0 d.rising.0
    (λ i l. (d.joined.0 (first_number js) i fj).1 (subst (λ m. R m i) e ((c.joined.0 (first_number ks) i fk).0 l)))
    (λ i l. (c.joined.0 (first_number ks) i fk).1 (subst (λ m. R m i) (sym e) ((d.joined.0 (first_number js) i fj).0 l))) in
    let rest : gs ≡ hs = classes_same R gs hs (later_classes R ks gs c) (later_classes R js hs d) (
      λ k h. ⊎_elim (λ (l : Listed k js). absurd (c.disjoint.0 k (subst (λ x. Listed k x) (sym same) l) h)) (λ (x : Holds k hs). x) (holds_cases k js hs (s.0 k (holds_later h))),
      λ k h. ⊎_elim (λ (l : Listed k ks). absurd (d.disjoint.0 k (subst (λ x. Listed k x) same l) h)) (λ (x : Holds k gs). x) (holds_cases k ks gs (s.1 k (holds_later h))),
    ) in
    λ i. same i ∷ rest i
