-- The act that has a line, among acts in the order of their lines.
use Rattle.std.proofs.Common.{◌≡◌, inl, inr, ℕ, zero, suc, ◌+◌, ◌<◌, ◌≤◌, Bool, true, false, cond, ◌&&◌, leb, ltb, List, [], ◌∷◌, length, map, Option, None, Some, refl, sym, ap, ◌∙◌, arith}
use Rattle.std.specs.Prelude.{option_and_then, slice_get, slice_index_or, if◌then◌else◌}
use Rattle.std.specs.List.Sorted.{IsNonDecreasingBy, IsPartitionPoint}
use Rattle.std.proofs.lemmas.Bool.{cases_Bool, leb-true, le-leb}
use Rattle.std.proofs.lemmas.Bool.Decides.{nat_tests}
use Rattle.rp_book.specs.declared.act.Act.{Act}
use Rattle.rp_book.specs.Act.{Told, AreInOrder, act_of}
use Rattle.rp_book_service.specs.Acts.{HasLine}
use Rattle.rp_book_service.specs.Events.{act_with, has_line}

-- an act whose lines come later does not have the line
not-yet : (n first last : ℕ) → n < first → (leb first n && leb n last) ≡ false
not-yet n first last h = elim (cases_Bool (leb first n)) [ inl is ↦ absurd (omega (arith, h, leb-true first n is)) | inr other ↦ ap (λ b. b && leb n last) other ]

-- an act whose lines came before does not have the line
no-more : (n first last : ℕ) → last < n → (leb first n && leb n last) ≡ false
no-more n first last h =
    elim (cases_Bool (leb n last)) [ inl is ↦ absurd (omega (arith, h, leb-true n last is)) | inr other ↦ ap (λ b. leb first n && b) other ∙ and_false (leb first n) ]
  where
    and_false : (b : Bool) → (b && false) ≡ false
    and_false true = refl
    and_false false = refl

-- no act has a line before the first
none-before : (n least : ℕ) (acts : List Told) → AreInOrder least acts → n < least → act_with n acts ≡ None
none-before n least [] order h = refl
none-before n least (a ∷ acts) order h =
    ap (λ b. cond b (Some a) (act_with n acts)) (not-yet n a.first a.last (omega (arith, order.0, h))) ∙ none-before n (a.last + 1) acts order.2 (omega (arith, order.0, order.1, h))

-- the acts below a place end before a line, and the act at the place does not
abbrev IsPlace : ℕ → List Act → ℕ → Type 0
IsPlace n [] i = Unit {0}
IsPlace n (a ∷ acts) zero = n ≤ a.last
IsPlace n (a ∷ acts) (suc i) = (a.last < n) × IsPlace n acts i

-- the act at a place, if it has the line
abbrev at_place : ℕ → List Act → ℕ → Option Told
at_place n acts i = option_and_then (λ a. if has_line n (act_of a) then Some (act_of a) else None) (slice_get acts i)

at-place : (n least : ℕ) (acts : List Act) (i : ℕ) → AreInOrder least (map act_of acts) → IsPlace n acts i → act_with n (map act_of acts) ≡ at_place n acts i
at-place n least [] i order place = refl
at-place n least (a ∷ acts) zero order place = go (has_line n (act_of a)) (none-before n (a.last + 1) (map act_of acts) order.2 (omega (arith, place)))
  where
    go : (b : Bool) → act_with n (map act_of acts) ≡ None → cond b (Some (act_of a)) (act_with n (map act_of acts)) ≡ (if b then Some (act_of a) else None)
    go true none = refl
    go false none = none
at-place n least (a ∷ acts) (suc i) order place =
    ap (λ b. cond b (Some (act_of a)) (act_with n (map act_of acts))) (no-more n a.first a.last place.0) ∙ at-place n (a.last + 1) acts i order.2 place.1

-- the place that a binary search finds
is-place : (n : ℕ) (acts : List Act) (i : ℕ) → IsPartitionPoint (λ a. ltb a.last n ≡ true) (λ a. ltb a.last n ≡ false) acts i → IsPlace n acts i
is-place n [] i h = tt
is-place n (a ∷ acts) zero h = let late = h.1 0 a (omega arith) (omega arith) in grind (arith, nat_tests)
is-place n (a ∷ acts) (suc i) h =
    let early : ltb a.last n ≡ true = h.0 0 a (omega arith) (omega arith) in (
      ltb_below a.last n early,
      is-place n acts i (λ k d low high. h.0 (suc k) d (omega arith) (omega (arith, high)), λ k d low high. h.1 (suc k) d (omega (arith, low)) (omega (arith, high))),
    )
  where
    ltb_below : (a b : ℕ) → ltb a b ≡ true → a < b
    ltb_below a b e = grind (arith, nat_tests)

-- the numbers of the last lines rise
no-lower : (least : ℕ) (acts : List Act) (k : ℕ) (d : Act) → AreInOrder least (map act_of acts) → k < length acts → least ≤ (slice_index_or acts k d).last
no-lower least [] k d order h = absurd (omega (arith, h))
no-lower least (a ∷ acts) zero d order h = omega (arith, order.0, order.1)
no-lower least (a ∷ acts) (suc k) d order h = omega (arith, order.0, order.1, no-lower (a.last + 1) acts k d order.2 (omega (arith, h)))

pub last-rises : (least : ℕ) (acts : List Act) → AreInOrder least (map act_of acts) → IsNonDecreasingBy (λ a. a.last) acts
last-rises least [] order i j d low high = absurd (omega (arith, high))
last-rises least (a ∷ acts) order zero zero d low high = omega arith
last-rises least (a ∷ acts) order zero (suc j) d low high = omega (arith, no-lower (a.last + 1) acts j d order.2 (omega (arith, high)))
last-rises least (a ∷ acts) order (suc i) zero d low high = absurd (omega (arith, low))
last-rises least (a ∷ acts) order (suc i) (suc j) d low high = last-rises (a.last + 1) acts order.2 i j d (omega (arith, low)) (omega (arith, high))

-- what a binary search finds is the act with the line
module _ (n : ℕ) (acts : List Act) (i : ℕ) (order : AreInOrder 0 (map act_of acts)) (point : IsPartitionPoint (λ a. ltb a.last n ≡ true) (λ a. ltb a.last n ≡ false) acts i) where
  pub act_with-none : slice_get acts i ≡ None → None ≡ act_with n (map act_of acts)
  act_with-none e = sym (at-place n 0 acts i order (is-place n acts i point) ∙ ap (option_and_then (λ (a : Act). if has_line n (act_of a) then Some (act_of a) else None)) e)

  pub act_with-some : (a : Act) → slice_get acts i ≡ Some a → HasLine n a → Some (act_of a) ≡ act_with n (map act_of acts)
  act_with-some a e has =
      let holds : has_line n (act_of a) ≡ true = ap (λ b. b && leb n a.last) (le-leb a.first n has.0) ∙ le-leb n a.last has.1 in
      sym (at-place n 0 acts i order (is-place n acts i point) ∙ ap (option_and_then (λ (a : Act). if has_line n (act_of a) then Some (act_of a) else None)) e ∙ ap (λ b. cond b (Some (act_of a)) None) holds)

  pub act_with-other : (a : Act) → slice_get acts i ≡ Some a → (HasLine n a → ⊥) → None ≡ act_with n (map act_of acts)
  act_with-other a e has =
      let lacks : has_line n (act_of a) ≡ false = elim (cases_Bool (has_line n (act_of a))) [ inl is ↦ absurd (has (both is)) | inr other ↦ other ] in
      sym (at-place n 0 acts i order (is-place n acts i point) ∙ ap (option_and_then (λ (a : Act). if has_line n (act_of a) then Some (act_of a) else None)) e ∙ ap (λ b. cond b (Some (act_of a)) None) lacks)
    where
      both : (leb a.first n && leb n a.last) ≡ true → HasLine n a
      both is = grind (arith, nat_tests)
