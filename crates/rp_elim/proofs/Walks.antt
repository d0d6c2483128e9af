-- Sets of places by tests of a list's members, and searches that go from one place of a set to the next.
use Rattle.std.proofs.Common.{◌≡◌, ℕ, zero, suc, ◌+◌, ◌-◌, ◌*◌, ◌/◌, ◌%◌, ◌^◌, ◌<◌, ◌≤◌, Bool, true, false, ◌&&◌, cond, List, [], ◌∷◌, length, drop, get_or, refl, sym, ap, ◌∙◌, arith, Fits}
use mir.Syntax.{w128}
use mir.Val.{bool_byte}
use Rattle.std.specs.Prelude.{Option, Some, None, bit_and, min}
use Rattle.std.specs.Int.{bit_at}
use Rattle.std.specs.List.{slice_get}
use Rattle.std.proofs.lemmas.Nat.Bits.{bit_at-zero, bit_at_and, bit_at_lowest, bit_at-suc, same_from_bits}
use Rattle.rp_algebra.proofs.Lists.{drop_item}
use Rattle.rp_algebra.proofs.Options.{or_else}
use Rattle.rp_geometry.specs.searches.Search.{first_of, first_of_pairs}
use Rattle.rp_space.specs.Places.{bits_of, IsLowestFrom, HasNoneFrom}
use Rattle.rp_space.proofs.Bits.{bit_of, bits_of-bit, bits_of-small}

-- ---- the set of a list and that of all but its first member
module _ {A : Type 0} (test : A → Bool) (x : A) (xs : List A) where
  -- all but the first one
  pub bits_behind : bits_of test (x ∷ xs) / 2 ≡ bits_of test xs
  bits_behind =
      same_from_bits (bits_of test (x ∷ xs) / 2) (bits_of test xs)
      (λ i. sym (bit_at-suc (bits_of test (x ∷ xs)) i) ∙ bits_of-bit test (x ∷ xs) (suc i) ∙ sym (bits_of-bit test xs i))

  -- the first one
  pub bit_first : bits_of test (x ∷ xs) % 2 ≡ cond (test x) 1 0
  bit_first = sym (bit_at_lowest (bits_of test (x ∷ xs))) ∙ bits_of-bit test (x ∷ xs) 0

  -- its place
  first_at : bit_at (bits_of test (x ∷ xs)) 0 ≡ cond (test x) 1 0
  first_at = bit_at_lowest (bits_of test (x ∷ xs)) ∙ bit_first

  -- the places of the others
  behind_at : (i : ℕ) → bit_at (bits_of test (x ∷ xs)) (suc i) ≡ bit_at (bits_of test xs) i
  behind_at i = bit_at-suc (bits_of test (x ∷ xs)) i ∙ ap (λ (n : ℕ). bit_at n i) bits_behind

-- what is left of a list is no longer
left_within : {A : Type 0} (i : ℕ) (xs : List A) (k : ℕ) → length xs ≤ k → length (drop i xs) ≤ k
left_within zero xs k h = h
left_within (suc i) [] k h = h
left_within (suc i) (x ∷ xs) k h = left_within i xs k (omega (arith, h))

-- the set of what is left of a short list is small
small_behind : {A : Type 0} (test : A → Bool) (xs : List A) (i n : ℕ) → length xs ≤ 69 → n ≡ bits_of test (drop i xs) → n < 2 ^ 69
small_behind test xs i n h e = rw e (bits_of-small test (drop i xs) 69 (left_within i xs 69 h))

-- twice it has room
pub twice_fits : {A : Type 0} (test : A → Bool) (xs : List A) (i n : ℕ) → length xs ≤ 69 → n ≡ bits_of test (drop i xs) → Fits w128 (2 * n)
twice_fits test xs i n h e = let l = small_behind test xs i n h e in record { fits = omega (arith, l) }

-- and with a bit
pub with_bit_fits : {A : Type 0} (test : A → Bool) (xs : List A) (i n : ℕ) (b : Bool) → length xs ≤ 69 → n ≡ bits_of test (drop i xs) → Fits w128 (2 * n + bool_byte b)
with_bit_fits test xs i n b h e = room n b (small_behind test xs i n h e)
  where
    room : (n : ℕ) (b : Bool) → n < 2 ^ 69 → Fits w128 (2 * n + bool_byte b)
    room n true l = record { fits = omega (arith, l) }
    room n false l = record { fits = omega (arith, l) }

-- ---- the places of both sets
-- the bits of a member
both_of : {A : Type 0} (s t : A → Bool) (o : Option A) → min (bit_of s o) (bit_of t o) ≡ bit_of (λ x. s x && t x) o
both_of s t None = refl
both_of s t (Some x) = both (s x) (t x)
  where
    both : (b c : Bool) → ◌≡◌ {A = ℕ} (min (cond b 1 0) (cond c 1 0)) (cond (b && c) 1 0)
    both true true = refl
    both true false = refl
    both false true = refl
    both false false = refl

-- the places of the members that pass both tests
pub bits_of_both : {A : Type 0} (s t : A → Bool) (xs : List A) → bit_and (bits_of s xs) (bits_of t xs) ≡ bits_of (λ x. s x && t x) xs
bits_of_both s t xs =
    same_from_bits (bit_and (bits_of s xs) (bits_of t xs)) (bits_of (λ x. s x && t x) xs)
    (λ i. bit_at_and (bits_of s xs) (bits_of t xs) i
    ∙ (λ k. min (bits_of-bit s xs i k) (bits_of-bit t xs i k))
    ∙ both_of s t (slice_get xs i)
    ∙ sym (bits_of-bit (λ x. s x && t x) xs i))

-- no place, where no member passes
pub bits_of_none : {A : Type 0} (xs : List A) → bits_of (λ (x : A). false) xs ≡ 0
bits_of_none [] = refl
bits_of_none (x ∷ xs) = ap (λ (n : ℕ). 2 * n + 0) (bits_of_none xs)

-- ---- searches
module _ {A B : Type 0} (f : A → Option B) (test : A → Bool) (none : (x : A) → test x ≡ false → f x ≡ None) where
  -- a bit that is 0 comes from a member that fails
  fails : (b : Bool) (n : ℕ) → n ≡ cond b 1 0 → n ≡ 0 → b ≡ false
  fails true n e z = absurd (one_not_zero (sym e ∙ z))
    where
      one_not_zero : suc 0 ≡ 0 → ⊥
      one_not_zero e = cc
  fails false n e z = refl

  -- the first member, where its bit is 0
  passed : (x : A) (xs : List A) → bit_at (bits_of test (x ∷ xs)) 0 ≡ 0 → first_of f (x ∷ xs) ≡ first_of f xs
  passed x xs z = λ i. or_else (none x (fails (test x) (bit_at (bits_of test (x ∷ xs)) 0) (first_at test x xs) z) i) (first_of f xs)

  -- members before whose places there is no place of the set are passed over
  pub passed_over : (xs : List A) (from place : ℕ) → from ≤ place → ((i : ℕ) → from ≤ i → i < place → bit_at (bits_of test xs) i ≡ 0) → first_of f (drop from xs) ≡ first_of f (drop place xs)
  passed_over xs zero zero l h = refl
  passed_over [] zero (suc place) l h = refl
  passed_over [] (suc from) zero l h = refl
  passed_over [] (suc from) (suc place) l h = refl
  passed_over (x ∷ xs) zero (suc place) l h =
      passed x xs (h 0 (omega arith) (omega arith))
      ∙ passed_over xs zero place (omega arith) (λ i a b. sym (behind_at test x xs i) ∙ h (suc i) (omega arith) (omega (arith, b)))
  passed_over (x ∷ xs) (suc from) zero l h = absurd (omega (arith, l))
  passed_over (x ∷ xs) (suc from) (suc place) l h =
      passed_over xs from place (omega (arith, l)) (λ i a b. sym (behind_at test x xs i) ∙ h (suc i) (omega (arith, a)) (omega (arith, b)))

  -- where the set has no place from one on, nothing is found from there on
  pub none_left : (xs : List A) (from : ℕ) → ((i : ℕ) → from ≤ i → bit_at (bits_of test xs) i ≡ 0) → first_of f (drop from xs) ≡ None
  none_left [] zero h = refl
  none_left [] (suc from) h = refl
  none_left (x ∷ xs) zero h =
      passed x xs (h 0 (omega arith))
      ∙ none_left xs zero (λ i a. sym (behind_at test x xs i) ∙ h (suc i) (omega arith))
  none_left (x ∷ xs) (suc from) h = none_left xs from (λ i a. sym (behind_at test x xs i) ∙ h (suc i) (omega (arith, a)))

  -- where the set is empty, nothing is found
  pub none_of_empty : (xs : List A) → bits_of test xs ≡ 0 → first_of f xs ≡ None
  none_of_empty xs e = none_left xs 0 (λ i a. ap (λ (n : ℕ). bit_at n i) e ∙ bit_at-zero i)

-- a place of the set is one of the list
pub place_below : {A : Type 0} (test : A → Bool) (xs : List A) (i : ℕ) → bit_at (bits_of test xs) i ≡ 1 → i < length xs
place_below test [] i e = absurd (one_not_zero (sym e ∙ bit_at-zero i))
  where
    one_not_zero : suc 0 ≡ 0 → ⊥
    one_not_zero e = cc
place_below test (x ∷ xs) zero e = omega arith
place_below test (x ∷ xs) (suc i) e = let h = place_below test xs i (sym (behind_at test x xs i) ∙ e) in omega (arith, h)

-- a search from one place of a set to the next, where the search for the lowest place from one on has answered
module _ {A B : Type 0} (f : A → Option B) (test : A → Bool) (none : (x : A) → test x ≡ false → f x ≡ None) (xs : List A) (set : ℕ) (is : set ≡ bits_of test xs) (from : ℕ) where
  -- nothing is left
  pub end_of_walk : HasNoneFrom set from → None ≡ first_of f (drop from xs)
  end_of_walk h = sym (none_left f test none xs from (λ i a. ap (λ (n : ℕ). bit_at n i) (sym is) ∙ h i a))

  module _ (place : ℕ) (l : IsLowestFrom set from place) where
    -- the next place is one of the list
    pub next_below : place < length xs
    next_below = place_below test xs place (sym (ap (λ (n : ℕ). bit_at n place) is) ∙ l.is_in)

    -- fewer are left
    pub fewer_left : length xs - (place + 1) < length xs - from
    fewer_left = let a = l.from_on in let b = next_below in omega (arith, a, b)

    module _ (x : A) (at : x ≡ get_or xs place x) where
      -- it is the next one that is tried
      tried_next : first_of f (drop from xs) ≡ first_of f (x ∷ drop (place + 1) xs)
      tried_next =
          passed_over f test none xs from place l.from_on (λ i a b. ap (λ (n : ℕ). bit_at n i) (sym is) ∙ l.none i a b)
          ∙ ap (first_of f) (drop_item xs place x next_below at)

      -- something is found there
      pub found_next : (y : B) → Some y ≡ f x → Some y ≡ first_of f (drop from xs)
      found_next y e = (λ i. or_else (e i) (first_of f (drop (place + 1) xs))) ∙ sym tried_next

      -- or nothing
      pub not_found_next : None ≡ f x → first_of f (drop (place + 1) xs) ≡ first_of f (drop from xs)
      not_found_next e = (λ i. or_else (e i) (first_of f (drop (place + 1) xs))) ∙ sym tried_next

-- a member with which nothing is found is passed over
pub pairs_behind : {A B : Type 0} (g : A → A → Option B) (x : A) (xs : List A) → first_of (g x) xs ≡ None → first_of_pairs g (x ∷ xs) ≡ first_of_pairs g xs
pairs_behind g x xs e = λ i. or_else (e i) (first_of_pairs g xs)
