-- The places of a cell in another order.
use Rattle.std.proofs.Common.{◌≡◌, ℕ, ◌+◌, ◌-◌, ◌*◌, ◌/◌, ◌%◌, ◌^◌, ◌<◌, ◌≤◌, ◌⊎◌, inl, inr, ⊎_elim, List, [], ◌∷◌, ◌++◌, length, take, sym, ap, ◌∙◌, subst, arith}
use Rattle.std.specs.Prelude.{Option, Some, IfSome, bit_or}
use Rattle.std.specs.Int.{bit_at, w128}
use Rattle.std.specs.List.{Contains, slice_get}
use Rattle.std.proofs.lemmas.Bool.{cases_order}
use Rattle.std.proofs.lemmas.Nat.{shl_whole, one_shl}
use Rattle.std.proofs.lemmas.Nat.Bits.{bit_at-zero, bit_at_ones, bit_at_set_same, bit_at_set_other, bit_at_cat_low, bit_at_cat_high}
use Rattle.rp_algebra.proofs.Options.{same_some}
use Rattle.rp_algebra.proofs.Lists.{take_all}
use Rattle.rp_convex.proofs.Standing.{contains_listed}
use Rattle.rp_space.specs.Places.{IsIn}
use Rattle.rp_clip.specs.Polygons.{Covers, IsRenamed}
use Rattle.rp_clip.proofs.HalfAt.{get_below}
use Rattle.rp_clip.proofs.Lists.{push_cases, push_keeps, push_has, take_more}
use Rattle.rp_space.proofs.Bits.{bit_from}
use Rattle.rp_clip.proofs.Masks.{same_or_not}
use Rattle.rp_clip.proofs.Meetings.{later_here}
use Rattle.rp_clip.proofs.Walks.{IsPast, IsNextFrom, next_here, no_skip, one_not_zero, tried_from}

-- nothing stands in an empty list
pub nothing_in : {A : Type 0} (x : A) → Contains [] x → ⊥
nothing_in x c = elim (contains_listed x [] c) [ ]

-- one more bit of a set
more_bit : (set place i : ℕ) → place < 128 → IsIn (bit_or set (1 * 2 ^ place % 2 ^ 128)) i → (i ≡ place) ⊎ IsIn set i
more_bit set place i l e = ⊎_elim (λ (s : i ≡ place). inl s) (λ (n : i ≡ place → ⊥). inr (sym (bit_at_set_other w128 set place l i n) ∙ e)) (same_or_not i place)

-- the bits of before stay
bit_stays : (set place i : ℕ) → place < 128 → IsIn set i → IsIn (bit_or set (1 * 2 ^ place % 2 ^ 128)) i
bit_stays set place i l e =
    ⊎_elim
    (λ (s : i ≡ place). subst (λ (k : ℕ). IsIn (bit_or set (1 * 2 ^ place % 2 ^ 128)) k) (sym s) (bit_at_set_same w128 set place l))
    (λ (n : i ≡ place → ⊥). bit_at_set_other w128 set place l i n ∙ e)
    (same_or_not i place)

-- ---- whether all places are there

-- the places of a set are those of a list so far, which are below a count
pub record IsSeen (order : List ℕ) (count k seen : ℕ) : Type 0 where
  pub places : (i : ℕ) → IsIn seen i → Contains (take k order) i
  pub below : (i : ℕ) → Contains (take k order) i → i < count

-- at first
pub seen_none : (order : List ℕ) (count : ℕ) → IsSeen order count 0 0
seen_none order count = record {
  places = λ i e. absurd (one_not_zero (bit_at 0 i) e (bit_at-zero i));
  below = λ i c. absurd (nothing_in i c);
}

-- one place further
pub seen_next : (order : List ℕ) (count k seen place : ℕ) → count ≤ 64 → slice_get order k ≡ Some place → place < count → IsSeen order count k seen → IsSeen order count (k + 1) (bit_or seen (1 * 2 ^ place % 2 ^ 128))
seen_next order count k seen place few e l s = record {
  places = λ i b. at_end i (⊎_elim (λ (c : i ≡ place). inr c) (λ (o : IsIn seen i). inl (s.places i o)) (more_bit seen place i low b));
  below = λ i c. ⊎_elim (s.below i) (λ (d : i ≡ place). omega (arith, d, l)) (push_cases (take k order) place i (subst (λ (xs : List ℕ). Contains xs i) (take_more order k place e) c));
}
  where
    low : place < 128
    low = omega (arith, l, few)

    at_end : (i : ℕ) → Contains (take k order) i ⊎ (i ≡ place) → Contains (take (k + 1) order) i
    at_end i (inl c) = subst (λ (xs : List ℕ). Contains xs i) (sym (take_more order k place e)) (push_keeps (take k order) place i c)
    at_end i (inr c) = subst (λ (xs : List ℕ). Contains xs i) (sym (take_more order k place e)) (subst (λ (x : ℕ). Contains (take k order ++ place ∷ []) x) (sym c) (push_has (take k order) place))

-- at the end
pub seen_all : (order : List ℕ) (count k seen : ℕ) → count ≤ 64 → length order ≤ k → seen ≡ 1 * 2 ^ count % 2 ^ 128 - 1 → IsSeen order count k seen → Covers order count
seen_all order count k seen few far e s = record {
  below = λ i c. s.below i (subst (λ (xs : List ℕ). Contains xs i) (sym (take_all order k far)) c);
  all = λ i l. subst (λ (xs : List ℕ). Contains xs i) (take_all order k far) (s.places i (ap (λ (n : ℕ). bit_at n i) (e ∙ ones count few) ∙ bit_at_ones count i l));
}
  where
    ones : (n : ℕ) → n ≤ 64 → 1 * 2 ^ n % 2 ^ 128 - 1 ≡ 2 ^ n - 1
    ones n few = ap (λ m. m - 1) (one_shl n 128 (omega arith))

-- ---- places renamed

-- how far the places of a set are renamed: those that are past, and the cube's
pub record IsRenaming (order : List ℕ) (set renamed : ℕ) (next : Option ℕ) : Type 0 where
  pub here : IfSome next (λ n. (0 ≤ n) × IsIn set n)
  pub cell : (i : ℕ) → i < 64 → IsIn renamed i → (rank : ℕ) × IsIn set rank × (slice_get order rank ≡ Some i)
  pub ranked : (rank i : ℕ) → IsIn set rank → slice_get order rank ≡ Some i → IsPast next rank → IsIn renamed i
  pub cube_from : (i : ℕ) → 64 ≤ i → IsIn renamed i → IsIn set i
  pub cube_to : (i : ℕ) → 64 ≤ i → IsIn set i → IsIn renamed i

-- the places from 64 on, where the others are taken out
high : ℕ → ℕ
high set = set / 2 ^ 64 * 2 ^ 64 % 2 ^ 128

-- as a number above and 0 below
high_is : (set : ℕ) → set < 2 ^ 128 → high set ≡ set / 2 ^ 64 * 2 ^ 64 + 0
unfolding high
high_is set small = shl_whole (set / 2 ^ 64) 64 64 128 (omega (arith, small)) (omega arith) ∙ plus_zero (set / 2 ^ 64 * 2 ^ 64)
  where
    plus_zero : (n : ℕ) → n ≡ n + 0
    plus_zero n = omega arith

-- it has none below
high_low : (set i : ℕ) → set < 2 ^ 128 → i < 64 → bit_at (high set) i ≡ 0
high_low set i small l = ap (λ n. bit_at n i) (high_is set small) ∙ bit_at_cat_low (set / 2 ^ 64) 64 0 i l ∙ bit_at-zero i

-- and the same from there on
high_same : (set i : ℕ) → set < 2 ^ 128 → 64 ≤ i → bit_at (high set) i ≡ bit_at set i
high_same set i small l = ap (λ n. bit_at n i) (high_is set small) ∙ bit_at_cat_high (set / 2 ^ 64) 64 0 i (omega arith) l ∙ sym (bit_from set 64 i l)

-- at first
pub renaming_none : (order : List ℕ) (set : ℕ) (next : Option ℕ) → set < 2 ^ 128 → IsNextFrom set 0 next → IsRenaming order set (set / 2 ^ 64 * 2 ^ 64 % 2 ^ 128) next
unfolding high
renaming_none order set next small k = record {
  here = next_here set 0 next k;
  cell = λ i l e. absurd (one_not_zero (bit_at (high set) i) e (high_low set i small l));
  ranked = λ rank i e o past. absurd (no_skip set 0 next k rank (omega arith) e past);
  cube_from = λ i l e. sym (high_same set i small l) ∙ e;
  cube_to = λ i l e. high_same set i small l ∙ e;
}

-- one place further
pub renaming_next : (order : List ℕ) (set renamed rank place : ℕ) (old next : Option ℕ) → old ≡ Some rank → place < 64 → slice_get order rank ≡ Some place → IsNextFrom set (rank + 1) next
    → IsRenaming order set renamed old → IsRenaming order set (bit_or renamed (1 * 2 ^ place % 2 ^ 128)) next
renaming_next order set renamed rank place old next was l e k s = record {
  here = later_here set 0 rank next k (omega arith);
  cell = λ i low b. ⊎_elim
      (λ (c : i ≡ place). (rank, (tried_from set 0 rank old was s.here).1, e ∙ ap Some (sym c)))
      (λ (o : IsIn renamed i). s.cell i low o)
      (more_bit renamed place i fits b);
  ranked = λ r i b o past. ⊎_elim
      (λ (c : r ≡ rank). subst (λ (j : ℕ). IsIn (bit_or renamed (1 * 2 ^ place % 2 ^ 128)) j) (same_some place i (sym e ∙ ap (slice_get order) (sym c) ∙ o)) (bit_at_set_same w128 renamed place fits))
      (⊎_elim
      (λ (c : r < rank). bit_stays renamed place i fits (s.ranked r i b o (subst (λ (n : Option ℕ). IsPast n r) (sym was) c)))
      (λ (c : rank < r). absurd (no_skip set (rank + 1) next k r (omega (arith, c)) b past)))
      (cases_order r rank);
  cube_from = λ i far b. ⊎_elim (λ (c : i ≡ place). absurd (omega (arith, c, l, far))) (s.cube_from i far) (more_bit renamed place i fits b);
  cube_to = λ i far b. bit_stays renamed place i fits (s.cube_to i far b);
}
  where
    fits : place < 128
    fits = omega (arith, l)

-- at the end, where the places that are left are none of the list
pub renaming_past : (order : List ℕ) (set renamed rank : ℕ) (next : Option ℕ) → next ≡ Some rank → length order ≤ rank → IsRenaming order set renamed next → IsRenamed order set renamed
renaming_past order set renamed rank next e far s = record {
  cell = s.cell;
  ranked = λ r i b o. s.ranked r i b o (subst (λ (n : Option ℕ). IsPast n r) (sym e) (let l = get_below order r i o in omega (arith, l, far)));
  cube_from = s.cube_from;
  cube_to = s.cube_to;
}
