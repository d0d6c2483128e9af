-- What the places of the planes through a point are.
use Rattle.std.proofs.Common.{◌≡◌, ℕ, suc, ◌-◌, ◌*◌, ◌%◌, ◌^◌, ◌<◌, ◌≤◌, ◌⊎◌, inl, inr, ⊎_elim, Bool, true, false, cond, pos, List, [], ◌∷◌, ◌++◌, length, refl, sym, ap, ◌∙◌, subst, arith, length-append}
use Rattle.std.specs.Prelude.{Option, Some, None, min, bit_and, bit_or}
use Rattle.std.specs.Int.{bit_at, w128}
use Rattle.std.specs.List.{slice_get}
use Rattle.std.proofs.lemmas.Bool.{cases_lt, cases_order}
use Rattle.std.proofs.lemmas.Nat.Bits.{bit_at_cat_low, bit_at_cat_high, bit_at-lt, bit_at_and, same_from_bits, bit_at_set_same, bit_at_set_other}
use Rattle.rp_algebra.proofs.Tests.{zero_is, is_zero_true, is_zero_false}
use Rattle.rp_geometry.specs.Geometry.{RationalPoint, HalfSpace, side_value, cube_half_spaces}
use Rattle.rp_space.specs.Places.{bits_of, IsIn}
use Rattle.rp_space.proofs.Bits.{bit_of, bits_of-bit, bits_of-small}
use Rattle.rp_clip.specs.Masks.{half_at, is_through, mask_of}
use Rattle.rp_clip.proofs.HalfAt.{at_cell, at_cube}
use Rattle.rp_clip.proofs.Lists.{get_end, get_other}

-- the bit of a place is that of its half-space
pub mask_bit : (cell : List HalfSpace) (p : RationalPoint) (i : ℕ) → length cell ≤ 64 → bit_at (mask_of cell p) i ≡ bit_of (is_through p) (half_at cell i)
unfolding mask_of
mask_bit cell p i h =
    ⊎_elim
    (λ (l : i < 64). bit_at_cat_low high 64 low i l ∙ bits_of-bit (is_through p) cell i ∙ ap (bit_of (is_through p)) (sym (at_cell cell i l)))
    (λ (l : 64 ≤ i). bit_at_cat_high high 64 low i (bits_of-small (is_through p) cell 64 h) l ∙ bits_of-bit (is_through p) cube_half_spaces (i - 64) ∙ ap (bit_of (is_through p)) (sym (at_cube cell i l)))
    (cases_lt i 64)
  where
    high : ℕ
    high = bits_of (is_through p) cube_half_spaces

    low : ℕ
    low = bits_of (is_through p) cell

-- ---- what it says

-- the half-space at a place of the mask passes through the point
pub record IsThroughAt (cell : List HalfSpace) (p : RationalPoint) (i : ℕ) : Type 0 where
  pub half : HalfSpace
  pub at : half_at cell i ≡ Some half
  pub on : side_value half p ≡ pos 0

-- 0 is not 1
pub zero_not_one : 0 ≡ suc 0 → ⊥
zero_not_one e = cc

-- a bit that is 1 comes from a half-space that passes
bit_one : (test : HalfSpace → Bool) (o : Option HalfSpace) → bit_of test o ≡ 1 → (h : HalfSpace) × (o ≡ Some h) × (test h ≡ true)
bit_one test None e = absurd (zero_not_one e)
bit_one test (Some h) e = (h, refl, is_one (test h) e)
  where
    is_one : (b : Bool) → ◌≡◌ {A = ℕ} (cond b 1 0) 1 → b ≡ true
    is_one true e = refl
    is_one false e = absurd (zero_not_one e)

-- a place of the mask has a half-space, whose plane passes through the point
pub in_mask : (cell : List HalfSpace) (p : RationalPoint) (i : ℕ) → length cell ≤ 64 → IsIn (mask_of cell p) i → IsThroughAt cell p i
in_mask cell p i h e =
    let k = bit_one (is_through p) (half_at cell i) (sym (mask_bit cell p i h) ∙ e) in
    record { half = k.0; at = k.1; on = zero_is (side_value k.0 p) k.2 }

-- a half-space whose plane passes through the point has its place in the mask
pub mask_in : (cell : List HalfSpace) (p : RationalPoint) (i : ℕ) (h : HalfSpace) → length cell ≤ 64 → half_at cell i ≡ Some h → side_value h p ≡ pos 0 → IsIn (mask_of cell p) i
mask_in cell p i h l e z = mask_bit cell p i l ∙ ap (bit_of (is_through p)) e ∙ ap (λ (b : Bool). cond b 1 0) (is_zero_true (side_value h p) z)

-- ---- places that two sets share

-- the smaller of two bits
smaller_one : (a b : ℕ) → a < 2 → b < 2 → min a b ≡ 1 → (a ≡ 1) × (b ≡ 1)
smaller_one a b h k e = (omega (arith, h, k, e), omega (arith, h, k, e))

-- a place of both sets
pub in_both : (a b i : ℕ) → IsIn (bit_and a b) i → IsIn a i × IsIn b i
in_both a b i e = smaller_one (bit_at a i) (bit_at b i) (bit_at-lt a i) (bit_at-lt b i) (sym (bit_at_and a b i) ∙ e)

-- a place that is in both
pub both_in : (a b i : ℕ) → IsIn a i → IsIn b i → IsIn (bit_and a b) i
both_in a b i e f = bit_at_and a b i ∙ (λ k. min (e k) (f k))

-- ---- one half-space more

-- two numbers are the same or not
pub same_or_not : (m n : ℕ) → (m ≡ n) ⊎ (m ≡ n → ⊥)
same_or_not m n =
    ⊎_elim inl (λ k. inr (⊎_elim (λ (l : m < n) (e : m ≡ n). below l e) (λ (l : n < m) (e : m ≡ n). above l e) k)) (cases_order m n)
  where
    below : m < n → m ≡ n → ⊥
    below l e = omega (arith, l, e)

    above : n < m → m ≡ n → ⊥
    above l e = omega (arith, l, e)

-- the place of the new half-space
at_new : (cell : List HalfSpace) (h : HalfSpace) → length cell < 64 → half_at (cell ++ h ∷ []) (length cell) ≡ Some h
at_new cell h l = at_cell (cell ++ h ∷ []) (length cell) l ∙ get_end cell h

-- the other places are as before
at_old : (cell : List HalfSpace) (h : HalfSpace) (i : ℕ) → (i ≡ length cell → ⊥) → half_at (cell ++ h ∷ []) i ≡ half_at cell i
at_old cell h i n =
    ⊎_elim
    (λ (l : i < 64). at_cell (cell ++ h ∷ []) i l ∙ get_other cell h i n ∙ sym (at_cell cell i l))
    (λ (l : 64 ≤ i). at_cube (cell ++ h ∷ []) i l ∙ sym (at_cube cell i l))
    (cases_lt i 64)

-- a cell with one more has at most 64
pub one_longer : (cell : List HalfSpace) (h : HalfSpace) → length cell < 64 → length (cell ++ h ∷ []) ≤ 64
one_longer cell h l = omega (arith, l, length-append cell (h ∷ []))

-- the bit of the new place
new_bit : (cell : List HalfSpace) (h : HalfSpace) (p : RationalPoint) → length cell < 64 → bit_at (mask_of (cell ++ h ∷ []) p) (length cell) ≡ cond (is_through p h) 1 0
new_bit cell h p l = mask_bit (cell ++ h ∷ []) p (length cell) (one_longer cell h l) ∙ ap (bit_of (is_through p)) (at_new cell h l)

-- the bits of the other places
pub old_bit : (cell : List HalfSpace) (h : HalfSpace) (p : RationalPoint) (i : ℕ) → length cell < 64 → (i ≡ length cell → ⊥) → bit_at (mask_of (cell ++ h ∷ []) p) i ≡ bit_of (is_through p) (half_at cell i)
old_bit cell h p i l n = mask_bit (cell ++ h ∷ []) p i (one_longer cell h l) ∙ ap (bit_of (is_through p)) (at_old cell h i n)

-- a place of no half-space has no bit
no_bit : (cell : List HalfSpace) (p : RationalPoint) → length cell < 64 → bit_at (mask_of cell p) (length cell) ≡ 0
no_bit cell p l = mask_bit cell p (length cell) (omega (arith, l)) ∙ ap (bit_of (is_through p)) (at_cell cell (length cell) l ∙ get_none cell)
  where
    get_none : {A : Type 0} (xs : List A) → slice_get xs (length xs) ≡ None
    get_none [] = refl
    get_none (x ∷ xs) = get_none xs

-- where the new half-space is not 0, the mask stays
pub mask_stays : (cell : List HalfSpace) (h : HalfSpace) (p : RationalPoint) → length cell < 64 → (side_value h p ≡ pos 0 → ⊥) → mask_of (cell ++ h ∷ []) p ≡ mask_of cell p
mask_stays cell h p l n = same_from_bits (mask_of (cell ++ h ∷ []) p) (mask_of cell p) (λ i.
    ⊎_elim
    (λ (e : i ≡ length cell). subst (λ (k : ℕ). bit_at (mask_of (cell ++ h ∷ []) p) k ≡ bit_at (mask_of cell p) k) (sym e)
    (new_bit cell h p l ∙ ap (λ (b : Bool). cond b 1 0) (is_zero_false (side_value h p) n) ∙ sym (no_bit cell p l)))
    (λ (k : i ≡ length cell → ⊥). old_bit cell h p i l k ∙ sym (mask_bit cell p i (omega (arith, l))))
    (same_or_not i (length cell)))

-- the place of the new half-space as a bit
abbrev pub new_place : List HalfSpace → ℕ
new_place cell = 1 * 2 ^ length cell % 2 ^ 128

-- a set with the new place, where the other bits are those of the mask
pub mask_with : (cell : List HalfSpace) (h : HalfSpace) (p : RationalPoint) (set : ℕ) → length cell < 64 → side_value h p ≡ pos 0
    → ((i : ℕ) → (i ≡ length cell → ⊥) → bit_at set i ≡ bit_of (is_through p) (half_at cell i)) → mask_of (cell ++ h ∷ []) p ≡ bit_or set (new_place cell)
mask_with cell h p set l z each = same_from_bits (mask_of (cell ++ h ∷ []) p) (bit_or set (new_place cell)) (λ i.
    ⊎_elim
    (λ (e : i ≡ length cell). subst (λ (k : ℕ). bit_at (mask_of (cell ++ h ∷ []) p) k ≡ bit_at (bit_or set (new_place cell)) k) (sym e)
    (new_bit cell h p l ∙ ap (λ (b : Bool). cond b 1 0) (is_zero_true (side_value h p) z) ∙ sym (bit_at_set_same w128 set (length cell) (omega (arith, l)))))
    (λ (k : i ≡ length cell → ⊥). old_bit cell h p i l k ∙ sym (each i k) ∙ sym (bit_at_set_other w128 set (length cell) (omega (arith, l)) i k))
    (same_or_not i (length cell)))

-- where the new half-space is 0, the mask has its place
pub mask_grows : (cell : List HalfSpace) (h : HalfSpace) (p : RationalPoint) → length cell < 64 → side_value h p ≡ pos 0 → mask_of (cell ++ h ∷ []) p ≡ bit_or (mask_of cell p) (new_place cell)
mask_grows cell h p l z = mask_with cell h p (mask_of cell p) l z (λ i n. mask_bit cell p i (omega (arith, l)))
