-- The signs of determinants as sets of places, and what they say of refutations.
use Rattle.std.proofs.Common.{◌≡◌, ℕ, zero, suc, ◌+◌, ◌-◌, ◌*◌, ◌/◌, ◌%◌, ◌^◌, ◌<◌, ◌≤◌, ◌⊎◌, inl, inr, ⊎_elim, ℤ, pos, ◌<ℤ◌, ◌≤ℤ◌, Bool, true, false, ◌&&◌, cond, List, [], ◌∷◌, length, drop, get_or, refl, sym, ap, ◌∙◌, arith}
use Rattle.std.specs.Prelude.{None, bit_and}
use Rattle.std.proofs.Math.Nat.{pow-suc, mod-eq_of_lt}
use Rattle.std.proofs.Math.Numerals.{add-one}
use Rattle.std.proofs.Math.Pow.{pow-lt}
use Rattle.std.proofs.lemmas.Int.{ints}
use Rattle.rp_algebra.specs.Integer.{is_zero, is_positive, is_negative}
use Rattle.rp_algebra.proofs.IntLaws.{le_or_lt_ℤ}
use Rattle.rp_algebra.proofs.Tests.{and_true, false_not_true, is_positive_true, is_positive_false, is_negative_true, is_negative_false, is_zero_true, is_zero_false}
use Rattle.rp_geometry.specs.Geometry.{HalfSpace}
use Rattle.rp_geometry.specs.searches.Vertex.{meeting_weight}
use Rattle.rp_geometry.specs.searches.Elimination.{refutation_of_three, refutation_of_four}
use Rattle.rp_space.specs.Places.{bits_of}
use Rattle.rp_elim.specs.declared.placed.Placed.{Placed}
use Rattle.rp_elim.specs.declared.sign_sets.Signs.{Signs}
use Rattle.rp_elim.specs.HeldFast.{three_in_order, four_in_order}
use Rattle.rp_elim.specs.Sides.{CannotRefute}
use Rattle.rp_elim.specs.SignSets.{weight_has, is_flat, signs_of, signs_list, may_be_fourth}
use Rattle.rp_elim.proofs.Dependent.{none_of_three}
use Rattle.rp_elim.proofs.Unfit.{none_of_four}
use Rattle.rp_elim.proofs.Walks.{bits_behind, bit_first, bits_of_both, bits_of_none}

-- ---- the signs of each two of a list
-- there are as many as members
pub signs_length : (k : HalfSpace) (ps : List Placed) → length (signs_list k ps) ≡ length ps
signs_length k [] = refl
signs_length k (p ∷ ps) = ap suc (signs_length k ps)

-- those of what is left of the list
pub signs_behind : (k : HalfSpace) (i : ℕ) (ps : List Placed) → drop i (signs_list k ps) ≡ signs_list k (drop i ps)
signs_behind k zero ps = refl
signs_behind k (suc i) [] = refl
signs_behind k (suc i) (p ∷ ps) = signs_behind k i ps

-- those of a member with the ones behind it
pub signs_at : (k : HalfSpace) (ps : List Placed) (i : ℕ) (p : Placed) (d : Signs) → i < length ps → p ≡ get_or ps i p → get_or (signs_list k ps) i d ≡ signs_of k p.half (drop (i + 1) ps)
signs_at k ps i p d h is = rw add-one (at ps i h is)
  where
    at : (qs : List Placed) (i : ℕ) → i < length qs → p ≡ get_or qs i p → get_or (signs_list k qs) i d ≡ signs_of k p.half (drop (suc i) qs)
    at [] i h is = absurd (omega (arith, h))
    at (q ∷ qs) zero h is = λ j. signs_of k (sym is j).half qs
    at (q ∷ qs) (suc i) h is = at qs i (omega (arith, h)) is

-- ---- the fourth of half-spaces
-- a bit that is 1 comes from a test that passes
passes_of : (b : Bool) (n : ℕ) → n ≡ cond b 1 0 → n ≡ 1 → b ≡ true
passes_of true n e o = refl
passes_of false n e o = absurd (zero_not_one (sym e ∙ o))
  where
    zero_not_one : 0 ≡ suc 0 → ⊥
    zero_not_one e = cc

-- another one from a test that fails
fails_of : (b : Bool) (n : ℕ) → n ≡ cond b 1 0 → (n ≡ 1 → ⊥) → b ≡ false
fails_of true n e o = absurd (o e)
fails_of false n e o = refl

module _ (k p : HalfSpace) (q : Placed) (rs : List Placed) (own next : Signs) (of_own : own ≡ signs_of k p (q ∷ rs)) (of_next : next ≡ signs_of k q.half rs) where
  -- the bits of the first one
  first_above : own.above % 2 ≡ cond (weight_has true k p q) 1 0
  first_above = (λ i. (of_own i).above % 2) ∙ bit_first (weight_has true k p) q rs

  first_below : own.below % 2 ≡ cond (weight_has false k p q) 1 0
  first_below = (λ i. (of_own i).below % 2) ∙ bit_first (weight_has false k p) q rs

  -- what the signs of the first one let pass
  abbrev by_signs : Bool → Bool → Placed → Bool
  by_signs a b r = elim a [ true ↦ weight_has false k p r && weight_has true k q.half r | false ↦ b && (weight_has true k p r && weight_has false k q.half r) ]

  -- it is above 0
  pub fourth_of_above : own.above % 2 ≡ 1 → bit_and (own.below / 2) next.above ≡ bits_of (may_be_fourth k p q.half) rs
  fourth_of_above e =
      (λ i. bit_and ((of_own i).below / 2) (of_next i).above)
      ∙ ap (λ (n : ℕ). bit_and n (bits_of (weight_has true k q.half) rs)) (bits_behind (weight_has false k p) q rs)
      ∙ bits_of_both (weight_has false k p) (weight_has true k q.half) rs
      ∙ sym (λ i. bits_of (by_signs (passes_of (weight_has true k p q) (own.above % 2) first_above e i) (weight_has false k p q)) rs)

  -- it is below 0
  pub fourth_of_below : (own.above % 2 ≡ 1 → ⊥) → own.below % 2 ≡ 1 → bit_and (own.above / 2) next.below ≡ bits_of (may_be_fourth k p q.half) rs
  fourth_of_below n e =
      (λ i. bit_and ((of_own i).above / 2) (of_next i).below)
      ∙ ap (λ (n : ℕ). bit_and n (bits_of (weight_has false k q.half) rs)) (bits_behind (weight_has true k p) q rs)
      ∙ bits_of_both (weight_has true k p) (weight_has false k q.half) rs
      ∙ sym (λ i. bits_of (by_signs (fails_of (weight_has true k p q) (own.above % 2) first_above n i) (passes_of (weight_has false k p q) (own.below % 2) first_below e i)) rs)

  -- it is 0
  pub fourth_of_flat : (own.above % 2 ≡ 1 → ⊥) → (own.below % 2 ≡ 1 → ⊥) → 0 ≡ bits_of (may_be_fourth k p q.half) rs
  fourth_of_flat n e =
      sym (bits_of_none rs)
      ∙ sym (λ i. bits_of (by_signs (fails_of (weight_has true k p q) (own.above % 2) first_above n i) (fails_of (weight_has false k p q) (own.below % 2) first_below e i)) rs)

-- a half-space whose determinants have not the signs does not refute with the others
pub unfit_fourth : (strict : Bool) (k p q : HalfSpace) (r : Placed) → may_be_fourth k p q r ≡ false → CannotRefute strict k p q r.half
unfit_fourth strict k p q r n = record {
  up = λ a b c d e. up d (negative b) (positive c) n;
  down = λ a b c d e. down d (positive b) (negative c) n;
}
  where
    positive : {v : ℤ} → pos 0 <ℤ v → is_positive v ≡ true
    positive {v} l = is_positive_true v l

    negative : {v : ℤ} → v <ℤ pos 0 → is_negative v ≡ true
    negative {v} l = is_negative_true v l

    by_signs : Bool → Bool → Bool
    by_signs a b = elim a [ true ↦ weight_has false k p r && weight_has true k q r | false ↦ b && (weight_has true k p r && weight_has false k q r) ]

    not_above : (v : ℤ) → v <ℤ pos 0 → is_positive v ≡ false
    not_above v l = grind (arith, ints)

    up : meeting_weight k p q <ℤ pos 0 → is_negative (meeting_weight k q r.half) ≡ true → is_positive (meeting_weight k p r.half) ≡ true → may_be_fourth k p q r ≡ false → ⊥
    up d b c n =
        false_not_true (weight_has true k p r && weight_has false k q r) (and_true (weight_has true k p r) (weight_has false k q r) c b)
        (sym (λ i. by_signs (not_above (meeting_weight k p q) d i) (negative d i)) ∙ n)

    down : pos 0 <ℤ meeting_weight k p q → is_positive (meeting_weight k q r.half) ≡ true → is_negative (meeting_weight k p r.half) ≡ true → may_be_fourth k p q r ≡ false → ⊥
    down d b c n =
        false_not_true (weight_has false k p r && weight_has true k q r) (and_true (weight_has false k p r) (weight_has true k q r) c b)
        (sym (λ i. by_signs (positive d i) (is_negative (meeting_weight k p q))) ∙ n)

-- so the four do not refute in any order
pub no_fourth : (strict : Bool) (k : HalfSpace) (p q r : Placed) → may_be_fourth k p.half q.half r ≡ false → four_in_order (refutation_of_four strict) k p q r ≡ None
no_fourth strict k p q r n = none_of_four strict k p q r (unfit_fourth strict k p.half q.half r n)

-- ---- the set of those whose determinant is 0
-- each member is in one of three sets
one_of_three : (v : ℤ) → cond (is_zero v) 1 0 + cond (is_positive v) 1 0 + cond (is_negative v) 1 0 ≡ 1
one_of_three v = ⊎_elim (λ low. ⊎_elim (λ l. below l) (λ z. zero_case z) (cases low)) (λ up. above up) (le_or_lt_ℤ v (pos 0))
  where
    cases : v ≤ℤ pos 0 → (v <ℤ pos 0) ⊎ (v ≡ pos 0)
    cases low = ⊎_elim (λ h. inr (omega (arith, ints, low, h))) (λ h. inl h) (le_or_lt_ℤ (pos 0) v)

    below : v <ℤ pos 0 → cond (is_zero v) 1 0 + cond (is_positive v) 1 0 + cond (is_negative v) 1 0 ≡ 1
    below l = λ i. cond (is_zero_false v (λ z. omega (arith, ints, l, z)) i) 1 0 + cond (is_positive_false v (omega (arith, ints, l)) i) 1 0 + cond (is_negative_true v l i) 1 0

    zero_case : v ≡ pos 0 → cond (is_zero v) 1 0 + cond (is_positive v) 1 0 + cond (is_negative v) 1 0 ≡ 1
    zero_case z = λ i. cond (is_zero (z i)) 1 0 + cond (is_positive (z i)) 1 0 + cond (is_negative (z i)) 1 0

    above : pos 0 <ℤ v → cond (is_zero v) 1 0 + cond (is_positive v) 1 0 + cond (is_negative v) 1 0 ≡ 1
    above l = λ i. cond (is_zero_false v (λ z. omega (arith, ints, l, z)) i) 1 0 + cond (is_positive_true v l i) 1 0 + cond (is_negative_false v (omega (arith, ints, l)) i) 1 0

-- so the three sets are the whole list
pub three_sets : (f g : HalfSpace) (qs : List Placed) → bits_of (is_flat f g) qs + bits_of (weight_has true f g) qs + bits_of (weight_has false f g) qs + 1 ≡ 2 ^ length qs
three_sets f g [] = refl
three_sets f g (q ∷ qs) =
    let one = one_of_three (meeting_weight f g q.half) in
    let rest = three_sets f g qs in
    rw pow-suc (sum (bits_of (is_flat f g) qs) (bits_of (weight_has true f g) qs) (bits_of (weight_has false f g) qs)
    (cond (is_flat f g q) 1 0) (cond (weight_has true f g q) 1 0) (cond (weight_has false f g q) 1 0) (2 ^ length qs) one rest)
  where
    sum : (x y z a b c m : ℕ) → a + b + c ≡ 1 → x + y + z + 1 ≡ m → 2 * x + a + (2 * y + b) + (2 * z + c) + 1 ≡ m * 2
    sum x y z a b c m one rest = omega (arith, one, rest)

-- one that is not in it does not refute with the two others
pub no_third : (strict : Bool) (k : HalfSpace) (p q : Placed) → is_flat k p.half q ≡ false → three_in_order (refutation_of_three strict) k p q ≡ None
no_third strict k p q n = none_of_three strict k p q (λ z. false_not_true (is_flat k p.half q) (is_zero_true (meeting_weight k p.half q.half) z) n)

-- the set of those is what two sets leave of the whole list
pub record IsRest (m above below flat : ℕ) : Type 0 where
  pub first : above ≤ m
  pub second : below ≤ m - above
  pub rest : m - above - below ≡ flat

pub flat_rest : (f g : HalfSpace) (qs : List Placed) (s : Signs) → length qs ≤ 69 → s ≡ signs_of f g qs → IsRest (1 * 2 ^ length qs % 2 ^ 128 - 1) s.above s.below (bits_of (is_flat f g) qs)
flat_rest f g qs s h e =
    rw (mod-eq_of_lt (small h)) (rest (2 ^ length qs) (bits_of (is_flat f g) qs) s.above s.below (ap (λ (n : ℕ). bits_of (is_flat f g) qs + n + s.below + 1) (λ i. (e i).above) ∙ ap (λ (n : ℕ). bits_of (is_flat f g) qs + bits_of (weight_has true f g) qs + n + 1) (λ i. (e i).below) ∙ three_sets f g qs))
  where
    small : length qs ≤ 69 → 1 * 2 ^ length qs < 2 ^ 128
    small h = let l = pow-lt {i = length qs} {j = 128} (omega (arith, h)) in omega (arith, l)

    rest : (m x y z : ℕ) → x + y + z + 1 ≡ m → IsRest (1 * m - 1) y z x
    rest m x y z e = record { first = omega (arith, e); second = omega (arith, e); rest = omega (arith, e) }
