-- Four half-spaces, one of them held fast: where the minors are of no one sign, or do not contradict, they do not refute in any order.
use Rattle.std.proofs.Common.{◌≡◌, ℤ, pos, neg_ℤ, ◌+ℤ◌, ◌-ℤ◌, ◌*ℤ◌, ◌<ℤ◌, Bool, true, false, ◌&&◌, not, List, [], ◌∷◌, None, refl, sym, ap, ◌∙◌, arith}
use Rattle.std.proofs.lemmas.Int.{ints}
use Rattle.rp_algebra.specs.Integer.{is_positive, is_negative}
use Rattle.rp_algebra.proofs.Options.{or_else}
use Rattle.rp_algebra.proofs.Reify.{by_ring_at, reify}
use Rattle.rp_algebra.proofs.Tests.{and_first, and_second, and_true, false_not_true, positive_is, is_positive_true, negative_is, is_negative_true}
use Rattle.rp_geometry.specs.Geometry.{HalfSpace}
use Rattle.rp_geometry.specs.searches.Certificate.{Multiple, weighted_sum, is_contradiction}
use Rattle.rp_geometry.specs.searches.Search.{first_of}
use Rattle.rp_geometry.specs.searches.Vertex.{meeting_weight}
use Rattle.rp_geometry.specs.searches.Elimination.{multiple_of, negated_terms, refutation_of_four}
use Rattle.rp_geometry.proofs.Weights.{weight_exchanged, weight_turned}
use Rattle.rp_elim.specs.declared.placed.Placed.{Placed}
use Rattle.rp_elim.specs.Sides.{has_sign, signed, contradicts, four_offsets, offset_of_four, CannotRefute}
use Rattle.rp_elim.specs.HeldFast.{two_in_order, three_in_order, four_in_order}
use Rattle.rp_elim.proofs.Signs.{unfit_refutation}

-- ---- three causes
-- the last minor is 0
pub unfit_zero : (strict : Bool) (e f g h : HalfSpace) → meeting_weight e f g ≡ pos 0 → CannotRefute strict e f g h
unfit_zero strict e f g h z = record { up = λ a b c d k. omega (arith, ints, d, z); down = λ a b c d k. omega (arith, ints, d, z) }

-- a number that has a sign
above_is : (v : ℤ) → has_sign true v ≡ true → pos 0 <ℤ v
above_is v e = positive_is v e

-- or the other
below_is : (v : ℤ) → has_sign false v ≡ true → v <ℤ pos 0
below_is v e = negative_is v e

-- the third one has not the sign of the last one
pub unfit_third : (strict s : Bool) (e f g h : HalfSpace) → has_sign s (neg_ℤ (meeting_weight e f g)) ≡ true → has_sign s (meeting_weight e f h) ≡ false → CannotRefute strict e f g h
unfit_third strict true e f g h last n =
    let z = meeting_weight e f h in
    record {
      up = λ a b c d k. false_not_true (is_positive z) (is_positive_true z c) n;
      down = λ a b c d k. (let l = above_is (neg_ℤ (meeting_weight e f g)) last in omega (arith, ints, l, d));
    }
unfit_third strict false e f g h last n =
    let z = meeting_weight e f h in
    record {
      up = λ a b c d k. (let l = below_is (neg_ℤ (meeting_weight e f g)) last in omega (arith, ints, l, d));
      down = λ a b c d k. false_not_true (is_negative z) (is_negative_true z c) n;
    }

-- one of the first two has not the sign of the last one
pub unfit_signs : (strict s : Bool) (e f g h : HalfSpace) → has_sign s (neg_ℤ (meeting_weight e f g)) ≡ true
    → (has_sign (not s) (meeting_weight e g h) && has_sign s (meeting_weight f g h)) ≡ false → CannotRefute strict e f g h
unfit_signs strict true e f g h last n =
    let x = meeting_weight f g h in
    let y = meeting_weight e g h in
    record {
      up = λ a b c d k. false_not_true (is_negative y && is_positive x) (and_true (is_negative y) (is_positive x) (is_negative_true y b) (is_positive_true x a)) n;
      down = λ a b c d k. (let l = above_is (neg_ℤ (meeting_weight e f g)) last in omega (arith, ints, l, d));
    }
unfit_signs strict false e f g h last n =
    let x = meeting_weight f g h in
    let y = meeting_weight e g h in
    record {
      up = λ a b c d k. (let l = below_is (neg_ℤ (meeting_weight e f g)) last in omega (arith, ints, l, d));
      down = λ a b c d k. false_not_true (is_positive y && is_negative x) (and_true (is_positive y) (is_negative x) (is_positive_true y b) (is_negative_true x a)) n;
    }

-- the first one has not the sign of the last one
pub unfit_first : (strict s : Bool) (e f g h : HalfSpace) → has_sign s (neg_ℤ (meeting_weight e f g)) ≡ true → has_sign s (meeting_weight f g h) ≡ false → CannotRefute strict e f g h
unfit_first strict s e f g h last n = unfit_signs strict s e f g h last (ap (λ b. has_sign (not s) (meeting_weight e g h) && b) n ∙ and_false (has_sign (not s) (meeting_weight e g h)))
  where
    and_false : (b : Bool) → (b && false) ≡ false
    and_false true = refl
    and_false false = refl

-- the offsets do not contradict, with the sign of the last one
pub unfit_offsets : (strict s : Bool) (e f g h : HalfSpace) → has_sign s (neg_ℤ (meeting_weight e f g)) ≡ true
    → contradicts strict (signed s (offset_of_four e f g h)) ≡ false → CannotRefute strict e f g h
unfit_offsets strict true e f g h last n = record {
  up = λ a b c d k. false_not_true (contradicts strict (offset_of_four e f g h)) k n;
  down = λ a b c d k. (let l = above_is (neg_ℤ (meeting_weight e f g)) last in omega (arith, ints, l, d));
}
unfit_offsets strict false e f g h last n = record {
  up = λ a b c d k. (let l = below_is (neg_ℤ (meeting_weight e f g)) last in omega (arith, ints, l, d));
  down = λ a b c d k. false_not_true (contradicts strict (neg_ℤ (offset_of_four e f g h))) k n;
}

-- ---- sums of offsets
-- terms contradict where their sum does
by_sum : (strict : Bool) (ts : List Multiple) → is_contradiction strict ts ≡ contradicts strict (weighted_sum (λ h. h.d) ts)
by_sum true ts = refl
by_sum false ts = refl

-- the sum of four terms
four_terms : (x y z w a b c d : ℤ) → x *ℤ a +ℤ (neg_ℤ y *ℤ b +ℤ (z *ℤ c +ℤ (neg_ℤ w *ℤ d +ℤ pos 0))) ≡ x *ℤ a -ℤ y *ℤ b +ℤ z *ℤ c -ℤ w *ℤ d
four_terms x y z w a b c d = by_ring_at (x ∷ y ∷ z ∷ w ∷ a ∷ b ∷ c ∷ d ∷ []) (search reify depth 40 fits 100000) tt

-- the sum of their negatives
four_opposite : (x y z w a b c d : ℤ) → neg_ℤ x *ℤ a +ℤ (neg_ℤ (neg_ℤ y) *ℤ b +ℤ (neg_ℤ z *ℤ c +ℤ (neg_ℤ (neg_ℤ w) *ℤ d +ℤ pos 0))) ≡ neg_ℤ (x *ℤ a -ℤ y *ℤ b +ℤ z *ℤ c -ℤ w *ℤ d)
four_opposite x y z w a b c d = by_ring_at (x ∷ y ∷ z ∷ w ∷ a ∷ b ∷ c ∷ d ∷ []) (search reify depth 40 fits 100000) tt

-- the first one put second
put_second : (x y z w a b c d : ℤ) → y *ℤ b -ℤ x *ℤ a +ℤ neg_ℤ z *ℤ c -ℤ neg_ℤ w *ℤ d ≡ neg_ℤ (x *ℤ a -ℤ y *ℤ b +ℤ z *ℤ c -ℤ w *ℤ d)
put_second x y z w a b c d = by_ring_at (x ∷ y ∷ z ∷ w ∷ a ∷ b ∷ c ∷ d ∷ []) (search reify depth 40 fits 100000) tt

-- put third
put_third : (x y z w a b c d : ℤ) → neg_ℤ y *ℤ b -ℤ neg_ℤ z *ℤ c +ℤ x *ℤ a -ℤ w *ℤ d ≡ x *ℤ a -ℤ y *ℤ b +ℤ z *ℤ c -ℤ w *ℤ d
put_third x y z w a b c d = by_ring_at (x ∷ y ∷ z ∷ w ∷ a ∷ b ∷ c ∷ d ∷ []) (search reify depth 40 fits 100000) tt

-- put last
put_last : (x y z w a b c d : ℤ) → y *ℤ b -ℤ z *ℤ c +ℤ w *ℤ d -ℤ x *ℤ a ≡ neg_ℤ (x *ℤ a -ℤ y *ℤ b +ℤ z *ℤ c -ℤ w *ℤ d)
put_last x y z w a b c d = by_ring_at (x ∷ y ∷ z ∷ w ∷ a ∷ b ∷ c ∷ d ∷ []) (search reify depth 40 fits 100000) tt

-- the negative of a negative
twice_opposite : (s t : ℤ) → t ≡ neg_ℤ s → neg_ℤ t ≡ s
twice_opposite s t e = omega (arith, ints, e)

-- ---- the refutation
-- four numbers above 0
record AreAbove (x y z w : ℤ) : Type 0 where
  first : pos 0 <ℤ x
  second : pos 0 <ℤ y
  third : pos 0 <ℤ z
  fourth : pos 0 <ℤ w

-- numbers that pass the test of a refutation's factors
are_above : (x y z w : ℤ) → (is_positive x && (is_positive y && (is_positive z && (is_positive w && true)))) ≡ true → AreAbove x y z w
are_above x y z w e =
    let yzw = is_positive y && (is_positive z && (is_positive w && true)) in
    let zw = is_positive z && (is_positive w && true) in
    let f = and_second (is_positive x) yzw e in
    let g = and_second (is_positive y) zw f in
    let h = and_second (is_positive z) (is_positive w && true) g in
    record {
      first = positive_is x (and_first (is_positive x) yzw e);
      second = positive_is y (and_first (is_positive y) zw f);
      third = positive_is z (and_first (is_positive z) (is_positive w && true) g);
      fourth = positive_is w (and_first (is_positive w) true h);
    }

-- four half-spaces do not refute where they do not contradict with minors that are all above 0, nor with such that are all below 0
four_unfit : (strict : Bool) (e f g h : HalfSpace)
    → (AreAbove (meeting_weight f g h) (neg_ℤ (meeting_weight e g h)) (meeting_weight e f h) (neg_ℤ (meeting_weight e f g)) → contradicts strict (offset_of_four e f g h) ≡ true → ⊥)
    → (AreAbove (neg_ℤ (meeting_weight f g h)) (neg_ℤ (neg_ℤ (meeting_weight e g h))) (neg_ℤ (meeting_weight e f h)) (neg_ℤ (neg_ℤ (meeting_weight e f g))) → contradicts strict (neg_ℤ (offset_of_four e f g h)) ≡ true → ⊥)
    → refutation_of_four strict e f g h ≡ None
unfolding refutation_of_four
four_unfit strict e f g h up down =
    let x = meeting_weight f g h in
    let y = meeting_weight e g h in
    let z = meeting_weight e f h in
    let w = meeting_weight e f g in
    let ts = multiple_of x e ∷ multiple_of (neg_ℤ y) f ∷ multiple_of z g ∷ multiple_of (neg_ℤ w) h ∷ [] in
    let sum = by_sum strict ts ∙ ap (contradicts strict) (four_terms x y z w e.d f.d g.d h.d) in
    let opposite = by_sum strict (negated_terms ts) ∙ ap (contradicts strict) (four_opposite x y z w e.d f.d g.d h.d) in
    unfit_refutation strict (multiple_of x e) (multiple_of (neg_ℤ y) f ∷ multiple_of z g ∷ multiple_of (neg_ℤ w) h ∷ [])
    (λ p c. up (are_above x (neg_ℤ y) z (neg_ℤ w) p) (sym sum ∙ c))
    (λ p c. down (are_above (neg_ℤ x) (neg_ℤ (neg_ℤ y)) (neg_ℤ z) (neg_ℤ (neg_ℤ w)) p) (sym opposite ∙ c))

module _ (strict : Bool) (k p q r : HalfSpace) (u : CannotRefute strict k p q r) where
  -- with k first
  pub k_first : refutation_of_four strict k p q r ≡ None
  k_first =
      four_unfit strict k p q r
      (λ a c. u.up a.first (omega (arith, ints, a.second)) a.third (omega (arith, ints, a.fourth)) c)
      (λ a c. u.down (omega (arith, ints, a.first)) (omega (arith, ints, a.second)) (omega (arith, ints, a.third)) (omega (arith, ints, a.fourth)) c)

  -- with k second
  k_second : refutation_of_four strict p k q r ≡ None
  k_second =
      let z = weight_exchanged k p r in
      let w = weight_exchanged k p q in
      let sum = (λ i. four_offsets (meeting_weight k q r) (meeting_weight p q r) (z i) (w i) p k q r) ∙ put_second (meeting_weight p q r) (meeting_weight k q r) (meeting_weight k p r) (meeting_weight k p q) k.d p.d q.d r.d in
      let opposite = twice_opposite (offset_of_four k p q r) (offset_of_four p k q r) sum in
      four_unfit strict p k q r
      (λ a c. u.down (omega (arith, ints, a.second)) a.first (omega (arith, ints, a.third, z)) (omega (arith, ints, a.fourth, w)) (sym (ap (contradicts strict) sum) ∙ c))
      (λ a c. u.up (omega (arith, ints, a.second)) (omega (arith, ints, a.first)) (omega (arith, ints, a.third, z)) (omega (arith, ints, a.fourth, w)) (sym (ap (contradicts strict) opposite) ∙ c))

  -- with k third
  k_third : refutation_of_four strict p q k r ≡ None
  k_third =
      let y = weight_exchanged k q r in
      let z = weight_exchanged k p r in
      let w = weight_turned k p q in
      let sum = (λ i. four_offsets (y i) (z i) (meeting_weight p q r) (w i) p q k r) ∙ put_third (meeting_weight p q r) (meeting_weight k q r) (meeting_weight k p r) (meeting_weight k p q) k.d p.d q.d r.d in
      four_unfit strict p q k r
      (λ a c. u.up a.third (omega (arith, ints, a.first, y)) (omega (arith, ints, a.second, z)) (omega (arith, ints, a.fourth, w)) (sym (ap (contradicts strict) sum) ∙ c))
      (λ a c. u.down (omega (arith, ints, a.third)) (omega (arith, ints, a.first, y)) (omega (arith, ints, a.second, z)) (omega (arith, ints, a.fourth, w)) (sym (ap (λ v. contradicts strict (neg_ℤ v)) sum) ∙ c))

  -- with k last
  k_last : refutation_of_four strict p q r k ≡ None
  k_last =
      let y = weight_turned k q r in
      let z = weight_turned k p r in
      let w = weight_turned k p q in
      let sum = (λ i. four_offsets (y i) (z i) (w i) (meeting_weight p q r) p q r k) ∙ put_last (meeting_weight p q r) (meeting_weight k q r) (meeting_weight k p r) (meeting_weight k p q) k.d p.d q.d r.d in
      let opposite = twice_opposite (offset_of_four k p q r) (offset_of_four p q r k) sum in
      four_unfit strict p q r k
      (λ a c. u.down (omega (arith, ints, a.fourth)) (omega (arith, ints, a.first, y)) (omega (arith, ints, a.second, z)) (omega (arith, ints, a.third, w)) (sym (ap (contradicts strict) sum) ∙ c))
      (λ a c. u.up (omega (arith, ints, a.fourth)) (omega (arith, ints, a.first, y)) (omega (arith, ints, a.second, z)) (omega (arith, ints, a.third, w)) (sym (ap (contradicts strict) opposite) ∙ c))

-- they do not refute in any order
pub none_of_four : (strict : Bool) (k : HalfSpace) (p q r : Placed) → CannotRefute strict k p.half q.half r.half
    → four_in_order (refutation_of_four strict) k p q r ≡ None
none_of_four strict k p q r u =
    elim (p.before) as (λ b. elim b [ true ↦ three_in_order (refutation_of_four strict p.half) k q r | false ↦ refutation_of_four strict k p.half q.half r.half ] ≡ None) [
      | true ↦ elim (q.before) as (λ b. elim b [ true ↦ two_in_order (refutation_of_four strict p.half q.half) k r | false ↦ refutation_of_four strict p.half k q.half r.half ] ≡ None) [
        | true ↦ elim (r.before) as (λ b. elim b [ true ↦ refutation_of_four strict p.half q.half r.half k | false ↦ refutation_of_four strict p.half q.half k r.half ] ≡ None) [
          | true ↦ k_last strict k p.half q.half r.half u
          | false ↦ k_third strict k p.half q.half r.half u
        ]
        | false ↦ k_second strict k p.half q.half r.half u
      ]
      | false ↦ k_first strict k p.half q.half r.half u
    ]

-- where the determinant of three is 0, no further half-space helps
pub none_with_plane : (strict : Bool) (k : HalfSpace) (p q : Placed) → meeting_weight k p.half q.half ≡ pos 0 → (rs : List Placed) → first_of (four_in_order (refutation_of_four strict) k p q) rs ≡ None
none_with_plane strict k p q d [] = refl
none_with_plane strict k p q d (r ∷ rs) =
    (λ i. or_else (none_of_four strict k p q r (unfit_zero strict k p.half q.half r.half d) i) (first_of (four_in_order (refutation_of_four strict) k p q) rs))
    ∙ none_with_plane strict k p q d rs

-- the same of half-spaces in their order
pub none_with_dependent : (strict : Bool) (e f g : HalfSpace) → meeting_weight e f g ≡ pos 0 → (hs : List HalfSpace) → first_of (refutation_of_four strict e f g) hs ≡ None
none_with_dependent strict e f g d [] = refl
none_with_dependent strict e f g d (h ∷ hs) =
    (λ i. or_else (k_first strict e f g h (unfit_zero strict e f g h d) i) (first_of (refutation_of_four strict e f g) hs))
    ∙ none_with_dependent strict e f g d hs
