-- Half-spaces whose coefficients are not opposed, or not mixed, on each axis do not refute.
use Rattle.std.proofs.Common.{◌≡◌, ℤ, pos, ◌+ℤ◌, ◌*ℤ◌, ◌≤ℤ◌, ◌<ℤ◌, Bool, true, false, ◌&&◌, ◌||◌, List, [], ◌∷◌, None, ⊎_elim, refl, sym, ap, ◌∙◌, arith}
use Rattle.std.specs.List.{list_all}
use Rattle.std.proofs.lemmas.Int.{ints}
use Rattle.std.proofs.Math.IntN.{*ℤ-zero}
use Rattle.rp_algebra.specs.Integer.{is_zero, is_positive, is_negative}
use Rattle.rp_algebra.proofs.IntLaws.{trichotomy_ℤ, le_or_lt_ℤ, mul_nonneg_ℤ, mul_le_mul_left_ℤ, mul_lt_mul_left_ℤ, lt_of_mul_lt_left_ℤ, cancel_mul_left_ℤ, nonneg_of_pos_ℤ}
use Rattle.rp_algebra.proofs.Tests.{and_first, and_second, and_true, false_not_true, positive_is, is_positive_true, not_positive_is, is_negative_true, is_zero_true}
use Rattle.rp_algebra.proofs.Listed.{list_all_is}
use Rattle.rp_geometry.specs.Geometry.{HalfSpace}
use Rattle.rp_geometry.specs.searches.Certificate.{Multiple, is_balanced, is_contradiction}
use Rattle.rp_geometry.specs.searches.Elimination.{half_spaces_of, minors_of_two, minors_of_three, normal_terms, is_refutation, refutation_of_two, refutation_of_three}
use Rattle.rp_convex.proofs.LowestMultiples.{half_spaces_of-normal}
use Rattle.rp_elim.specs.Axes.{are_opposed, may_cancel, are_mixed, may_three_cancel}
use Rattle.rp_elim.proofs.Dependent.{not_given, balance_of, two_halves}
use Rattle.rp_elim.proofs.Three.{three_minors}

-- ---- one axis
-- a number above 0 and one below
opposed_falling : (v w : ℤ) → pos 0 <ℤ v → w <ℤ pos 0 → are_opposed v w ≡ true
opposed_falling v w p n = let a = is_positive_true v p in let b = is_negative_true w n in grind (arith, ints)

-- a number below 0 and one above
opposed_rising : (v w : ℤ) → v <ℤ pos 0 → pos 0 <ℤ w → are_opposed v w ≡ true
opposed_rising v w n p = let a = is_negative_true v n in let b = is_positive_true w p in grind (arith, ints)

-- two zeros
opposed_zeros : (v w : ℤ) → v ≡ pos 0 → w ≡ pos 0 → are_opposed v w ≡ true
opposed_zeros v w e f = grind (arith, ints)

-- numbers that cancel with multipliers above 0 are opposed
opposed : (l m v w : ℤ) → pos 0 <ℤ l → pos 0 <ℤ m → l *ℤ v +ℤ (m *ℤ w +ℤ pos 0) ≡ pos 0 → are_opposed v w ≡ true
opposed l m v w p q e =
    ⊎_elim
    (λ low. let h = mul_lt_mul_left_ℤ l v (pos 0) p low in opposed_rising v w low (lt_of_mul_lt_left_ℤ m (pos 0) w (nonneg_of_pos_ℤ m q) (omega (arith, ints, e, h))))
    (λ rest.
    ⊎_elim
    (λ zero. let h : l *ℤ v ≡ l *ℤ pos 0 = ap (λ (x : ℤ). l *ℤ x) zero in opposed_zeros v w zero (cancel_mul_left_ℤ m w (pos 0) q (omega (arith, ints, e, h))))
    (λ up. let h = mul_lt_mul_left_ℤ l (pos 0) v p up in opposed_falling v w up (lt_of_mul_lt_left_ℤ m w (pos 0) (nonneg_of_pos_ℤ m q) (omega (arith, ints, e, h))))
    rest)
    (trichotomy_ℤ v (pos 0))

-- ---- two half-spaces
-- two terms that refute are opposed on each axis
opposed_terms : (strict : Bool) (t u : Multiple) → is_refutation strict (t ∷ u ∷ []) ≡ true → may_cancel t.of u.of ≡ true
opposed_terms strict t u e =
    let b = balance_of strict (t ∷ u ∷ []) e in
    let above = and_first (list_all (λ (t : Multiple). is_positive t.factor) (t ∷ u ∷ [])) (is_balanced (t ∷ u ∷ [])) (and_first _ (is_contradiction strict (t ∷ u ∷ [])) e) in
    let rest = list_all (λ (t : Multiple). is_positive t.factor) (u ∷ []) in
    let p = positive_is t.factor (and_first (is_positive t.factor) rest above) in
    let q = positive_is u.factor (and_first (is_positive u.factor) true (and_second (is_positive t.factor) rest above)) in
    let on_x = opposed t.factor u.factor t.of.a u.of.a p q b.a in
    let on_y = opposed t.factor u.factor t.of.b u.of.b p q b.b in
    let on_z = opposed t.factor u.factor t.of.c u.of.c p q b.c in
    and_true (are_opposed t.of.a u.of.a && are_opposed t.of.b u.of.b) (are_opposed t.of.c u.of.c) (and_true (are_opposed t.of.a u.of.a) (are_opposed t.of.b u.of.b) on_x on_y) on_z

-- so are terms of two half-spaces
opposed_halves : (strict : Bool) (us : List Multiple) (f g : HalfSpace) → half_spaces_of us ≡ f ∷ g ∷ [] → is_refutation strict us ≡ true → may_cancel f g ≡ true
opposed_halves strict [] f g same e = absurd (cc)
opposed_halves strict (t ∷ []) f g same e = absurd (cc)
opposed_halves strict (t ∷ u ∷ []) f g same e =
    let first : t.of ≡ f = cc in
    let second : u.of ≡ g = cc in
    (λ i. may_cancel (sym first i) (sym second i)) ∙ opposed_terms strict t u e
opposed_halves strict (t ∷ u ∷ v ∷ vs) f g same e = absurd (cc)

-- two half-spaces that are not opposed on each axis do not refute
pub two_not_opposed : (strict : Bool) (f g : HalfSpace) → may_cancel f g ≡ false → refutation_of_two strict f g ≡ None
unfolding refutation_of_two
two_not_opposed strict f g n =
    let us = normal_terms (minors_of_two f g) in
    not_given strict us (λ e. false_not_true (may_cancel f g) (opposed_halves strict us f g (half_spaces_of-normal (minors_of_two f g) ∙ two_halves f g) e) n)

-- ---- three numbers
-- three tests of which none is met
none_of_tests : (a b c : Bool) → (a || b || c) ≡ false → (a ≡ false) × (b ≡ false) × (c ≡ false)
none_of_tests true b c e = absurd (cc)
none_of_tests false true c e = absurd (cc)
none_of_tests false false true e = absurd (cc)
none_of_tests false false false e = (refl, refl, refl)

-- a number that is not below 0
not_below : (v : ℤ) → is_negative v ≡ false → pos 0 ≤ℤ v
not_below v e = ⊎_elim (λ up. up) (λ low. absurd (false_not_true (is_negative v) (is_negative_true v low) e)) (le_or_lt_ℤ (pos 0) v)

-- two tests that are met, or else a third one
either_way : (a b c : Bool) → (b ≡ false → c ≡ true) → (a ≡ false → c ≡ true) → (a && b || c) ≡ true
either_way true true c f g = refl
either_way true false c f g = f refl
either_way false b c f g = g refl

module _ (l m n u v w : ℤ) (p : pos 0 <ℤ l) (q : pos 0 <ℤ m) (r : pos 0 <ℤ n) (e : l *ℤ u +ℤ (m *ℤ v +ℤ (n *ℤ w +ℤ pos 0)) ≡ pos 0) where
  -- numbers that cancel are 0 where their multiples are
  zeros : l *ℤ u ≡ pos 0 → m *ℤ v ≡ pos 0 → n *ℤ w ≡ pos 0 → (is_zero u && is_zero v && is_zero w) ≡ true
  zeros a b c =
      and_true (is_zero u && is_zero v) (is_zero w)
      (and_true (is_zero u) (is_zero v)
      (is_zero_true u (cancel_mul_left_ℤ l u (pos 0) p (a ∙ sym (*ℤ-zero l))))
      (is_zero_true v (cancel_mul_left_ℤ m v (pos 0) q (b ∙ sym (*ℤ-zero m)))))
      (is_zero_true w (cancel_mul_left_ℤ n w (pos 0) r (c ∙ sym (*ℤ-zero n))))

  -- so they are where none is below 0
  zeros_above : pos 0 ≤ℤ u → pos 0 ≤ℤ v → pos 0 ≤ℤ w → (is_zero u && is_zero v && is_zero w) ≡ true
  zeros_above a b c =
      let x = mul_nonneg_ℤ l u (nonneg_of_pos_ℤ l p) a in
      let y = mul_nonneg_ℤ m v (nonneg_of_pos_ℤ m q) b in
      let z = mul_nonneg_ℤ n w (nonneg_of_pos_ℤ n r) c in
      zeros (omega (arith, ints, e, x, y, z)) (omega (arith, ints, e, x, y, z)) (omega (arith, ints, e, x, y, z))

  -- or none is above 0
  zeros_below : u ≤ℤ pos 0 → v ≤ℤ pos 0 → w ≤ℤ pos 0 → (is_zero u && is_zero v && is_zero w) ≡ true
  zeros_below a b c =
      let x = mul_le_mul_left_ℤ l u (pos 0) (nonneg_of_pos_ℤ l p) a in
      let y = mul_le_mul_left_ℤ m v (pos 0) (nonneg_of_pos_ℤ m q) b in
      let z = mul_le_mul_left_ℤ n w (pos 0) (nonneg_of_pos_ℤ n r) c in
      zeros (omega (arith, ints, e, x, y, z)) (omega (arith, ints, e, x, y, z)) (omega (arith, ints, e, x, y, z))

  -- numbers that cancel with multipliers above 0 are mixed
  mixed : are_mixed u v w ≡ true
  mixed =
      either_way (is_positive u || is_positive v || is_positive w) (is_negative u || is_negative v || is_negative w) (is_zero u && is_zero v && is_zero w)
      (λ none. let t = none_of_tests (is_negative u) (is_negative v) (is_negative w) none in zeros_above (not_below u t.0) (not_below v t.1) (not_below w t.2))
      (λ none. let t = none_of_tests (is_positive u) (is_positive v) (is_positive w) none in zeros_below (not_positive_is u t.0) (not_positive_is v t.1) (not_positive_is w t.2))

-- ---- three half-spaces
-- three terms that refute are mixed on each axis
mixed_terms : (strict : Bool) (t u v : Multiple) → is_refutation strict (t ∷ u ∷ v ∷ []) ≡ true → may_three_cancel t.of u.of v.of ≡ true
mixed_terms strict t u v e =
    let ts = t ∷ u ∷ v ∷ [] in
    let b = balance_of strict ts e in
    let above = and_first (list_all (λ (t : Multiple). is_positive t.factor) ts) (is_balanced ts) (and_first _ (is_contradiction strict ts) e) in
    let p = list_all_is (λ s. is_positive s.factor) (λ s. pos 0 <ℤ s.factor) (λ s r. positive_is s.factor r) ts above in
    let on_x = mixed t.factor u.factor v.factor t.of.a u.of.a v.of.a p.0 p.1.0 p.1.1.0 b.a in
    let on_y = mixed t.factor u.factor v.factor t.of.b u.of.b v.of.b p.0 p.1.0 p.1.1.0 b.b in
    let on_z = mixed t.factor u.factor v.factor t.of.c u.of.c v.of.c p.0 p.1.0 p.1.1.0 b.c in
    and_true _ (are_mixed t.of.c u.of.c v.of.c) (and_true (are_mixed t.of.a u.of.a v.of.a) (are_mixed t.of.b u.of.b v.of.b) on_x on_y) on_z

-- so are terms of three half-spaces
mixed_halves : (strict : Bool) (us : List Multiple) (f g h : HalfSpace) → half_spaces_of us ≡ f ∷ g ∷ h ∷ [] → is_refutation strict us ≡ true → may_three_cancel f g h ≡ true
mixed_halves strict [] f g h same e = absurd (cc)
mixed_halves strict (t ∷ []) f g h same e = absurd (cc)
mixed_halves strict (t ∷ u ∷ []) f g h same e = absurd (cc)
mixed_halves strict (t ∷ u ∷ v ∷ []) f g h same e =
    let first : t.of ≡ f = cc in
    let second : u.of ≡ g = cc in
    let third : v.of ≡ h = cc in
    (λ i. may_three_cancel (sym first i) (sym second i) (sym third i)) ∙ mixed_terms strict t u v e
mixed_halves strict (t ∷ u ∷ v ∷ w ∷ ws) f g h same e = absurd (cc)

-- three half-spaces that are not mixed on each axis do not refute
pub three_not_mixed : (strict : Bool) (f g h : HalfSpace) → may_three_cancel f g h ≡ false → refutation_of_three strict f g h ≡ None
unfolding refutation_of_three
three_not_mixed strict f g h n =
    let us = normal_terms (minors_of_three f g h) in
    not_given strict us (λ e. false_not_true (may_three_cancel f g h) (mixed_halves strict us f g h (half_spaces_of-normal (minors_of_three f g h) ∙ sym (ap half_spaces_of (three_minors f g h))) e) n)
