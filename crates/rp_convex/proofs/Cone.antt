-- Either a point where given linear functions are not negative and a further one is positive, or a vanishing combination of them.
-- By induction on the list: where a point of the shorter list fails at the next function, all are taken along that point into the function's zero set.
use Rattle.std.proofs.Common.{◌≡◌, ℤ, pos, neg_ℤ, ◌+ℤ◌, ◌*ℤ◌, ◌≤ℤ◌, ◌<ℤ◌, List, [], ◌∷◌, ◌⊎◌, inl, inr, ⊎_elim, refl, sym, ap, ◌∙◌, subst, arith}
use Rattle.std.specs.List.{AllByRecursion}
use Rattle.std.proofs.lemmas.Int.{ints}
use Rattle.rp_geometry.specs.Geometry.{RationalPoint, HalfSpace, half_space_of, point_of, side_value}
use Rattle.rp_geometry.specs.searches.Certificate.{Multiple, weighted_sum}
use Rattle.rp_geometry.specs.searches.Elimination.{multiple_of, half_spaces_of}
use Rattle.rp_algebra.proofs.IntLaws.{linear, signs, le_or_lt_ℤ, mul_eq_zero_ℤ, mul_pos_ℤ, square_nonneg_ℤ}
use Rattle.rp_algebra.proofs.Reify.{by_ring_at, reify}
use Rattle.rp_convex.proofs.Combination.{Among, none, skip, take, ArePositive}
use Rattle.rp_convex.proofs.Sums.{scaled_terms, weighted_sum-mixed, weighted_sum-scaled}

-- the linear function s u + k v
abbrev mixed : ℤ → HalfSpace → ℤ → HalfSpace → HalfSpace
mixed s u k v = half_space_of (s *ℤ u.a +ℤ k *ℤ v.a) (s *ℤ u.b +ℤ k *ℤ v.b) (s *ℤ u.c +ℤ k *ℤ v.c) (s *ℤ u.d +ℤ k *ℤ v.d)

-- the point s q + k p
abbrev moved : ℤ → RationalPoint → ℤ → RationalPoint → RationalPoint
moved s q k p = point_of (s *ℤ q.x +ℤ k *ℤ p.x) (s *ℤ q.y +ℤ k *ℤ p.y) (s *ℤ q.z +ℤ k *ℤ p.z) (s *ℤ q.w +ℤ k *ℤ p.w)

-- a point where the functions of the list are not negative, and one more is positive
pub record Solution (xs : List HalfSpace) (f : HalfSpace → HalfSpace) (g : HalfSpace) : Type 0 where
  pub point : RationalPoint
  pub all : AllByRecursion (λ h. pos 0 ≤ℤ side_value (f h) point) xs
  pub positive : pos 0 <ℤ side_value g point

-- positive multiples of some of the functions, and of the further one, that add up to 0
pub record Combination (xs : List HalfSpace) (f : HalfSpace → HalfSpace) (g : HalfSpace) : Type 0 where
  pub terms : List Multiple
  pub among : Among (half_spaces_of terms) xs
  pub positive : ArePositive terms
  pub by : ℤ
  pub by_positive : pos 0 <ℤ by
  pub a : weighted_sum (λ h. (f h).a) terms +ℤ by *ℤ g.a ≡ pos 0
  pub b : weighted_sum (λ h. (f h).b) terms +ℤ by *ℤ g.b ≡ pos 0
  pub c : weighted_sum (λ h. (f h).c) terms +ℤ by *ℤ g.c ≡ pos 0
  pub d : weighted_sum (λ h. (f h).d) terms +ℤ by *ℤ g.d ≡ pos 0

-- one of the two
abbrev pub Either : List HalfSpace → (HalfSpace → HalfSpace) → HalfSpace → Type 0
Either xs f g = Solution xs f g ⊎ Combination xs f g

-- ---- no function: the point with the coefficients themselves, unless all are 0
-- a number whose square is at most 0 is 0
square_zero : (a : ℤ) → (a *ℤ a) ≤ℤ pos 0 → a ≡ pos 0
square_zero a h =
    let n = square_nonneg_ℤ a in
    let e : a *ℤ a ≡ pos 0 = omega (arith, linear) in
    ⊎_elim (λ z. z) (λ z. z) (mul_eq_zero_ℤ a a e)

-- where a sum of four squares is at most 0, all four numbers are
squares_zero : (a b c d : ℤ) → (a *ℤ a +ℤ b *ℤ b +ℤ c *ℤ c +ℤ d *ℤ d) ≤ℤ pos 0 → (a ≡ pos 0) × (b ≡ pos 0) × (c ≡ pos 0) × (d ≡ pos 0)
squares_zero a b c d h =
    let na = square_nonneg_ℤ a in
    let nb = square_nonneg_ℤ b in
    let nc = square_nonneg_ℤ c in
    let nd = square_nonneg_ℤ d in
    (square_zero a (omega (arith, linear)), square_zero b (omega (arith, linear)), square_zero c (omega (arith, linear)), square_zero d (omega (arith, linear)))

-- a multiple of 0 alone is 0
zero_multiplied : (a : ℤ) → a ≡ pos 0 → pos 0 +ℤ pos 1 *ℤ a ≡ pos 0
zero_multiplied a e = omega (arith, ints)

-- with no function in the list, one of the two
of_none : (f : HalfSpace → HalfSpace) (g : HalfSpace) → Either [] f g
of_none f g =
    ⊎_elim
    (λ low. let z = squares_zero g.a g.b g.c g.d low in
    inr (record { terms = []; among = none; positive = tt; by = pos 1; by_positive = omega (arith, ints); a = zero_multiplied g.a z.0; b = zero_multiplied g.b z.1; c = zero_multiplied g.c z.2; d = zero_multiplied g.d z.3 }))
    (λ high. inl (record { point = point_of g.a g.b g.c g.d; all = tt; positive = high }))
    (le_or_lt_ℤ (side_value g (point_of g.a g.b g.c g.d)) (pos 0))

-- ---- one more function v, which is negative at p: s = - v(p)

-- the value of u at s q + m p
side_moved : (a b c d x y z w i j k l s m : ℤ) → a *ℤ (s *ℤ x +ℤ m *ℤ i) +ℤ b *ℤ (s *ℤ y +ℤ m *ℤ j) +ℤ c *ℤ (s *ℤ z +ℤ m *ℤ k) +ℤ d *ℤ (s *ℤ w +ℤ m *ℤ l) ≡ s *ℤ (a *ℤ x +ℤ b *ℤ y +ℤ c *ℤ z +ℤ d *ℤ w) +ℤ m *ℤ (a *ℤ i +ℤ b *ℤ j +ℤ c *ℤ k +ℤ d *ℤ l)
side_moved a b c d x y z w i j k l s m = by_ring_at (a ∷ b ∷ c ∷ d ∷ x ∷ y ∷ z ∷ w ∷ i ∷ j ∷ k ∷ l ∷ s ∷ m ∷ []) (search reify depth 40 fits 100000) tt

-- the value of s u + n v at q
side_mixed : (a b c d e f g h x y z w s n : ℤ) → (s *ℤ a +ℤ n *ℤ e) *ℤ x +ℤ (s *ℤ b +ℤ n *ℤ f) *ℤ y +ℤ (s *ℤ c +ℤ n *ℤ g) *ℤ z +ℤ (s *ℤ d +ℤ n *ℤ h) *ℤ w ≡ s *ℤ (a *ℤ x +ℤ b *ℤ y +ℤ c *ℤ z +ℤ d *ℤ w) +ℤ (e *ℤ x +ℤ f *ℤ y +ℤ g *ℤ z +ℤ h *ℤ w) *ℤ n
side_mixed a b c d e f g h x y z w s n = by_ring_at (a ∷ b ∷ c ∷ d ∷ e ∷ f ∷ g ∷ h ∷ x ∷ y ∷ z ∷ w ∷ s ∷ n ∷ []) (search reify depth 40 fits 100000) tt

-- the value of u at s q + v(q) p is that of s u + u(p) v at q
side_along : (s : ℤ) (u v : HalfSpace) (q p : RationalPoint) → side_value (mixed s u (side_value u p) v) q ≡ side_value u (moved s q (side_value v q) p)
side_along s u v q p =
    side_mixed u.a u.b u.c u.d v.a v.b v.c v.d q.x q.y q.z q.w s (side_value u p)
    ∙ sym (side_moved u.a u.b u.c u.d q.x q.y q.z q.w p.x p.y p.z p.w s (side_value v q))

-- v is 0 there
on_boundary : (m n : ℤ) → pos 0 ≤ℤ (neg_ℤ n *ℤ m +ℤ m *ℤ n)
on_boundary m n =
    let e : neg_ℤ n *ℤ m +ℤ m *ℤ n ≡ pos 0 = by_ring_at (m ∷ n ∷ []) (search reify depth 40 fits 100000) tt in
    omega (arith, linear, e)

-- so v is not negative there
side_own : (v : HalfSpace) (q p : RationalPoint) → pos 0 ≤ℤ side_value v (moved (neg_ℤ (side_value v p)) q (side_value v q) p)
side_own v q p = rw (side_moved v.a v.b v.c v.d q.x q.y q.z q.w p.x p.y p.z p.w (neg_ℤ (side_value v p)) (side_value v q)) (on_boundary (side_value v q) (side_value v p))

-- the same of all functions of the list
all_along : (s : ℤ) (f : HalfSpace → HalfSpace) (v : HalfSpace) (q p : RationalPoint) (xs : List HalfSpace) → AllByRecursion (λ h. pos 0 ≤ℤ side_value (mixed s (f h) (side_value (f h) p) v) q) xs → AllByRecursion (λ h. pos 0 ≤ℤ side_value (f h) (moved s q (side_value v q) p)) xs
all_along s f v q p [] h = tt
all_along s f v q p (x ∷ xs) h = (subst (λ n. pos 0 ≤ℤ n) (side_along s (f x) v q p) h.0, all_along s f v q p xs h.1)

-- ---- the combination, taken back
-- what is true of all of a list is true of all of a part of it
pub among_all : {ks hs : List HalfSpace} (P : HalfSpace → Type 0) → Among ks hs → AllByRecursion P hs → AllByRecursion P ks
among_all P none h = tt
among_all P (skip m) h = among_all P m h.1
among_all P (take m) h = (h.0, among_all P m h.1)

-- a positive multiple of a number at least 0, and a number at least 0
more_nonneg : (k s t : ℤ) → pos 0 <ℤ k → pos 0 ≤ℤ s → pos 0 ≤ℤ t → pos 0 ≤ℤ (k *ℤ s +ℤ t)
more_nonneg k s t p q r = search signs

-- a sum of positive multiples of numbers at least 0 is at least 0
pub weighted_sum_nonneg : (G : HalfSpace → ℤ) (ts : List Multiple) → ArePositive ts → AllByRecursion (λ h. pos 0 ≤ℤ G h) (half_spaces_of ts) → pos 0 ≤ℤ weighted_sum G ts
weighted_sum_nonneg G [] m h = omega (arith, ints)
weighted_sum_nonneg G (t ∷ ts) m h = more_nonneg t.factor (G t.of) (weighted_sum G ts) m.0 h.0 (weighted_sum_nonneg G ts m.1 h.1)

-- scaled terms have the same half-spaces
pub half_spaces_of-scaled : (s : ℤ) (ts : List Multiple) → half_spaces_of ts ≡ half_spaces_of (scaled_terms s ts)
half_spaces_of-scaled s [] = refl
half_spaces_of-scaled s (t ∷ ts) = ap (λ hs. t.of ∷ hs) (half_spaces_of-scaled s ts)

-- factors above 0, times a number above 0, are above 0
pub scaled_positive : (s : ℤ) (ts : List Multiple) → pos 0 <ℤ s → ArePositive ts → ArePositive (scaled_terms s ts)
scaled_positive s [] p m = tt
scaled_positive s (t ∷ ts) p m = (mul_pos_ℤ s t.factor p m.0, scaled_positive s ts p m.1)

-- one of the four sums
taken_back : (s n k g v f w : ℤ) → (s *ℤ f +ℤ w *ℤ v) +ℤ k *ℤ (s *ℤ g +ℤ n *ℤ v) ≡ ((w +ℤ k *ℤ n) *ℤ v +ℤ s *ℤ f) +ℤ (s *ℤ k) *ℤ g
taken_back s n k g v f w = by_ring_at (s ∷ n ∷ k ∷ g ∷ v ∷ f ∷ w ∷ []) (search reify depth 40 fits 100000) tt

-- the same sum of all terms
sum_taken_back : (s n k g v : ℤ) (F G : HalfSpace → ℤ) (ts : List Multiple) → weighted_sum (λ h. s *ℤ F h +ℤ G h *ℤ v) ts +ℤ k *ℤ (s *ℤ g +ℤ n *ℤ v) ≡ pos 0 → ((weighted_sum G ts +ℤ k *ℤ n) *ℤ v +ℤ weighted_sum F (scaled_terms s ts)) +ℤ (s *ℤ k) *ℤ g ≡ pos 0
sum_taken_back s n k g v F G ts e =
    ap (λ x. ((weighted_sum G ts +ℤ k *ℤ n) *ℤ v +ℤ x) +ℤ (s *ℤ k) *ℤ g) (weighted_sum-scaled s F ts)
    ∙ sym (taken_back s n k g v (weighted_sum F ts) (weighted_sum G ts))
    ∙ sym (ap (λ x. x +ℤ k *ℤ (s *ℤ g +ℤ n *ℤ v)) (weighted_sum-mixed s v F G ts))
    ∙ e

-- the factor of the further function is above 0
back_positive : (k n w : ℤ) → pos 0 <ℤ k → pos 0 <ℤ n → pos 0 ≤ℤ w → pos 0 <ℤ (w +ℤ k *ℤ n)
back_positive k n w p q r = search signs

-- ---- the step
module _ (v : HalfSpace) (xs : List HalfSpace) (f : HalfSpace → HalfSpace) (g : HalfSpace) where
  -- a point for the mixed functions gives one for the functions
  solution_along : (p : RationalPoint) (low : side_value (f v) p <ℤ pos 0) → Solution xs (λ h. mixed (neg_ℤ (side_value (f v) p)) (f h) (side_value (f h) p) (f v)) (mixed (neg_ℤ (side_value (f v) p)) g (side_value g p) (f v)) → Solution (v ∷ xs) f g
  solution_along p low q = record {
    point = moved (neg_ℤ (side_value (f v) p)) q.point (side_value (f v) q.point) p;
    all = (side_own (f v) q.point p, all_along (neg_ℤ (side_value (f v) p)) f (f v) q.point p xs q.all);
    positive = subst (λ n. pos 0 <ℤ n) (side_along (neg_ℤ (side_value (f v) p)) g (f v) q.point p) q.positive;
  }

  -- a combination of the mixed functions gives one of the functions
  combination_back : (p : RationalPoint) (low : side_value (f v) p <ℤ pos 0) → AllByRecursion (λ h. pos 0 ≤ℤ side_value (f h) p) xs → pos 0 <ℤ side_value g p → Combination xs (λ h. mixed (neg_ℤ (side_value (f v) p)) (f h) (side_value (f h) p) (f v)) (mixed (neg_ℤ (side_value (f v) p)) g (side_value g p) (f v)) → Combination (v ∷ xs) f g
  combination_back p low all high m =
      let s = neg_ℤ (side_value (f v) p) in
      let n = side_value g p in
      let G : HalfSpace → ℤ = λ h. side_value (f h) p in
      let sp : pos 0 <ℤ s = omega (arith, linear, low) in
      record {
        terms = multiple_of (weighted_sum G m.terms +ℤ m.by *ℤ n) v ∷ scaled_terms s m.terms;
        among = take (subst (λ hs. Among hs xs) (half_spaces_of-scaled s m.terms) m.among);
        positive = (back_positive m.by n (weighted_sum G m.terms) m.by_positive high (weighted_sum_nonneg G m.terms m.positive (among_all (λ h. pos 0 ≤ℤ G h) m.among all)), scaled_positive s m.terms sp m.positive);
        by = s *ℤ m.by;
        by_positive = mul_pos_ℤ s m.by sp m.by_positive;
        a = sum_taken_back s n m.by g.a (f v).a (λ h. (f h).a) G m.terms m.a;
        b = sum_taken_back s n m.by g.b (f v).b (λ h. (f h).b) G m.terms m.b;
        c = sum_taken_back s n m.by g.c (f v).c (λ h. (f h).c) G m.terms m.c;
        d = sum_taken_back s n m.by g.d (f v).d (λ h. (f h).d) G m.terms m.d;
      }

  -- a combination of the shorter list is one of the list
  combination_skip : Combination xs f g → Combination (v ∷ xs) f g
  combination_skip m = record { terms = m.terms; among = skip m.among; positive = m.positive; by = m.by; by_positive = m.by_positive; a = m.a; b = m.b; c = m.c; d = m.d }

  -- from a point for the shorter list to one of the two
  at_point : ((f' : HalfSpace → HalfSpace) (g' : HalfSpace) → Either xs f' g') → Solution xs f g → Either (v ∷ xs) f g
  at_point rest p =
      ⊎_elim
      (λ high. inl (record { point = p.point; all = (high, p.all); positive = p.positive }))
      (λ low. ⊎_elim
      (λ q. inl (solution_along p.point low q))
      (λ m. inr (combination_back p.point low p.all p.positive m))
      (rest (λ h. mixed (neg_ℤ (side_value (f v) p.point)) (f h) (side_value (f h) p.point) (f v)) (mixed (neg_ℤ (side_value (f v) p.point)) g (side_value g p.point) (f v))))
      (le_or_lt_ℤ (pos 0) (side_value (f v) p.point))

  -- from the shorter list to the list
  of_more : ((f' : HalfSpace → HalfSpace) (g' : HalfSpace) → Either xs f' g') → Either (v ∷ xs) f g
  of_more rest = ⊎_elim (at_point rest) (λ m. inr (combination_skip m)) (rest f g)

-- Farkas' lemma for integers
pub solution_or_combination : (xs : List HalfSpace) (f : HalfSpace → HalfSpace) (g : HalfSpace) → Either xs f g
solution_or_combination [] f g = of_none f g
solution_or_combination (v ∷ xs) f g = of_more v xs f g (solution_or_combination xs)
