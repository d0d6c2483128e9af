-- Numbers in lowest terms keep their bounds, and reducing twice is reducing once.
use Rattle.std.proofs.Common.{◌≡◌, ℕ, zero, suc, ◌<◌, ◌≤◌, ◌^◌, ℤ, pos, neg_ℤ, ◌-ℤ◌, ◌<ℤ◌, nat_abs, to_z, of_z, le_trans, true, false, List, [], ◌∷◌, sym, ap, ◌∙◌, subst, arith}
use Rattle.std.specs.List.{AllByRecursion}
use Rattle.std.specs.Int.RustNames.{unsigned_abs, FitsSigned}
use mir.Syntax.{Width, w64, w128}
use Rattle.std.proofs.lemmas.Int.{ints, to_z-of_z}
use Rattle.std.proofs.lemmas.Bool.{and_parts}
use Rattle.rp_algebra.specs.Integer.{gcd, gcd_of, reduced_by}
use Rattle.rp_algebra.proofs.Divisors.{gcd_of-positive_four, gcd_of-at_most_four, gcd_of-nil, gcd_of-cons, gcd-zero, gcd-at_most_right}
use Rattle.rp_algebra.proofs.LowestTerms.{quotient_by_one}
use Rattle.std.specs.Prelude.{int_lt, int_le}
use Rattle.rp_algebra.proofs.Machine.{code, is_by}
use Rattle.rp_geometry.specs.Geometry.{half_space_of, point_of, is_point_in_bounds, HalfSpace, is_half_space_in_bounds, is_zero_half_space, IsHalfSpace, reduced_half_space, IsKeptHalfSpace, complement, RationalPoint, IsPoint, IsSmallPoint, reduced_point, IsKeptPoint}
use Rattle.rp_geometry.proofs.InLowestTerms.{reduced_half_space_is, reduced_point_is, size_within}

-- a half-space in lowest terms keeps its bounds, and stays as it is when it is reduced again
pub kept_half_space : (h : HalfSpace) → is_half_space_in_bounds h ≡ true → is_zero_half_space h ≡ false → IsKeptHalfSpace (reduced_half_space h)
kept_half_space h inside nonzero =
    let abc = and_parts _ _ inside in
    let ab = and_parts _ _ abc.0 in
    let a = and_parts _ _ ab.0 in
    let size_a = size_within 16777216 h.a a.0 in
    let size_b = size_within 16777216 h.b a.1 in
    let size_c = size_within 16777216 h.c ab.1 in
    let size_d = size_within 844424930131968 h.d abc.1 in
    let reduced = reduced_half_space_is h nonzero in
    let less_a = reduced.a.size in
    let less_b = reduced.b.size in
    let less_c = reduced.c.size in
    let less_d = reduced.d.size in
    record {
      numbers = record {
        a = omega (arith, size_a, less_a);
        b = omega (arith, size_b, less_b);
        c = omega (arith, size_c, less_c);
        d = omega (arith, size_d, less_d);
        nonzero = reduced.nonzero;
      };
      lowest = reduced.lowest;
    }

-- a greatest common divisor is within the bound of the numbers
pub gcd_of-at_most : (m : ℕ) (vs : List ℤ) → AllByRecursion (λ v. nat_abs v ≤ m) vs → gcd_of vs ≤ m
gcd_of-at_most m [] h = subst (λ (n : ℕ). n ≤ m) (sym gcd_of-nil) (omega arith)
gcd_of-at_most m (v ∷ vs) h =
    subst (λ (n : ℕ). n ≤ m) (sym (gcd_of-cons v vs)) (joined (gcd_of vs) (nat_abs v) (gcd_of-at_most m vs h.1) h.0)
  where
    joined : (g n : ℕ) → g ≤ m → n ≤ m → gcd g n ≤ m
    joined g zero p q = subst (λ (k : ℕ). k ≤ m) (sym (gcd-zero g)) p
    joined g (suc n) p q = le_trans (gcd-at_most_right g (suc n) (omega arith)) q

-- the divisor of the numbers of a half-space is within the bound of its offset
pub half_space_divisor : (h : HalfSpace) → is_half_space_in_bounds h ≡ true → gcd_of (h.a ∷ h.b ∷ h.c ∷ h.d ∷ []) ≤ 844424930131968
half_space_divisor h inside =
    let abc = and_parts _ _ inside in
    let ab = and_parts _ _ abc.0 in
    let a = and_parts _ _ ab.0 in
    let size_a = size_within 16777216 h.a a.0 in
    let size_b = size_within 16777216 h.b a.1 in
    let size_c = size_within 16777216 h.c ab.1 in
    gcd_of-at_most 844424930131968 (h.a ∷ h.b ∷ h.c ∷ h.d ∷ []) (omega (arith, size_a), (omega (arith, size_b), (omega (arith, size_c), (size_within 844424930131968 h.d abc.1, tt))))

-- a quadruple with the divisor 1 is in lowest terms
pub lowest_by_one : (h : HalfSpace) → gcd_of (h.a ∷ h.b ∷ h.c ∷ h.d ∷ []) ≡ 1 → reduced_half_space h ≡ h
unfolding reduced_half_space
lowest_by_one h e =
    ap (λ (g : ℕ). record { a = reduced_by g h.a; b = reduced_by g h.b; c = reduced_by g h.c; d = reduced_by g h.d }) e
    ∙ (λ i. record { a = quotient_by_one h.a i; b = quotient_by_one h.b i; c = quotient_by_one h.c i; d = quotient_by_one h.d i })

-- the divisor of the numbers of a point with a weight above zero
pub point_divisor_above : (p : RationalPoint) → IsPoint p → 0 < gcd_of (p.x ∷ p.y ∷ p.z ∷ p.w ∷ [])
point_divisor_above p w = gcd_of-positive_four p.x p.y p.z p.w (not_zero p.w w)
  where
    not_zero : (v : ℤ) → pos 0 <ℤ v → v ≡ pos 0 → ⊥
    not_zero v h e = omega (arith, ints)

-- the divisor of the numbers of a point is at most its weight
pub point_divisor : (p : RationalPoint) → IsPoint p → gcd_of (p.x ∷ p.y ∷ p.z ∷ p.w ∷ []) ≤ nat_abs p.w
point_divisor p w = gcd_of-at_most_four p.x p.y p.z p.w (not_zero p.w w)
  where
    not_zero : (v : ℤ) → pos 0 <ℤ v → v ≡ pos 0 → ⊥
    not_zero v h e = omega (arith, ints)

-- a point in lowest terms keeps its bounds, and stays as it is when it is reduced again
pub kept_point : (p : RationalPoint) → IsSmallPoint p → IsKeptPoint (reduced_point p)
kept_point p k =
    let reduced = reduced_point_is p k.positive in
    let less_x = reduced.x.size in
    let less_y = reduced.y.size in
    let less_z = reduced.z.size in
    let less_w = reduced.w.size in
    let small_x = k.x in
    let small_y = k.y in
    let small_z = k.z in
    let small_w = k.w in
    record {
      numbers = record {
        positive = reduced.positive;
        x = omega (arith, small_x, less_x);
        y = omega (arith, small_y, less_y);
        z = omega (arith, small_z, less_z);
        w = omega (arith, small_w, less_w);
      };
      lowest = reduced.lowest;
    }

-- a quotient as the machine hands it on
pub read_quotient : (w : Width) (r v : ℤ) (n g : ℕ) → FitsSigned w r → FitsSigned w v → r ≡ reduced_by n (to_z w (of_z w v)) → n ≡ g → to_z w (of_z w r) ≡ reduced_by g v
read_quotient w r v n g fr fv e d = to_z-of_z w r fr ∙ e ∙ (λ i. reduced_by (d i) (to_z-of_z w v fv i))

-- four numbers as the machine hands them on
pub read_half_space : (w : Width) (a b c d : ℤ) → FitsSigned w a → FitsSigned w b → FitsSigned w c → FitsSigned w d
    → half_space_of (to_z w (of_z w a)) (to_z w (of_z w b)) (to_z w (of_z w c)) (to_z w (of_z w d)) ≡ half_space_of a b c d
read_half_space w a b c d fa fb fc fd = λ i. half_space_of (to_z-of_z w a fa i) (to_z-of_z w b fb i) (to_z-of_z w c fc i) (to_z-of_z w d fd i)

-- the same of a point
pub read_point : (w : Width) (x y z v : ℤ) → FitsSigned w x → FitsSigned w y → FitsSigned w z → FitsSigned w v
    → point_of (to_z w (of_z w x)) (to_z w (of_z w y)) (to_z w (of_z w z)) (to_z w (of_z w v)) ≡ point_of x y z v
read_point w x y z v fx fy fz fv = λ i. point_of (to_z-of_z w x fx i) (to_z-of_z w y fy i) (to_z-of_z w z fz i) (to_z-of_z w v fv i)

-- a coefficient as the machine widens it
pub widened : (v : ℤ) → FitsSigned w64 v → to_z w128 (of_z w128 (to_z w64 (of_z w64 v))) ≡ v
widened v f = ap (λ (x : ℤ). to_z w128 (of_z w128 x)) (to_z-of_z w64 v f) ∙ to_z-of_z w128 v (wide v f)
  where
    wide : (v : ℤ) → FitsSigned w64 v → FitsSigned w128 v
    wide v f = omega (arith, ints)

-- a whole number from 1 on whose upper bounds are kept makes a small point
pub small_point : (p : RationalPoint) → int_le (pos 1) p.w ≡ true → is_point_in_bounds p ≡ true → IsSmallPoint p
small_point p positive inside =
    let xyz = and_parts _ _ inside in
    let xy = and_parts _ _ xyz.0 in
    let x = and_parts _ _ xy.0 in
    let size_x = size_within 2535301200456458802993406410751 p.x x.0 in
    let size_y = size_within 2535301200456458802993406410751 p.y x.1 in
    let size_z = size_within 2535301200456458802993406410751 p.z xy.1 in
    record {
      positive = above p.w positive;
      x = omega (arith, size_x);
      y = omega (arith, size_y);
      z = omega (arith, size_z);
      w = weight_size p.w positive xyz.1;
    }
  where
    above : (v : ℤ) → int_le (pos 1) v ≡ true → pos 0 <ℤ v
    above v e = grind (arith, ints)

    weight_size : (v : ℤ) → int_le (pos 1) v ≡ true → int_le v (pos 37778931862957161709567) ≡ true → unsigned_abs v < 2 ^ 75
    weight_size v e f = grind (arith, ints)

-- a negative as the machine makes it
pub negated : (v : ℤ) → unsigned_abs v ≤ 844424930131968 → to_z w64 (of_z w64 (pos 0 -ℤ to_z w64 (of_z w64 v))) ≡ neg_ℤ v
negated v h = is_by (search code depth 30 fits 100000) tt ∙ from_zero v
  where
    from_zero : (v : ℤ) → pos 0 -ℤ v ≡ neg_ℤ v
    from_zero v = omega (arith, ints)

-- the negatives of a half-space's numbers as the machine makes them
pub half_space_negated : (h : HalfSpace) → IsHalfSpace h
    → half_space_of (to_z w64 (of_z w64 (pos 0 -ℤ to_z w64 (of_z w64 h.a)))) (to_z w64 (of_z w64 (pos 0 -ℤ to_z w64 (of_z w64 h.b)))) (to_z w64 (of_z w64 (pos 0 -ℤ to_z w64 (of_z w64 h.c)))) (to_z w64 (of_z w64 (pos 0 -ℤ to_z w64 (of_z w64 h.d)))) ≡ complement h
half_space_negated h k =
    let size_a = k.a in
    let size_b = k.b in
    let size_c = k.c in
    let na = negated h.a (omega (arith, size_a)) in
    let nb = negated h.b (omega (arith, size_b)) in
    let nc = negated h.c (omega (arith, size_c)) in
    let nd = negated h.d k.d in
    λ i. half_space_of (na i) (nb i) (nc i) (nd i)

-- the divisor of four numbers as the machine hands them on
pub read_divisor : (w : Width) (a b c d : ℤ) → FitsSigned w a → FitsSigned w b → FitsSigned w c → FitsSigned w d
    → gcd_of (to_z w (of_z w a) ∷ to_z w (of_z w b) ∷ to_z w (of_z w c) ∷ to_z w (of_z w d) ∷ []) ≡ gcd_of (a ∷ b ∷ c ∷ d ∷ [])
read_divisor w a b c d fa fb fc fd = λ i. gcd_of (to_z-of_z w a fa i ∷ to_z-of_z w b fb i ∷ to_z-of_z w c fc i ∷ to_z-of_z w d fd i ∷ [])

-- a number that the machine does not find below 1 is at least 1
pub from_one_on : (v : ℤ) → FitsSigned w128 v → int_lt (to_z w128 (of_z w128 v)) (pos 1) ≡ false → int_le (pos 1) v ≡ true
from_one_on v f e = at_least v (ap (λ (x : ℤ). int_lt x (pos 1)) (sym (to_z-of_z w128 v f)) ∙ e)
  where
    at_least : (v : ℤ) → int_lt v (pos 1) ≡ false → int_le (pos 1) v ≡ true
    at_least v e = grind (arith, ints)
