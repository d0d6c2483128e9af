-- A trace holds a point where its value is above 0, or is 0 and the direction is first in order.
use Rattle.std.proofs.Common.{◌≡◌, ℤ, pos, ◌+ℤ◌, ◌*ℤ◌, ◌≤ℤ◌, ◌<ℤ◌, Bool, true, false, ◌&&◌, ◌||◌, [], ◌∷◌, ◌⊎◌, ⊎_elim, refl, sym, ap, ◌∙◌, subst, arith}
use Rattle.std.proofs.lemmas.Int.{ints}
use Rattle.std.proofs.lemmas.Bool.{or_cases, or_left, or_right}
use Rattle.rp_algebra.specs.Integer.{is_zero, is_positive}
use Rattle.rp_algebra.proofs.IntLaws.{linear, signs, trichotomy_ℤ, cancel_mul_left_ℤ}
use Rattle.rp_algebra.proofs.Reify.{by_ring_at, le_by_multiple, reify}
use Rattle.rp_algebra.proofs.Tests.{and_first, and_second, and_true, zero_is, is_zero_true, positive_is, is_positive_true, false_not_true}
use Rattle.rp_geometry.specs.Geometry.{RationalPoint, side_value, owns_boundary}
use Rattle.rp_geometry.specs.sections.Trace.{Trace, upright, trace_holds, trace_value}
use Rattle.rp_slice.proofs.Traces.{IsDirection, upright_value}

-- ---- the order of directions

-- the first number is above 0, or it is 0 and the second is above 0
pub record IsFirst (a b : ℤ) : Type 0 where
  pub least : pos 0 ≤ℤ a
  pub then : a ≡ pos 0 → pos 0 <ℤ b

-- the same, or both are 0
pub record IsNotLast (a b : ℤ) : Type 0 where
  pub least : pos 0 ≤ℤ a
  pub then : a ≡ pos 0 → pos 0 ≤ℤ b

-- sums keep it
pub not_last_sum : (a b c d : ℤ) → IsNotLast a b → IsNotLast c d → IsNotLast (a +ℤ c) (b +ℤ d)
not_last_sum a b c d h k = record { least = sum_least a c h.least k.least; then = λ e. sum_then b d (h.then (zero_first a c h.least k.least e)) (k.then (zero_second a c h.least k.least e)) }
  where
    sum_least : (a c : ℤ) → pos 0 ≤ℤ a → pos 0 ≤ℤ c → pos 0 ≤ℤ (a +ℤ c)
    sum_least a c h k = omega (arith, linear, h, k)

    sum_then : (b d : ℤ) → pos 0 ≤ℤ b → pos 0 ≤ℤ d → pos 0 ≤ℤ (b +ℤ d)
    sum_then b d h k = omega (arith, linear, h, k)

    zero_first : (a c : ℤ) → pos 0 ≤ℤ a → pos 0 ≤ℤ c → a +ℤ c ≡ pos 0 → a ≡ pos 0
    zero_first a c h k e = omega (arith, linear, h, k, e)

    zero_second : (a c : ℤ) → pos 0 ≤ℤ a → pos 0 ≤ℤ c → a +ℤ c ≡ pos 0 → c ≡ pos 0
    zero_second a c h k e = omega (arith, linear, h, k, e)

-- a multiple above 0 of a first direction is first
pub first_times : (k a b : ℤ) → pos 0 <ℤ k → IsFirst a b → IsFirst (k *ℤ a) (k *ℤ b)
first_times k a b hk h = record { least = (let l = h.least in search signs); then = λ e. (let m = h.then (zero_over k a hk e) in search signs) }
  where
    zero_over : (k a : ℤ) → pos 0 <ℤ k → k *ℤ a ≡ pos 0 → a ≡ pos 0
    zero_over k a h e = cancel_mul_left_ℤ k a (pos 0) h (e ∙ by_ring_at (k ∷ []) (search reify depth 40 fits 100000) tt)

-- a first direction, and one that is not last
pub first_sum : (a b c d : ℤ) → IsFirst a b → IsNotLast c d → IsFirst (a +ℤ c) (b +ℤ d)
first_sum a b c d h k = record { least = sum_least a c h.least k.least; then = λ e. sum_then b d (h.then (zero_first a c h.least k.least e)) (k.then (zero_second a c h.least k.least e)) }
  where
    sum_least : (a c : ℤ) → pos 0 ≤ℤ a → pos 0 ≤ℤ c → pos 0 ≤ℤ (a +ℤ c)
    sum_least a c h k = omega (arith, linear, h, k)

    sum_then : (b d : ℤ) → pos 0 <ℤ b → pos 0 ≤ℤ d → pos 0 <ℤ (b +ℤ d)
    sum_then b d h k = omega (arith, linear, h, k)

    zero_first : (a c : ℤ) → pos 0 ≤ℤ a → pos 0 ≤ℤ c → a +ℤ c ≡ pos 0 → a ≡ pos 0
    zero_first a c h k e = omega (arith, linear, h, k, e)

    zero_second : (a c : ℤ) → pos 0 ≤ℤ a → pos 0 ≤ℤ c → a +ℤ c ≡ pos 0 → c ≡ pos 0
    zero_second a c h k e = omega (arith, linear, h, k, e)

-- a first direction is not last
pub not_last : (a b : ℤ) → IsFirst a b → IsNotLast a b
not_last a b h = record { least = h.least; then = λ e. (let m = h.then e in omega (arith, linear, m)) }

-- a multiple of 0 is not last
zero_times : (k a b : ℤ) → k ≡ pos 0 → IsNotLast (k *ℤ a) (k *ℤ b)
zero_times k a b z = record { least = by_zero k a z; then = λ e. by_zero k b z }
  where
    by_zero : (k a : ℤ) → k ≡ pos 0 → pos 0 ≤ℤ (k *ℤ a)
    by_zero k a z = subst (λ (u : ℤ). pos 0 ≤ℤ (u *ℤ a)) (sym z) (omega (arith, ints))

-- a multiple of 0, or one at least 0 of a first direction, is not last
pub not_last_times : (k a b : ℤ) → pos 0 ≤ℤ k → (k ≡ pos 0) ⊎ IsFirst a b → IsNotLast (k *ℤ a) (k *ℤ b)
not_last_times k a b hk o =
    ⊎_elim
    (λ (z : k ≡ pos 0). zero_times k a b z)
    (λ (h : IsFirst a b). ⊎_elim
    (λ (low : k <ℤ pos 0). absurd (omega (arith, linear, low, hk)))
    (λ r. ⊎_elim (λ (z : k ≡ pos 0). zero_times k a b z) (λ high. not_last (k *ℤ a) (k *ℤ b) (first_times k a b high h)) r)
    (trichotomy_ℤ k (pos 0)))
    o

-- a direction is first where a multiple of it above 0 is not last
pub first_of_multiple : (k a b : ℤ) → pos 0 <ℤ k → IsNotLast (k *ℤ a) (k *ℤ b) → IsDirection a b → IsFirst a b
first_of_multiple k a b hk h n = record {
  least = divided k a hk h.least;
  then = λ e. above b (divided k b hk (h.then (times_zero k a e))) (λ z. n e z);
}
  where
    divided : (k a : ℤ) → pos 0 <ℤ k → pos 0 ≤ℤ (k *ℤ a) → pos 0 ≤ℤ a
    divided k a hk h = le_by_multiple (k ∷ a ∷ []) {k = k} hk h (search reify depth 40 fits 100000) tt

    times_zero : (k a : ℤ) → a ≡ pos 0 → k *ℤ a ≡ pos 0
    times_zero k a e = ap (λ (u : ℤ). k *ℤ u) e ∙ by_ring_at (k ∷ []) (search reify depth 40 fits 100000) tt

    above : (b : ℤ) → pos 0 ≤ℤ b → (b ≡ pos 0 → ⊥) → pos 0 <ℤ b
    above b h n = ⊎_elim (λ (l : b <ℤ pos 0). absurd (omega (arith, linear, l, h))) (λ r. ⊎_elim (λ (z : b ≡ pos 0). absurd (n z)) (λ g. g) r) (trichotomy_ℤ b (pos 0))

-- ---- holding

-- a value above 0, or 0 with a first direction
pub record IsHeldBy (v a b : ℤ) : Type 0 where
  pub least : pos 0 ≤ℤ v
  pub then : v ≡ pos 0 → IsFirst a b

-- the test of a direction
first_to : (a b : ℤ) → (is_positive a || (is_zero a && (is_positive b || (is_zero b && false)))) ≡ true → IsFirst a b
first_to a b e =
    ⊎_elim
    (λ h. let p = positive_is a h in record { least = omega (arith, linear, p); then = λ z. absurd (omega (arith, linear, p, z)) })
    (λ h. let z = zero_is a (and_first (is_zero a) _ h) in
    let p = positive_is b (last_of (is_positive b) (is_zero b) (and_second (is_zero a) _ h)) in
    record { least = omega (arith, linear, z); then = λ y. p })
    (or_cases (is_positive a) _ e)
  where
    last_of : (x y : Bool) → (x || (y && false)) ≡ true → x ≡ true
    last_of true y e = refl
    last_of false true e = absurd (false_not_true false e refl)
    last_of false false e = absurd (false_not_true false e refl)

-- a first direction passes
first_from : (a b : ℤ) → IsFirst a b → (is_positive a || (is_zero a && (is_positive b || (is_zero b && false)))) ≡ true
first_from a b h =
    ⊎_elim
    (λ (l : a <ℤ pos 0). absurd (let m = h.least in omega (arith, linear, l, m)))
    (λ r. ⊎_elim
    (λ (z : a ≡ pos 0). or_right (is_positive a) _ (and_true (is_zero a) _ (is_zero_true a z) (or_left (is_positive b) _ (is_positive_true b (h.then z)))))
    (λ g. or_left (is_positive a) _ (is_positive_true a g)) r)
    (trichotomy_ℤ a (pos 0))

-- what a trace holds
pub held_to : (t : Trace) (p : RationalPoint) → trace_holds t p ≡ true → IsHeldBy (trace_value t p) t.a t.b
held_to t p e =
    let u = upright_value t p in
    ⊎_elim
    (λ h. let k = subst (λ (v : ℤ). pos 0 <ℤ v) u (positive_is (side_value (upright t) p) h) in record { least = omega (arith, linear, k); then = λ z. absurd (omega (arith, linear, k, z)) })
    (λ h. let k = sym u ∙ zero_is (side_value (upright t) p) (and_first _ (owns_boundary (upright t)) h) in
    record { least = omega (arith, linear, k); then = λ z. first_to t.a t.b (and_second (is_zero (side_value (upright t) p)) _ h) })
    (or_cases (is_positive (side_value (upright t) p)) _ e)

-- and the other way round
pub held_from : (t : Trace) (p : RationalPoint) → IsHeldBy (trace_value t p) t.a t.b → trace_holds t p ≡ true
held_from t p h =
    let u = upright_value t p in
    ⊎_elim
    (λ (l : trace_value t p <ℤ pos 0). absurd (let m = h.least in omega (arith, linear, l, m)))
    (λ r. ⊎_elim
    (λ (z : trace_value t p ≡ pos 0). or_right (is_positive (side_value (upright t) p)) _ (and_true _ _ (is_zero_true _ (u ∙ z)) (first_from t.a t.b (h.then z))))
    (λ g. or_left _ _ (is_positive_true _ (subst (λ (v : ℤ). pos 0 <ℤ v) (sym u) g))) r)
    (trichotomy_ℤ (trace_value t p) (pos 0))
