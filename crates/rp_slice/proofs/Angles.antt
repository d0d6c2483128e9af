-- The order of directions by angle: no direction is before itself, and what is before a later one is before it.
use Rattle.std.proofs.Common.{◌≡◌, ℤ, pos, neg_ℤ, ◌+ℤ◌, ◌-ℤ◌, ◌*ℤ◌, ◌≤ℤ◌, ◌<ℤ◌, Bool, true, false, ◌&&◌, ◌||◌, List, [], ◌∷◌, ⊎_elim, refl, sym, ap, ◌∙◌, subst, arith}
use Rattle.std.proofs.lemmas.Bool.{or_cases}
use Rattle.rp_algebra.specs.Integer.{is_zero, is_positive}
use Rattle.rp_algebra.proofs.IntLaws.{linear, trichotomy_ℤ}
use Rattle.rp_algebra.proofs.Reify.{by_ring_at, reify}
use Rattle.rp_algebra.proofs.Tests.{and_first, and_second, zero_is, is_zero_true, positive_is, is_positive_true, false_not_true, not_positive_is}
use Rattle.rp_algebra.proofs.Listed.{Listed, first, later}
use Rattle.rp_algebra.proofs.Numbers.{neg_nonneg}
use Rattle.rp_geometry.specs.sections.Trace.{Trace}
use Rattle.rp_geometry.specs.sections.Ring.{RingStep, cross, is_upper, is_before_by, is_angle_before, angles_rise}
use Rattle.rp_slice.proofs.Traces.{IsDirection}
use Rattle.rp_slice.proofs.Owned.{IsFirst, first_times, first_sum, not_last}
use Rattle.rp_slice.proofs.Holding.{direction_by}

-- ---- the two half turns

-- a direction in the first half turn
pub upper_to : (t : Trace) → is_upper t ≡ true → IsFirst t.b t.a
upper_to t e =
    ⊎_elim
    (λ h. let p = positive_is t.b h in record { least = omega (arith, linear, p); then = λ z. absurd (omega (arith, linear, p, z)) })
    (λ h. let z = zero_is t.b (and_first (is_zero t.b) _ h) in
    let p = positive_is t.a (and_second (is_zero t.b) _ h) in
    record { least = omega (arith, linear, z); then = λ y. p })
    (or_cases (is_positive t.b) _ e)

-- a direction in the second half turn
pub lower_to : (t : Trace) → IsDirection t.a t.b → is_upper t ≡ false → IsFirst (neg_ℤ t.b) (neg_ℤ t.a)
lower_to t n e = record {
  least = neg_nonneg t.b (not_positive_is t.b (or_false_left (is_positive t.b) (is_zero t.b && is_positive t.a) e));
  then = λ z. below t.a (not_positive_is t.a (and_false (is_zero t.b) (is_positive t.a) (is_zero_true t.b (unneg t.b z)) (or_false_right (is_positive t.b) (is_zero t.b && is_positive t.a) e))) (λ y. n y (unneg t.b z));
}
  where
    or_false_left : (x y : Bool) → (x || y) ≡ false → x ≡ false
    or_false_left true y e = e
    or_false_left false y e = refl

    or_false_right : (x y : Bool) → (x || y) ≡ false → y ≡ false
    or_false_right true y e = absurd (false_not_true true refl e)
    or_false_right false y e = e

    and_false : (x y : Bool) → x ≡ true → (x && y) ≡ false → y ≡ false
    and_false true y t e = e
    and_false false y t e = absurd (false_not_true false t refl)

    unneg : (v : ℤ) → neg_ℤ v ≡ pos 0 → v ≡ pos 0
    unneg v z = omega (arith, linear, z)

    below : (v : ℤ) → v ≤ℤ pos 0 → (v ≡ pos 0 → ⊥) → pos 0 <ℤ neg_ℤ v
    below v h n = ⊎_elim (λ (l : v <ℤ pos 0). omega (arith, linear, l)) (λ r. ⊎_elim (λ (z : v ≡ pos 0). absurd (n z)) (λ g. absurd (omega (arith, linear, g, h))) r) (trichotomy_ℤ v (pos 0))

-- a factor is above 0 where it keeps a first direction first
sign_of_first : (c a b : ℤ) → IsFirst a b → IsFirst (c *ℤ a) (c *ℤ b) → pos 0 <ℤ c
sign_of_first c a b h k =
    ⊎_elim
    (λ (l : c <ℤ pos 0). absurd (turned c a b l h k))
    (λ r. ⊎_elim (λ (z : c ≡ pos 0). absurd (let m = k.then (zero_left c a z) in let y = zero_left c b z in omega (arith, linear, m, y))) (λ g. g) r)
    (trichotomy_ℤ c (pos 0))
  where
    zero_left : (c a : ℤ) → c ≡ pos 0 → c *ℤ a ≡ pos 0
    zero_left c a z = ap (λ (u : ℤ). u *ℤ a) z ∙ by_ring_at (a ∷ []) (search reify depth 40 fits 100000) tt

    turned : (c a b : ℤ) → c <ℤ pos 0 → IsFirst a b → IsFirst (c *ℤ a) (c *ℤ b) → ⊥
    turned c a b l h k =
        let n : pos 0 <ℤ neg_ℤ c = omega (arith, linear, l) in
        let o = first_sum (neg_ℤ c *ℤ a) (neg_ℤ c *ℤ b) (c *ℤ a) (c *ℤ b) (first_times (neg_ℤ c) a b n h) (not_last (c *ℤ a) (c *ℤ b) k) in
        let z : neg_ℤ c *ℤ a +ℤ c *ℤ a ≡ pos 0 = by_ring_at (c ∷ a ∷ []) (search reify depth 40 fits 100000) tt in
        let y : neg_ℤ c *ℤ b +ℤ c *ℤ b ≡ pos 0 = by_ring_at (c ∷ b ∷ []) (search reify depth 40 fits 100000) tt in
        let m = o.then z in
        omega (arith, linear, m, y)

-- within a half turn the order is transitive
pub half_chain : (sa sb ta tb ua ub : ℤ) → IsFirst sb sa → IsFirst tb ta → IsFirst ub ua → pos 0 <ℤ (sa *ℤ tb -ℤ ta *ℤ sb) → pos 0 <ℤ (ta *ℤ ub -ℤ ua *ℤ tb) → pos 0 <ℤ (sa *ℤ ub -ℤ ua *ℤ sb)
half_chain sa sb ta tb ua ub hs ht hu st tu =
    let d = direction_by sa sb ua ub ta tb in
    let k = first_sum _ _ _ _ (first_times (ta *ℤ ub -ℤ ua *ℤ tb) sb sa tu hs) (not_last _ _ (first_times (sa *ℤ tb -ℤ ta *ℤ sb) ub ua st hu)) in
    sign_of_first (sa *ℤ ub -ℤ ua *ℤ sb) tb ta ht
    (subst (λ (x : ℤ). IsFirst ((sa *ℤ ub -ℤ ua *ℤ sb) *ℤ tb) x) (sym d.0) (subst (λ (x : ℤ). IsFirst x ((ta *ℤ ub -ℤ ua *ℤ tb) *ℤ sa +ℤ (sa *ℤ tb -ℤ ta *ℤ sb) *ℤ ua)) (sym d.1) k))

-- cross products of negatives
pub cross_negated : (sa sb ta tb : ℤ) → neg_ℤ sa *ℤ neg_ℤ tb -ℤ neg_ℤ ta *ℤ neg_ℤ sb ≡ sa *ℤ tb -ℤ ta *ℤ sb
cross_negated sa sb ta tb = by_ring_at (sa ∷ sb ∷ ta ∷ tb ∷ []) (search reify depth 40 fits 100000) tt

-- the same in the second half turn
lower_chain : (s t u : Trace) → IsFirst (neg_ℤ s.b) (neg_ℤ s.a) → IsFirst (neg_ℤ t.b) (neg_ℤ t.a) → IsFirst (neg_ℤ u.b) (neg_ℤ u.a) → pos 0 <ℤ cross s t → pos 0 <ℤ cross t u → pos 0 <ℤ cross s u
lower_chain s t u hs ht hu st tu =
    subst (λ (x : ℤ). pos 0 <ℤ x) (cross_negated s.a s.b u.a u.b)
    (half_chain (neg_ℤ s.a) (neg_ℤ s.b) (neg_ℤ t.a) (neg_ℤ t.b) (neg_ℤ u.a) (neg_ℤ u.b) hs ht hu
    (subst (λ (x : ℤ). pos 0 <ℤ x) (sym (cross_negated s.a s.b t.a t.b)) st)
    (subst (λ (x : ℤ). pos 0 <ℤ x) (sym (cross_negated t.a t.b u.a u.b)) tu))

-- ---- the order

-- the order is transitive, by the half turns
chain_by : (s t u : Trace) → IsDirection s.a s.b → IsDirection t.a t.b → IsDirection u.a u.b → (x y z : Bool) → is_upper s ≡ x → is_upper t ≡ y → is_upper u ≡ z
    → is_before_by x y s t ≡ true → is_before_by y z t u ≡ true → is_before_by x z s u ≡ true
chain_by s t u ns nt nu true true true es et eu h k = is_positive_true _ (half_chain s.a s.b t.a t.b u.a u.b (upper_to s es) (upper_to t et) (upper_to u eu) (positive_is _ h) (positive_is _ k))
chain_by s t u ns nt nu true true false es et eu h k = refl
chain_by s t u ns nt nu true false true es et eu h k = absurd (false_not_true false k refl)
chain_by s t u ns nt nu true false false es et eu h k = refl
chain_by s t u ns nt nu false true z es et eu h k = absurd (false_not_true false h refl)
chain_by s t u ns nt nu false false true es et eu h k = absurd (false_not_true false k refl)
chain_by s t u ns nt nu false false false es et eu h k = is_positive_true _ (lower_chain s t u (lower_to s ns es) (lower_to t nt et) (lower_to u nu eu) (positive_is _ h) (positive_is _ k))

-- the order is transitive
pub before_chain : (s t u : Trace) → IsDirection s.a s.b → IsDirection t.a t.b → IsDirection u.a u.b → is_angle_before s t ≡ true → is_angle_before t u ≡ true → is_angle_before s u ≡ true
before_chain s t u ns nt nu h k = chain_by s t u ns nt nu (is_upper s) (is_upper t) (is_upper u) refl refl refl h k

-- no direction is before itself
pub not_before_itself : (s : Trace) → is_angle_before s s ≡ true → ⊥
not_before_itself s h = by_half (is_upper s) h
  where
    none : is_positive (cross s s) ≡ true → ⊥
    none e =
        let p = positive_is (cross s s) e in
        let z : cross s s ≡ pos 0 = by_ring_at (s.a ∷ s.b ∷ []) (search reify depth 40 fits 100000) tt in
        omega (arith, linear, p, z)

    by_half : (x : Bool) → is_before_by x x s s ≡ true → ⊥
    by_half true e = none e
    by_half false e = none e

-- ---- rising steps

-- the edges of the steps have directions
abbrev pub HaveDirections : List RingStep → Type 0
HaveDirections steps = (s : RingStep) → Listed s steps → IsDirection s.edge.a s.edge.b

-- the steps behind the first rise
pub rising_rest : (s : RingStep) (steps : List RingStep) → angles_rise (s ∷ steps) ≡ true → angles_rise steps ≡ true
rising_rest s [] e = refl
rising_rest s (t ∷ steps) e = and_second (is_angle_before s.edge t.edge) (angles_rise (t ∷ steps)) e

-- the first step is before all others
pub before_rest : (s : RingStep) (steps : List RingStep) → HaveDirections (s ∷ steps) → angles_rise (s ∷ steps) ≡ true → (t : RingStep) → Listed t steps → is_angle_before s.edge t.edge ≡ true
before_rest s [] n e t l = elim l [ ]
before_rest s (r ∷ steps) n e t first = and_first (is_angle_before s.edge r.edge) _ e
before_rest s (r ∷ steps) n e t (later l) =
    before_chain s.edge r.edge t.edge (n s first) (n r (later first)) (n t (later (later l))) (and_first (is_angle_before s.edge r.edge) _ e)
    (before_rest r steps (λ u m. n u (later m)) (and_second (is_angle_before s.edge r.edge) _ e) t l)
