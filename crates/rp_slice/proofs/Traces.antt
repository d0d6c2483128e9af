-- Traces of half-spaces: their numbers are those of the half-space on the plane of the height, divided by a number above 0.
use Rattle.std.proofs.Common.{◌≡◌, ◌<◌, ℤ, pos, ◌+ℤ◌, ◌*ℤ◌, ◌≤ℤ◌, ◌<ℤ◌, Bool, true, false, ◌&&◌, ◌||◌, not, List, [], ◌∷◌, ⊎_elim, refl, sym, ap, ◌∙◌, subst, arith}
use Rattle.std.proofs.lemmas.Bool.{or_cases, or_left, or_right}
use Rattle.std.proofs.lemmas.Bool.Decides.{Decides-int_eq}
use Rattle.rp_algebra.specs.Integer.{int_eq, is_zero, is_positive, is_nonnegative, gcd_of}
use Rattle.rp_algebra.proofs.IntLaws.{mul_pos_ℤ}
use Rattle.rp_algebra.proofs.Numbers.{nat_positive}
use Rattle.rp_algebra.proofs.Divisors.{gcd_of-divides, gcd_of-positive}
use Rattle.rp_algebra.proofs.LowestTerms.{exact_quotient, quotients, same_lowest_terms}
use Rattle.rp_algebra.proofs.Reify.{by_ring_at, reify}
use Rattle.rp_algebra.proofs.Tests.{and_first, and_second, and_true, is_zero_true, nonnegative_is, is_nonnegative_true, false_not_true}
use Rattle.rp_algebra.proofs.Listed.{Listed, first, later, pass_all}
use Rattle.rp_geometry.specs.Geometry.{RationalPoint, HalfSpace, side_value, owns_boundary, holds}
use Rattle.rp_geometry.specs.sections.Trace.{IsAtHeight, Trace, has_trace, offset_at, trace_at, upright, trace_holds, trace_value, trace_eq, trace_before}
use Rattle.rp_geometry.specs.sections.Ring.{is_trace_of, all_traces_hold}
pub use Rattle.rp_geometry.specs.sections.Trace.{traces}
use Rattle.rp_convex.proofs.Signs.{HaveSameSign, same_sign}

-- ---- directions

-- the direction is not zero
abbrev pub IsDirection : ℤ → ℤ → Type 0
IsDirection a b = a ≡ pos 0 → b ≡ pos 0 → ⊥

-- a half-space with a trace has a direction
pub direction_of : (h : HalfSpace) → has_trace h ≡ true → IsDirection h.a h.b
direction_of h e a b = no (is_zero h.a) (is_zero h.b) (is_zero_true h.a a) (is_zero_true h.b b) e
  where
    no : (x y : Bool) → x ≡ true → y ≡ true → not (x && y) ≡ true → ⊥
    no true true p q e = false_not_true false e refl
    no true false p q e = false_not_true false q refl
    no false y p q e = false_not_true false p refl

-- ---- one trace

-- the numbers of a half-space on the plane of height z are those of the trace, times a number above 0
pub record IsTraceAt (z : ℤ) (h : HalfSpace) (t : Trace) : Type 0 where
  pub factor : ℤ
  pub positive : pos 0 <ℤ factor
  pub a : factor *ℤ t.a ≡ h.a
  pub b : factor *ℤ t.b ≡ h.b
  pub d : factor *ℤ t.d ≡ offset_at z h

-- the numbers of which the trace is made
abbrev pub plane_numbers : ℤ → HalfSpace → List ℤ
plane_numbers z h = h.a ∷ h.b ∷ offset_at z h ∷ []

-- their greatest common divisor is above 0
gcd_above : (z : ℤ) (h : HalfSpace) → IsDirection h.a h.b → 0 < gcd_of (plane_numbers z h)
gcd_above z h n = gcd_of-positive (plane_numbers z h) (λ k. n k.0 k.1.0)

-- the trace is one
pub trace_at-is : (z : ℤ) (h : HalfSpace) → IsDirection h.a h.b → IsTraceAt z h (trace_at z h)
unfolding trace_at
trace_at-is z h n =
    let g = gcd_of (plane_numbers z h) in
    let d = gcd_of-divides (plane_numbers z h) in
    record {
      factor = pos g;
      positive = nat_positive g (gcd_above z h n);
      a = exact_quotient g h.a d.0;
      b = exact_quotient g h.b d.1.0;
      d = exact_quotient g (offset_at z h) d.1.1.0;
    }

-- the direction of a trace is not zero
pub trace_direction : (z : ℤ) (h : HalfSpace) (t : Trace) → IsDirection h.a h.b → IsTraceAt z h t → IsDirection t.a t.b
trace_direction z h t n k a b = n (times_zero k.factor t.a h.a k.a a) (times_zero k.factor t.b h.b k.b b)
  where
    times_zero : (g x y : ℤ) → g *ℤ x ≡ y → x ≡ pos 0 → y ≡ pos 0
    times_zero g x y e z = sym e ∙ ap (λ (u : ℤ). g *ℤ u) z ∙ by_ring_at (g ∷ []) (search reify depth 40 fits 100000) tt

-- the value of a half-space at a point of height z
value_of_level : (a b c d x y z w : ℤ) → a *ℤ x +ℤ b *ℤ y +ℤ c *ℤ (z *ℤ w) +ℤ d *ℤ w ≡ a *ℤ x +ℤ b *ℤ y +ℤ (c *ℤ z +ℤ d) *ℤ w
value_of_level a b c d x y z w = by_ring_at (a ∷ b ∷ c ∷ d ∷ x ∷ y ∷ z ∷ w ∷ []) (search reify depth 40 fits 100000) tt

-- a multiple of a trace's value
pub value_of_factor : (g a b d x y w : ℤ) → (g *ℤ a) *ℤ x +ℤ (g *ℤ b) *ℤ y +ℤ (g *ℤ d) *ℤ w ≡ g *ℤ (a *ℤ x +ℤ b *ℤ y +ℤ d *ℤ w)
value_of_factor g a b d x y w = by_ring_at (g ∷ a ∷ b ∷ d ∷ x ∷ y ∷ w ∷ []) (search reify depth 40 fits 100000) tt

-- the value of the half-space at a point of the height, from its numbers on the plane
pub side_at_height : (z : ℤ) (h : HalfSpace) (p : RationalPoint) → IsAtHeight z p → side_value h p ≡ h.a *ℤ p.x +ℤ h.b *ℤ p.y +ℤ offset_at z h *ℤ p.w
side_at_height z h p e = ap (λ (v : ℤ). h.a *ℤ p.x +ℤ h.b *ℤ p.y +ℤ h.c *ℤ v +ℤ h.d *ℤ p.w) e ∙ value_of_level h.a h.b h.c h.d p.x p.y z p.w

-- it is that of the trace, times the factor
pub side_of_trace : (z : ℤ) (h : HalfSpace) (t : Trace) (p : RationalPoint) → IsAtHeight z p → (k : IsTraceAt z h t) → side_value h p ≡ k.factor *ℤ trace_value t p
side_of_trace z h t p e k =
    side_at_height z h p e
    ∙ (λ i. sym k.a i *ℤ p.x +ℤ sym k.b i *ℤ p.y +ℤ sym k.d i *ℤ p.w)
    ∙ value_of_factor k.factor t.a t.b t.d p.x p.y p.w

-- the value of the upright half-space is that of the trace
pub upright_value : (t : Trace) (p : RationalPoint) → side_value (upright t) p ≡ trace_value t p
upright_value t p = by_ring_at (t.a ∷ t.b ∷ t.d ∷ p.x ∷ p.y ∷ p.z ∷ p.w ∷ []) (search reify depth 40 fits 100000) tt

-- a number and its multiple by a number above 0 have the same sign
times_sign : (g u v : ℤ) → pos 0 <ℤ g → g *ℤ u ≡ v → HaveSameSign v u
times_sign g u v p e = same_sign v u g (pos 1) p (let o : pos 0 <ℤ pos 1 = nat_positive 1 (omega arith) in o) (by_one v ∙ sym e)
  where
    by_one : (v : ℤ) → pos 1 *ℤ v ≡ v
    by_one v = by_ring_at (v ∷ []) (search reify depth 40 fits 100000) tt

-- where a and b are not both 0, c decides nothing
third_is_free : (pa za pb zb pc : Bool) → not (za && zb) ≡ true → (pa || (za && (pb || (zb && pc)))) ≡ (pa || (za && (pb || (zb && false))))
third_is_free true za pb zb pc e = refl
third_is_free false false pb zb pc e = refl
third_is_free false true true zb pc e = refl
third_is_free false true false true pc e = absurd (false_not_true false e refl)
third_is_free false true false false pc e = refl

-- at the height the trace holds what the half-space holds
pub trace_holds_same : (z : ℤ) (h : HalfSpace) (t : Trace) (p : RationalPoint) → has_trace h ≡ true → IsTraceAt z h t → IsAtHeight z p → holds h p ≡ trace_holds t p
trace_holds_same z h t p n k e =
    let v = times_sign k.factor (trace_value t p) (side_value h p) k.positive (sym (side_of_trace z h t p e k)) in
    let a = times_sign k.factor t.a h.a k.positive k.a in
    let b = times_sign k.factor t.b h.b k.positive k.b in
    let u = upright_value t p in
    (λ i. v.positive i || (v.zero i && owns_boundary h))
    ∙ (λ i. is_positive (sym u i) || (is_zero (sym u i) && owns_boundary h))
    ∙ ap (λ (o : Bool). is_positive (side_value (upright t) p) || (is_zero (side_value (upright t) p) && o))
    (third_is_free (is_positive h.a) (is_zero h.a) (is_positive h.b) (is_zero h.b) (is_positive h.c) n
    ∙ (λ i. a.positive i || (a.zero i && (b.positive i || (b.zero i && false)))))

-- ---- the traces of a list

-- a half-space of the list with a trace has it among them
pub trace_listed : (z : ℤ) (hs : List HalfSpace) (h : HalfSpace) → Listed h hs → has_trace h ≡ true → Listed (trace_at z h) (traces z hs)
trace_listed z [] h l e = elim l [ ]
trace_listed z (k ∷ hs) h first e = subst (λ (b : Bool). Listed (trace_at z k) (trace_before b (trace_at z k) (traces z hs))) (sym e) first
trace_listed z (k ∷ hs) h (later l) e = behind (has_trace k) (trace_listed z hs h l e)
  where
    behind : (b : Bool) → Listed (trace_at z h) (traces z hs) → Listed (trace_at z h) (trace_before b (trace_at z k) (traces z hs))
    behind true m = later m
    behind false m = m

-- a half-space of the list, of which a trace is
pub record ComesFrom (z : ℤ) (hs : List HalfSpace) (t : Trace) : Type 0 where
  pub of : HalfSpace
  pub listed : Listed of hs
  pub has : has_trace of ≡ true
  pub same : t ≡ trace_at z of

module _ (z : ℤ) (k : HalfSpace) (hs : List HalfSpace) (t : Trace) (rest : Listed t (traces z hs) → ComesFrom z hs t) where
  -- one that comes from the rest
  from_rest : ComesFrom z hs t → ComesFrom z (k ∷ hs) t
  from_rest c = record { of = c.of; listed = later c.listed; has = c.has; same = c.same }

  -- where the first half-space has a trace
  from_first : (u : Trace) → u ≡ trace_at z k → has_trace k ≡ true → Listed t (u ∷ traces z hs) → ComesFrom z (k ∷ hs) t
  from_first u s e first = record { of = k; listed = first; has = e; same = s }
  from_first u s e (later m) = from_rest (rest m)

  -- whether it has one or not
  from_test : (b : Bool) → has_trace k ≡ b → Listed t (trace_before b (trace_at z k) (traces z hs)) → ComesFrom z (k ∷ hs) t
  from_test true e m = from_first (trace_at z k) refl e m
  from_test false e m = from_rest (rest m)

-- each of them comes from one of the list
pub trace_from : (z : ℤ) (hs : List HalfSpace) (t : Trace) → Listed t (traces z hs) → ComesFrom z hs t
trace_from z [] t l = elim l [ ]
trace_from z (k ∷ hs) t l = from_test z k hs t (λ m. trace_from z hs t m) (has_trace k) refl l

-- each is the trace of one of the list
pub record IsTraceIn (z : ℤ) (hs : List HalfSpace) (t : Trace) : Type 0 where
  pub of : HalfSpace
  pub listed : Listed of hs
  pub has : has_trace of ≡ true
  pub is : IsTraceAt z of t
  pub direction : IsDirection t.a t.b

-- so it is
pub trace_in : (z : ℤ) (hs : List HalfSpace) (t : Trace) → Listed t (traces z hs) → IsTraceIn z hs t
trace_in z hs t l =
    let c = trace_from z hs t l in
    let n = direction_of c.of c.has in
    let k = subst (λ (u : Trace). IsTraceAt z c.of u) (sym c.same) (trace_at-is z c.of n) in
    record { of = c.of; listed = c.listed; has = c.has; is = k; direction = trace_direction z c.of t n k }

-- ---- equal traces

-- traces that pass the test are equal
pub trace_eq-to : (s t : Trace) → trace_eq s t ≡ true → s ≡ t
trace_eq-to s t e =
    let bd = and_second (int_eq s.a t.a) _ e in
    let ea = (Decides-int_eq s.a t.a).0 (and_first (int_eq s.a t.a) _ e) in
    let eb = (Decides-int_eq s.b t.b).0 (and_first (int_eq s.b t.b) _ bd) in
    let ed = (Decides-int_eq s.d t.d).0 (and_second (int_eq s.b t.b) _ bd) in
    λ i. record { a = ea i; b = eb i; d = ed i }

-- a trace is equal to itself
pub trace_eq-same : (t : Trace) → trace_eq t t ≡ true
trace_eq-same t = and_true _ _ ((Decides-int_eq t.a t.a).1 refl) (and_true _ _ ((Decides-int_eq t.b t.b).1 refl) ((Decides-int_eq t.d t.d).1 refl))

-- the test of a trace of a list says that it is among the traces
pub is_trace_of-to : (z : ℤ) (hs : List HalfSpace) (t : Trace) → is_trace_of z hs t ≡ true → Listed t (traces z hs)
is_trace_of-to z [] t e = absurd (false_not_true false e refl)
is_trace_of-to z (h ∷ hs) t e =
    ⊎_elim
    (λ k. let s = trace_eq-to (trace_at z h) t (and_second (has_trace h) _ k) in
    subst (λ (u : Trace). Listed u (traces z (h ∷ hs))) s (trace_listed z (h ∷ hs) h first (and_first (has_trace h) _ k)))
    (λ k. behind (has_trace h) (is_trace_of-to z hs t k))
    (or_cases (has_trace h && trace_eq (trace_at z h) t) (is_trace_of z hs t) e)
  where
    behind : (b : Bool) → Listed t (traces z hs) → Listed t (trace_before b (trace_at z h) (traces z hs))
    behind true m = later m
    behind false m = m

-- and the other way round
pub is_trace_of-from : (z : ℤ) (hs : List HalfSpace) (t : Trace) → Listed t (traces z hs) → is_trace_of z hs t ≡ true
is_trace_of-from z hs t l = let c = trace_from z hs t l in of_listed hs c.of c.listed c.has c.same
  where
    of_listed : (gs : List HalfSpace) (h : HalfSpace) → Listed h gs → has_trace h ≡ true → t ≡ trace_at z h → is_trace_of z gs t ≡ true
    of_listed [] h l e s = elim l [ ]
    of_listed (k ∷ gs) h first e s = or_left _ _ (and_true _ _ e (subst (λ (u : Trace). trace_eq (trace_at z k) u ≡ true) (sym s) (trace_eq-same (trace_at z k))))
    of_listed (k ∷ gs) h (later l) e s = or_right _ _ (of_listed gs h l e s)

module _ (z : ℤ) (h : HalfSpace) (hs : List HalfSpace) (p : RationalPoint) (t : Trace) (rest : Listed t (traces z hs) → pos 0 ≤ℤ trace_value t p) where
  -- where the first half-space has a trace
  holds_first : (v : Trace) → pos 0 ≤ℤ trace_value v p → Listed t (v ∷ traces z hs) → pos 0 ≤ℤ trace_value t p
  holds_first v k first = k
  holds_first v k (later m) = rest m

  -- whether it has one or not
  holds_test : (b : Bool) → (not b || is_nonnegative (trace_value (trace_at z h) p)) ≡ true → Listed t (trace_before b (trace_at z h) (traces z hs)) → pos 0 ≤ℤ trace_value t p
  holds_test true k m = holds_first (trace_at z h) (nonnegative_is _ k) m
  holds_test false k m = rest m

-- the test of all traces at a point says that none is negative
pub all_traces_hold-to : (z : ℤ) (hs : List HalfSpace) (p : RationalPoint) → all_traces_hold z hs p ≡ true → (t : Trace) → Listed t (traces z hs) → pos 0 ≤ℤ trace_value t p
all_traces_hold-to z [] p e t l = elim l [ ]
all_traces_hold-to z (h ∷ hs) p e t l =
    holds_test z h hs p t (λ m. all_traces_hold-to z hs p (and_second (not (has_trace h) || is_nonnegative (trace_value (trace_at z h) p)) _ e) t m) (has_trace h) (and_first _ _ e) l

-- and the other way round
pub all_traces_hold-from : (z : ℤ) (hs : List HalfSpace) (p : RationalPoint) → ((t : Trace) → Listed t (traces z hs) → pos 0 ≤ℤ trace_value t p) → all_traces_hold z hs p ≡ true
all_traces_hold-from z hs p k = pass_all (λ h. not (has_trace h) || is_nonnegative (trace_value (trace_at z h) p)) hs (λ h l. by_test h l (has_trace h) refl)
  where
    by_test : (h : HalfSpace) → Listed h hs → (b : Bool) → has_trace h ≡ b → (not b || is_nonnegative (trace_value (trace_at z h) p)) ≡ true
    by_test h l true e = is_nonnegative_true _ (k (trace_at z h) (trace_listed z hs h l e))
    by_test h l false e = refl

-- ---- traces of one line are one

-- equal lists of three have equal numbers
same_three : (a b c e f g : ℤ) → a ∷ b ∷ c ∷ [] ≡ e ∷ f ∷ g ∷ [] → (a ≡ e) × (b ≡ f) × (c ≡ g)
same_three a b c e f g s = ((cc), (cc), (cc))

-- the traces of numbers with equal quotients are one
same_quotients : (z : ℤ) (h k : HalfSpace) → quotients (gcd_of (plane_numbers z h)) (plane_numbers z h) ≡ quotients (gcd_of (plane_numbers z k)) (plane_numbers z k) → trace_at z h ≡ trace_at z k
unfolding trace_at
same_quotients z h k e = let r = same_three _ _ _ _ _ _ e in λ i. record { a = r.0 i; b = r.1 i; d = r.2 i }

-- the ratio of two numbers of half-spaces, from that of two numbers of traces
in_ratio : (f g m n x y u v : ℤ) → f *ℤ x ≡ u → g *ℤ y ≡ v → m *ℤ x ≡ n *ℤ y → u *ℤ (g *ℤ m) ≡ v *ℤ (f *ℤ n)
in_ratio f g m n x y u v eu ev e =
    (λ i. sym eu i *ℤ (g *ℤ m))
    ∙ left
    ∙ ap (λ (k : ℤ). (f *ℤ g) *ℤ k) e
    ∙ right
    ∙ (λ i. ev i *ℤ (f *ℤ n))
  where
    left : (f *ℤ x) *ℤ (g *ℤ m) ≡ (f *ℤ g) *ℤ (m *ℤ x)
    left = by_ring_at (f ∷ g ∷ m ∷ x ∷ []) (search reify depth 40 fits 100000) tt

    right : (f *ℤ g) *ℤ (n *ℤ y) ≡ (g *ℤ y) *ℤ (f *ℤ n)
    right = by_ring_at (f ∷ g ∷ n ∷ y ∷ []) (search reify depth 40 fits 100000) tt

-- two traces of which multiples above 0 are equal are one
pub same_trace : (z : ℤ) (h k : HalfSpace) (m n : ℤ) → IsDirection h.a h.b → IsDirection k.a k.b → pos 0 <ℤ m → pos 0 <ℤ n
    → m *ℤ (trace_at z h).a ≡ n *ℤ (trace_at z k).a → m *ℤ (trace_at z h).b ≡ n *ℤ (trace_at z k).b → m *ℤ (trace_at z h).d ≡ n *ℤ (trace_at z k).d
    → trace_at z h ≡ trace_at z k
same_trace z h k m n hd kd hm hn ea eb ed =
    let s = trace_at-is z h hd in
    let t = trace_at-is z k kd in
    let f = s.factor in
    let g = t.factor in
    same_quotients z h k
    (same_lowest_terms (f *ℤ n) (g *ℤ m) (plane_numbers z h) (plane_numbers z k) (mul_pos_ℤ f n s.positive hn) (mul_pos_ℤ g m t.positive hm) (gcd_above z h hd)
    (in_ratio f g m n _ _ h.a k.a s.a t.a ea, (in_ratio f g m n _ _ h.b k.b s.b t.b eb, (in_ratio f g m n _ _ (offset_at z h) (offset_at z k) s.d t.d ed, tt))))

-- the same of two traces of a list
pub same_listed : (z : ℤ) (hs : List HalfSpace) (s t : Trace) (m n : ℤ) → Listed s (traces z hs) → Listed t (traces z hs) → pos 0 <ℤ m → pos 0 <ℤ n
    → m *ℤ s.a ≡ n *ℤ t.a → m *ℤ s.b ≡ n *ℤ t.b → m *ℤ s.d ≡ n *ℤ t.d → s ≡ t
same_listed z hs s t m n ls lt hm hn ea eb ed =
    let c = trace_from z hs s ls in
    let k = trace_from z hs t lt in
    c.same
    ∙ same_trace z c.of k.of m n (direction_of c.of c.has) (direction_of k.of k.has) hm hn
    ((λ i. m *ℤ (sym c.same i).a) ∙ ea ∙ (λ i. n *ℤ (k.same i).a))
    ((λ i. m *ℤ (sym c.same i).b) ∙ eb ∙ (λ i. n *ℤ (k.same i).b))
    ((λ i. m *ℤ (sym c.same i).d) ∙ ed ∙ (λ i. n *ℤ (k.same i).d))
    ∙ sym k.same
