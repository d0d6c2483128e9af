-- A member at the height and a flat certificate exclude each other.
use Rattle.std.proofs.Common.{◌≡◌, ℤ, pos, neg_ℤ, ◌+ℤ◌, ◌*ℤ◌, ◌≤ℤ◌, ◌<ℤ◌, Bool, true, false, ◌&&◌, ◌||◌, not, List, [], ◌∷◌, length, ◌⊎◌, ⊎_elim, refl, sym, ◌∙◌, subst, arith}
use Rattle.std.specs.List.{AllByRecursion, list_all}
use Rattle.std.proofs.lemmas.Int.{ints}
use Rattle.std.proofs.lemmas.Bool.{or_cases}
use Rattle.rp_algebra.specs.Integer.{is_zero}
use Rattle.rp_algebra.proofs.IntLaws.{linear, signs, cancel_mul_left_ℤ, nonneg_of_pos_ℤ, add_nonneg_ℤ}
use Rattle.rp_algebra.proofs.Reify.{by_ring_at, le_by_ring, reify}
use Rattle.rp_algebra.proofs.Tests.{and_first, and_second, zero_is, at_most_is, false_not_true}
use Rattle.rp_algebra.proofs.Listed.{of_all}
use Rattle.rp_geometry.specs.Geometry.{RationalPoint, HalfSpace, side_value, is_listed}
use Rattle.rp_geometry.specs.searches.Certificate.{Multiple, weighted_sum, is_multiplier}
use Rattle.rp_geometry.specs.sections.Trace.{IsAtHeight, has_trace, offset_at, trace_at, trace_holds, trace_value, holds_level, with_sides}
use Rattle.rp_geometry.specs.laws.SectionLaws.{IsMemberAt}
use Rattle.rp_geometry.specs.sections.Flat.{is_one_to_three, is_level_kind, is_trace_kind, is_flat}
use Rattle.rp_convex.proofs.Tests.{listed-to, multiplier-to}
use Rattle.rp_slice.proofs.Traces.{direction_of, trace_at-is, side_at_height, side_of_trace, trace_listed}
use Rattle.rp_slice.proofs.Owned.{IsNotLast, first_times, first_sum, not_last, IsHeldBy, held_to}
use Rattle.rp_slice.proofs.Members.{IsHeldAt, held_at_of}

-- ---- sums of what is held

-- a value at least 0, and where it is 0 a direction that is not last
pub record IsKeptBy (v a b : ℤ) : Type 0 where
  pub least : pos 0 ≤ℤ v
  pub then : v ≡ pos 0 → IsNotLast a b

-- what is held is kept
pub kept : (v a b : ℤ) → IsHeldBy v a b → IsKeptBy v a b
kept v a b h = record { least = h.least; then = λ z. not_last a b (h.then z) }

-- a multiple above 0
pub held_times : (k v a b : ℤ) → pos 0 <ℤ k → IsHeldBy v a b → IsHeldBy (k *ℤ v) (k *ℤ a) (k *ℤ b)
held_times k v a b hk h = record { least = (let l = h.least in search signs); then = λ z. first_times k a b hk (h.then (zero_over k v hk z)) }
  where
    zero_over : (k a : ℤ) → pos 0 <ℤ k → k *ℤ a ≡ pos 0 → a ≡ pos 0
    zero_over k a h e = cancel_mul_left_ℤ k a (pos 0) h (e ∙ by_ring_at (k ∷ []) (search reify depth 40 fits 100000) tt)

-- two numbers at least 0 that add up to 0
two_zero : (a c : ℤ) → pos 0 ≤ℤ a → pos 0 ≤ℤ c → a +ℤ c ≡ pos 0 → (a ≡ pos 0) × (c ≡ pos 0)
two_zero a c h k e = (omega (arith, linear, h, k, e), omega (arith, linear, h, k, e))

-- what is held and what is kept
pub held_sum : (v a b w c d : ℤ) → IsHeldBy v a b → IsKeptBy w c d → IsHeldBy (v +ℤ w) (a +ℤ c) (b +ℤ d)
held_sum v a b w c d h k = record {
  least = add_nonneg_ℤ v w h.least k.least;
  then = λ e. (let z = two_zero v w h.least k.least e in first_sum a b c d (h.then z.0) (k.then z.1));
}

-- ---- the terms of the second kind

-- a half-space with a trace, by its value at the point
abbrev pub IsHeldWhere : RationalPoint → HalfSpace → Type 0
IsHeldWhere p h = IsHeldBy (side_value h p) h.a h.b

-- what the trace holds the half-space holds
pub held_of_trace : (z : ℤ) (h : HalfSpace) (p : RationalPoint) → has_trace h ≡ true → IsAtHeight z p → trace_holds (trace_at z h) p ≡ true → IsHeldWhere p h
held_of_trace z h p n e t =
    let k = trace_at-is z h (direction_of h n) in
    let u = held_times k.factor (trace_value (trace_at z h) p) (trace_at z h).a (trace_at z h).b k.positive (held_to (trace_at z h) p t) in
    by_paths (sym (side_of_trace z h (trace_at z h) p e k)) k.a k.b u
  where
    by_paths : {v w a b c d : ℤ} → v ≡ w → a ≡ b → c ≡ d → IsHeldBy v a c → IsHeldBy w b d
    by_paths {v} {w} {a} {b} {c} {d} ev ea ec h = subst (λ (x : ℤ). IsHeldBy w b x) ec (subst (λ (x : ℤ). IsHeldBy w x c) ea (subst (λ (x : ℤ). IsHeldBy x a c) ev h))

-- the terms have factors above 0
abbrev pub HavePositiveFactors : List Multiple → Type 0
HavePositiveFactors ts = AllByRecursion (λ t. pos 0 <ℤ t.factor) ts

module _ (p : RationalPoint) where
  -- the sums over the terms are kept
  sum_kept : (ts : List Multiple) → HavePositiveFactors ts → AllByRecursion (λ t. IsHeldWhere p t.of) ts
      → IsKeptBy (weighted_sum (λ h. side_value h p) ts) (weighted_sum (λ h. h.a) ts) (weighted_sum (λ h. h.b) ts)
  sum_kept [] f h = record { least = omega (arith, ints); then = λ z. record { least = omega (arith, ints); then = λ y. omega (arith, ints) } }
  sum_kept (t ∷ ts) f h =
      kept _ _ _ (held_sum _ _ _ _ _ _ (held_times t.factor (side_value t.of p) t.of.a t.of.b f.0 h.0) (sum_kept ts f.1 h.1))

  -- those over one term or more are held
  sum_held : (t : Multiple) (ts : List Multiple) → HavePositiveFactors (t ∷ ts) → AllByRecursion (λ u. IsHeldWhere p u.of) (t ∷ ts)
      → IsHeldBy (weighted_sum (λ h. side_value h p) (t ∷ ts)) (weighted_sum (λ h. h.a) (t ∷ ts)) (weighted_sum (λ h. h.b) (t ∷ ts))
  sum_held t ts f h = held_sum _ _ _ _ _ _ (held_times t.factor (side_value t.of p) t.of.a t.of.b f.0 h.0) (sum_kept ts f.1 h.1)

-- the sum of no sides
side_none : (x y w : ℤ) → pos 0 ≡ pos 0 *ℤ x +ℤ pos 0 *ℤ y +ℤ pos 0 *ℤ w
side_none x y w = by_ring_at (x ∷ y ∷ w ∷ []) (search reify depth 40 fits 100000) tt

-- the sum of one side more
side_more : (k a b o ta tb to x y w : ℤ) → k *ℤ (a *ℤ x +ℤ b *ℤ y +ℤ o *ℤ w) +ℤ (ta *ℤ x +ℤ tb *ℤ y +ℤ to *ℤ w) ≡ (k *ℤ a +ℤ ta) *ℤ x +ℤ (k *ℤ b +ℤ tb) *ℤ y +ℤ (k *ℤ o +ℤ to) *ℤ w
side_more k a b o ta tb to x y w = by_ring_at (k ∷ a ∷ b ∷ o ∷ ta ∷ tb ∷ to ∷ x ∷ y ∷ w ∷ []) (search reify depth 40 fits 100000) tt

-- at a point of the height, the sum of the sides is the side of the sums
sum_side : (z : ℤ) (p : RationalPoint) → IsAtHeight z p → (ts : List Multiple)
    → weighted_sum (λ h. side_value h p) ts ≡ weighted_sum (λ h. h.a) ts *ℤ p.x +ℤ weighted_sum (λ h. h.b) ts *ℤ p.y +ℤ weighted_sum (offset_at z) ts *ℤ p.w
sum_side z p e [] = side_none p.x p.y p.w
sum_side z p e (t ∷ ts) =
    (λ i. t.factor *ℤ side_at_height z t.of p e i +ℤ sum_side z p e ts i)
    ∙ side_more t.factor t.of.a t.of.b (offset_at z t.of) (weighted_sum (λ h. h.a) ts) (weighted_sum (λ h. h.b) ts) (weighted_sum (offset_at z) ts) p.x p.y p.w

-- where the directions add up to 0
only_offset : (a b o x y w : ℤ) → a ≡ pos 0 → b ≡ pos 0 → a *ℤ x +ℤ b *ℤ y +ℤ o *ℤ w ≡ o *ℤ w
only_offset a b o x y w ea eb = (λ i. ea i *ℤ x +ℤ eb i *ℤ y +ℤ o *ℤ w) ∙ by_ring_at (x ∷ y ∷ w ∷ o ∷ []) (search reify depth 40 fits 100000) tt

-- a sum that is held is not at most 0 with a direction 0
not_refuted : (v a b o w : ℤ) → pos 0 <ℤ w → IsHeldBy v a b → v ≡ o *ℤ w → o ≤ℤ pos 0 → a ≡ pos 0 → b ≡ pos 0 → ⊥
not_refuted v a b o w hw h e ho ea eb =
    let n : (o *ℤ w) ≤ℤ pos 0 = at_most_zero o w ho (nonneg_of_pos_ℤ w hw) in
    let l = h.least in
    let z : v ≡ pos 0 = omega (arith, linear, n, e, l) in
    let f = (h.then z).then ea in
    omega (arith, linear, f, eb)
  where
    at_most_zero : (o w : ℤ) → o ≤ℤ pos 0 → pos 0 ≤ℤ w → (o *ℤ w) ≤ℤ pos 0
    at_most_zero o w ho hw =
        let m : pos 0 ≤ℤ neg_ℤ o = omega (arith, linear, ho) in
        let c : pos 0 ≤ℤ (neg_ℤ o *ℤ w) = search signs in
        le_by_ring (o ∷ w ∷ []) c (search reify depth 40 fits 100000) tt

-- ---- what a flat certificate says

-- the facts of a flat certificate
pub record IsFlat (z : ℤ) (cell : List HalfSpace) (ts : List Multiple) : Type 0 where
  pub many : is_one_to_three (length ts) ≡ true
  pub terms : list_all (λ t. is_multiplier t.factor && is_listed t.of (with_sides cell)) ts ≡ true
  pub a : weighted_sum (λ h. h.a) ts ≡ pos 0
  pub b : weighted_sum (λ h. h.b) ts ≡ pos 0
  pub kind : (is_level_kind z ts ≡ true) ⊎ (is_trace_kind z ts ≡ true)

-- terms that pass the test have them
pub flat_to : (z : ℤ) (cell : List HalfSpace) (ts : List Multiple) → is_flat z cell ts ≡ true → IsFlat z cell ts
flat_to z cell ts e =
    let abc = and_first _ (is_level_kind z ts || is_trace_kind z ts) e in
    let ab = and_first _ (is_zero (weighted_sum (λ h. h.a) ts) && is_zero (weighted_sum (λ h. h.b) ts)) abc in
    let sums = and_second _ (is_zero (weighted_sum (λ h. h.a) ts) && is_zero (weighted_sum (λ h. h.b) ts)) abc in
    record {
      many = and_first (is_one_to_three (length ts)) _ ab;
      terms = and_second (is_one_to_three (length ts)) _ ab;
      a = zero_is _ (and_first (is_zero (weighted_sum (λ h. h.a) ts)) _ sums);
      b = zero_is _ (and_second (is_zero (weighted_sum (λ h. h.a) ts)) _ sums);
      kind = or_cases _ _ (and_second _ (is_level_kind z ts || is_trace_kind z ts) e);
    }

-- ---- never both
module _ (z : ℤ) (cell : List HalfSpace) (p : RationalPoint) (held : IsHeldAt z cell p) where
  -- a half-space of the flat list with a trace holds the point
  trace_held : (h : HalfSpace) → is_listed h (with_sides cell) ≡ true → has_trace h ≡ true → IsHeldWhere p h
  trace_held h l = listed-to (λ k. has_trace k ≡ true → IsHeldWhere p k) h (with_sides cell) l
      (of_all (λ k. has_trace k ≡ true → IsHeldWhere p k) (with_sides cell) (λ k m n. held_of_trace z k p n held.height (held.traces_hold (trace_at z k) (trace_listed z (with_sides cell) k m n))))

  -- one without holds the height
  level_held : (h : HalfSpace) → is_listed h (with_sides cell) ≡ true → has_trace h ≡ false → holds_level z h ≡ true
  level_held h l = listed-to (λ k. has_trace k ≡ false → holds_level z k ≡ true) h (with_sides cell) l
      (of_all (λ k. has_trace k ≡ false → holds_level z k ≡ true) (with_sides cell) held.levels)

  -- the factors are above 0
  factors : (ts : List Multiple) → list_all (λ t. is_multiplier t.factor && is_listed t.of (with_sides cell)) ts ≡ true → HavePositiveFactors ts
  factors [] e = tt
  factors (t ∷ ts) e = (multiplier-to t.factor (and_first (is_multiplier t.factor) _ (and_first _ _ e)), factors ts (and_second (is_multiplier t.factor && is_listed t.of (with_sides cell)) _ e))

  -- the half-spaces with traces hold the point
  all_held : (ts : List Multiple) → list_all (λ t. is_multiplier t.factor && is_listed t.of (with_sides cell)) ts ≡ true → list_all (λ t. has_trace t.of) ts ≡ true → AllByRecursion (λ t. IsHeldWhere p t.of) ts
  all_held [] e n = tt
  all_held (t ∷ ts) e n =
      (trace_held t.of (and_second (is_multiplier t.factor) _ (and_first _ _ e)) (and_first _ _ n), all_held ts (and_second (is_multiplier t.factor && is_listed t.of (with_sides cell)) _ e) (and_second (has_trace t.of) _ n))

  -- no certificate of the first kind
  never_level : (ts : List Multiple) → list_all (λ t. is_multiplier t.factor && is_listed t.of (with_sides cell)) ts ≡ true → is_level_kind z ts ≡ true → ⊥
  never_level [] e k = false_not_true false k refl
  never_level (t ∷ []) e k =
      let n = is_false (has_trace t.of) (and_first (not (has_trace t.of)) _ k) in
      false_not_true (holds_level z t.of) (level_held t.of (and_second (is_multiplier t.factor) _ (and_first _ _ e)) n) (is_false (holds_level z t.of) (and_second (not (has_trace t.of)) _ k))
    where
      is_false : (b : Bool) → not b ≡ true → b ≡ false
      is_false true e = absurd (false_not_true false e refl)
      is_false false e = refl
  never_level (t ∷ u ∷ ts) e k = false_not_true false k refl

  -- no certificate of the second kind
  never_trace : (ts : List Multiple) → IsFlat z cell ts → is_trace_kind z ts ≡ true → ⊥
  never_trace [] f k = false_not_true false f.many refl
  never_trace (t ∷ ts) f k =
      not_refuted _ _ _ _ p.w held.point
      (sum_held p t ts (factors (t ∷ ts) f.terms) (all_held (t ∷ ts) f.terms (and_first (list_all (λ t. has_trace t.of) (t ∷ ts)) _ k)))
      (sum_side z p held.height (t ∷ ts) ∙ only_offset (weighted_sum (λ h. h.a) (t ∷ ts)) (weighted_sum (λ h. h.b) (t ∷ ts)) (weighted_sum (offset_at z) (t ∷ ts)) p.x p.y p.w f.a f.b)
      (at_most_is (weighted_sum (offset_at z) (t ∷ ts)) (pos 0) (and_second (list_all (λ t. has_trace t.of) (t ∷ ts)) _ k))
      f.a f.b

-- a member at the height excludes every flat certificate
pub never_flat : (z : ℤ) (cell : List HalfSpace) (p : RationalPoint) (ts : List Multiple) → IsMemberAt z cell p → is_flat z cell ts ≡ true → ⊥
never_flat z cell p ts m e =
    let f = flat_to z cell ts e in
    let h = held_at_of z cell p m in
    ⊎_elim (never_level z cell p h ts f.terms) (never_trace z cell p h ts f) f.kind
