-- The sides of a section: traces with two points of it. Each side has a next one, and no side stands between the two.
use Rattle.std.proofs.Common.{◌≡◌, ℤ, pos, neg_ℤ, ◌+ℤ◌, ◌-ℤ◌, ◌*ℤ◌, ◌≤ℤ◌, ◌<ℤ◌, List, [], ◌∷◌, ◌⊎◌, inl, inr, ⊎_elim, sym, ap, ◌∙◌, subst, arith}
use Rattle.std.proofs.lemmas.Int.{ints}
use Rattle.rp_algebra.proofs.IntLaws.{linear, signs, trichotomy_ℤ, cancel_mul_left_ℤ, mul_pos_ℤ, le_or_lt_ℤ, nonneg_of_pos_ℤ}
use Rattle.rp_algebra.proofs.Numbers.{zero_or_not}
use Rattle.rp_algebra.proofs.Reify.{by_ring_at, le_by_ring, le_by_multiple, reify}
use Rattle.rp_algebra.proofs.Listed.{Listed, first, later}
use Rattle.rp_geometry.specs.Geometry.{RationalPoint, HalfSpace, IsPoint, reduced_point}
use Rattle.rp_geometry.specs.sections.Trace.{Trace, trace_of, trace_value, with_sides}
use Rattle.rp_geometry.specs.sections.Ring.{cross}
use Rattle.rp_slice.proofs.Traces.{IsDirection, traces, trace_in}
use Rattle.rp_slice.proofs.Support.{change, turning, change_from_zero}
use Rattle.rp_slice.proofs.Center.{IsWithinAll}
use Rattle.rp_slice.proofs.Unique.{same_line}
use Rattle.rp_slice.proofs.Spots.{IsWeakAt, IsSpot, weak_of, Ahead, ahead_own, ahead_above, ahead_parallel, cross_turned, other_factor, FirstMet, first_met, met_point, met_spot, met_ahead, met_zero}

-- ---- of the traces that are 0 at a point, the last in the turn from e

-- a trace that turns to the left of e and is 0 at the point
pub record TurnsAt (ts : List Trace) (e : Trace) (v : RationalPoint) (f : Trace) : Type 0 where
  pub listed : Listed f ts
  pub on : trace_value f v ≡ pos 0
  pub left : pos 0 <ℤ cross e f

-- the last of them among some of the traces: no other is further to the left
pub record IsLast (ts xs : List Trace) (e : Trace) (v : RationalPoint) (f : Trace) : Type 0 where
  pub turns : TurnsAt ts e v f
  pub last : (t : Trace) → Listed t xs → trace_value t v ≡ pos 0 → pos 0 <ℤ cross e t → pos 0 ≤ℤ cross t f

-- of three traces to the left of e, the cross products are a sum
turn_sum : (e g x f : Trace) → cross e g *ℤ cross x f ≡ cross e x *ℤ cross g f +ℤ cross e f *ℤ cross x g
turn_sum e g x f = by_ring_at (e.a ∷ e.b ∷ g.a ∷ g.b ∷ x.a ∷ x.b ∷ f.a ∷ f.b ∷ []) (search reify depth 40 fits 100000) tt

-- what is not further to the left than g is not further than f, which is further than g
further : (e g x f : Trace) → pos 0 <ℤ cross e g → pos 0 <ℤ cross e x → pos 0 <ℤ cross e f → pos 0 ≤ℤ cross x g → pos 0 <ℤ cross g f → pos 0 ≤ℤ cross x f
further e g x f eg ex ef xg gf = least_of (cross e g) (cross x f) (cross e x) (cross g f) (cross e f) (cross x g) eg ex gf ef xg (turn_sum e g x f)
  where
    least_of : (a b c d p q : ℤ) → pos 0 <ℤ a → pos 0 <ℤ c → pos 0 <ℤ d → pos 0 <ℤ p → pos 0 ≤ℤ q → a *ℤ b ≡ c *ℤ d +ℤ p *ℤ q → pos 0 ≤ℤ b
    least_of a b c d p q ha hc hd hp hq e =
        let n : pos 0 ≤ℤ (c *ℤ d +ℤ p *ℤ q) = search signs in
        let m : pos 0 ≤ℤ (a *ℤ b) = subst (λ (x : ℤ). pos 0 ≤ℤ x) (sym e) n in
        le_by_multiple (a ∷ b ∷ []) {k = a} ha m (search reify depth 40 fits 100000) tt

-- a trace is not to the left of itself
own_cross : (t : Trace) → pos 0 ≤ℤ cross t t
own_cross t = let z : pos 0 ≤ℤ pos 0 = omega (arith, ints) in le_by_ring (t.a ∷ t.b ∷ []) z (search reify depth 40 fits 100000) tt

-- no number is at least 0 and has a negative above 0
turned_apart : (c d : ℤ) → d ≡ neg_ℤ c → pos 0 ≤ℤ c → pos 0 <ℤ d → ⊥
turned_apart c d e h k = omega (arith, linear, e, h, k)

-- a number below 0 has a negative above 0
turned_above : (c d : ℤ) → d ≡ neg_ℤ c → c <ℤ pos 0 → pos 0 <ℤ d
turned_above c d e h = omega (arith, linear, e, h)

module _ (ts : List Trace) (e : Trace) (v : RationalPoint) (x : Trace) (xs : List Trace) (lx : Listed x ts) (g : Trace) (k : IsLast ts xs e v g) where
  -- the last one so far stays
  stays_last : (trace_value x v ≡ pos 0 → pos 0 <ℤ cross e x → pos 0 ≤ℤ cross x g) → (f : Trace) × IsLast ts (x ∷ xs) e v f
  stays_last h = (g, record { turns = k.turns; last = each })
    where
      each : (t : Trace) → Listed t (x ∷ xs) → trace_value t v ≡ pos 0 → pos 0 <ℤ cross e t → pos 0 ≤ℤ cross t g
      each t first z l = h z l
      each t (later m) z l = k.last t m z l

  -- the new one is the last
  taken_last : trace_value x v ≡ pos 0 → pos 0 <ℤ cross e x → pos 0 <ℤ cross g x → (f : Trace) × IsLast ts (x ∷ xs) e v f
  taken_last zx lex gx = (x, record { turns = record { listed = lx; on = zx; left = lex }; last = each })
    where
      each : (t : Trace) → Listed t (x ∷ xs) → trace_value t v ≡ pos 0 → pos 0 <ℤ cross e t → pos 0 ≤ℤ cross t x
      each t first z l = own_cross x
      each t (later m) z l = further e g t x k.turns.left l lex (k.last t m z l) gx

  -- one of the two
  one_last : (f : Trace) × IsLast ts (x ∷ xs) e v f
  one_last =
      ⊎_elim
      (λ (zx : trace_value x v ≡ pos 0). ⊎_elim
      (λ (lex : pos 0 <ℤ cross e x). ⊎_elim
      (λ (h : pos 0 ≤ℤ cross x g). stays_last (λ z l. h))
      (λ (h : cross x g <ℤ pos 0). taken_last zx lex (turned_above (cross x g) (cross g x) (cross_turned x g) h))
      (le_or_lt_ℤ (pos 0) (cross x g)))
      (λ (n : cross e x ≤ℤ pos 0). stays_last (λ z l. absurd (not_both (cross e x) n l)))
      (swapped (le_or_lt_ℤ (cross e x) (pos 0))))
      (λ n. stays_last (λ z l. absurd (n z)))
      (zero_or_not (trace_value x v))
    where
      not_both : (c : ℤ) → c ≤ℤ pos 0 → pos 0 <ℤ c → ⊥
      not_both c h k = omega (arith, linear, h, k)

      swapped : {A B : Type 0} → A ⊎ B → B ⊎ A
      swapped o = ⊎_elim inr inl o

-- the last of them among some of the traces, from one of them
last_of : (ts : List Trace) (e : Trace) (v : RationalPoint) (xs : List Trace) → ((t : Trace) → Listed t xs → Listed t ts) → (f : Trace) → TurnsAt ts e v f → (g : Trace) × IsLast ts xs e v g
last_of ts e v [] all f k = (f, record { turns = k; last = λ t l. elim l [ ] })
last_of ts e v (x ∷ xs) all f k = let r = last_of ts e v xs (λ t l. all t (later l)) f k in one_last ts e v x xs (all x first) r.0 r.1

-- ---- sides

-- a trace of the list with two points at which no trace is negative, the second ahead of the first
pub record Side (z : ℤ) (ts : List Trace) : Type 0 where
  pub edge : Trace
  pub listed : Listed edge ts
  pub from : RationalPoint
  pub from_spot : IsSpot z ts from
  pub on : trace_value edge from ≡ pos 0
  pub to : RationalPoint
  pub to_spot : IsSpot z ts to
  pub ahead : Ahead edge from to

-- a side that turns to the left of e, from a point ahead on e
pub record Advance (z : ℤ) (ts : List Trace) (e : Trace) (q : RationalPoint) : Type 0 where
  pub side : Side z ts
  pub left : pos 0 <ℤ cross e side.edge
  pub reach : Ahead e q side.from

-- a zero of a difference of numbers of which one is at least 0 and the other at most
both_zero : (k u m v c x : ℤ) → pos 0 <ℤ k → pos 0 <ℤ u → pos 0 ≤ℤ v → c ≤ℤ pos 0 → x ≡ pos 0 → m *ℤ x ≡ k *ℤ v -ℤ u *ℤ c → (v ≡ pos 0) × (c ≡ pos 0)
both_zero k u m v c x hk hu hv hc zx e =
    let n : pos 0 ≤ℤ neg_ℤ c = omega (arith, linear, hc) in
    let a : pos 0 ≤ℤ (k *ℤ v) = search signs in
    let b : pos 0 ≤ℤ (u *ℤ neg_ℤ c) = search signs in
    let z : m *ℤ x ≡ pos 0 = ap (λ (y : ℤ). m *ℤ y) zx ∙ times_zero m in
    let f : u *ℤ neg_ℤ c ≡ neg_ℤ (u *ℤ c) = by_ring_at (u ∷ c ∷ []) (search reify depth 40 fits 100000) tt in
    (cancel_mul_left_ℤ k v (pos 0) hk (zero_of_sum (k *ℤ v) (u *ℤ c) (m *ℤ x) a b e z f ∙ sym (times_zero k)), cancel_mul_left_ℤ u c (pos 0) hu (zero_of_other (k *ℤ v) (u *ℤ c) (m *ℤ x) a b e z f ∙ sym (times_zero u)))
  where
    times_zero : (a : ℤ) → a *ℤ pos 0 ≡ pos 0
    times_zero a = by_ring_at (a ∷ []) (search reify depth 40 fits 100000) tt

    zero_of_sum : (a b s : ℤ) {n : ℤ} → pos 0 ≤ℤ a → pos 0 ≤ℤ n → s ≡ a -ℤ b → s ≡ pos 0 → n ≡ neg_ℤ b → a ≡ pos 0
    zero_of_sum a b s ha hn e z f = omega (arith, linear, ha, hn, e, z, f)

    zero_of_other : (a b s : ℤ) {n : ℤ} → pos 0 ≤ℤ a → pos 0 ≤ℤ n → s ≡ a -ℤ b → s ≡ pos 0 → n ≡ neg_ℤ b → b ≡ pos 0
    zero_of_other a b s ha hn e z f = omega (arith, linear, ha, hn, e, z, f)

module _ (z : ℤ) (cell : List HalfSpace) where
  -- the traces of the flat list
  abbrev ts : List Trace
  ts = traces z (with_sides cell)

  module _ (e : Trace) (q : RationalPoint) (n : IsDirection e.a e.b) (k : IsWeakAt z ts q)
      (steep : (t : Trace) → Listed t ts → pos 0 <ℤ cross e t → pos 0 <ℤ trace_value t q)
      (level : (t : Trace) → Listed t ts → trace_value t q ≡ pos 0 → cross e t ≡ pos 0 → (g : Trace) → pos 0 <ℤ cross e g → cross g t ≤ℤ pos 0) where
    -- from a point v that is ahead on e, along the last trace f that turns left there
    along_last : (v : RationalPoint) → IsSpot z ts v → Ahead e q v → (f : Trace) → IsLast ts ts e v f → Advance z ts e q
    along_last v s w f l =
        let m = first_met z cell f v (trace_in z (with_sides cell) f l.turns.listed).direction (weak_of z ts v s) in
        let u = above m in
        record {
          side = record {
            edge = f;
            listed = l.turns.listed;
            from = v;
            from_spot = s;
            on = l.turns.on;
            to = reduced_point (met_point z f m.by v);
            to_spot = met_spot z ts f v (weak_of z ts v s) m u;
            ahead = met_ahead z ts f v (weak_of z ts v s) m u;
          };
          left = l.turns.left;
          reach = w;
        }
      where
        -- a trace that is met at once is not met along f
        not_at_once : (m : FirstMet ts f v) → trace_value m.by v ≡ pos 0 → ⊥
        not_at_once m zero =
            ⊎_elim
            (λ (h : cross e m.by ≤ℤ pos 0).
            let b = both_zero w.k w.u w.m (trace_value m.by q) (cross e m.by) (trace_value m.by v) w.k_positive w.u_positive (k.weak m.by m.listed) h zero (w.is m.by) in
            let a = level m.by m.listed b.0 b.1 f l.turns.left in
            let p = m.falls in omega (arith, linear, a, p))
            (λ (h : pos 0 <ℤ cross e m.by). turned_apart (cross m.by f) (cross f m.by) (cross_turned m.by f) (l.last m.by m.listed zero h) m.falls)
            (le_or_lt_ℤ (cross e m.by) (pos 0))

        above : (m : FirstMet ts f v) → pos 0 <ℤ trace_value m.by v
        above m =
            ⊎_elim
            (λ (h : trace_value m.by v <ℤ pos 0). absurd (let a = s.weak m.by m.listed in omega (arith, linear, h, a)))
            (λ r. ⊎_elim (λ zero. absurd (not_at_once m zero)) (λ h. h) r)
            (trichotomy_ℤ (trace_value m.by v) (pos 0))

    -- so a way along e leads to a side
    pub advance : Advance z ts e q
    advance =
        let m = first_met z cell e q n k in
        let u = steep m.by m.listed m.falls in
        let v = reduced_point (met_point z e m.by q) in
        let l = last_of ts e v ts (λ t i. i) m.by (record { listed = m.listed; on = met_zero z ts e q k m u; left = m.falls }) in
        along_last v (met_spot z ts e q k m u) (met_ahead z ts e q k m u) l.0 l.1

  -- ---- from a point at which all traces are above 0
  module _ (c : RationalPoint) (within : IsWithinAll z ts c) where
    -- it is a point at which no trace is negative
    within_weak : IsWeakAt z ts c
    within_weak = record { point = within.point; height = within.height; weak = λ t l. nonneg_of_pos_ℤ (trace_value t c) (within.above t l) }

    -- there is a side
    pub some_side : Side z ts
    some_side =
        (advance (trace_of (pos 1) (pos 0) (pos 0)) c one_direction within_weak (λ t l h. within.above t l) (λ t l zero h g i. absurd (not_zero (trace_value t c) (within.above t l) zero))).side
      where
        not_zero : (v : ℤ) → pos 0 <ℤ v → v ≡ pos 0 → ⊥
        not_zero v h e = omega (arith, linear, h, e)

        one_direction : pos 1 ≡ pos 0 → pos 0 ≡ pos 0 → ⊥
        one_direction e f = omega (arith, ints, e)

    -- two traces that are parallel and 0 at a point are above 0 on the same side
    same_side : (e t g : Trace) (p : RationalPoint) → Listed e ts → Listed t ts → IsPoint p → trace_value e p ≡ pos 0 → trace_value t p ≡ pos 0 → cross e t ≡ pos 0 → pos 0 <ℤ cross e g → cross g t ≤ℤ pos 0
    same_side e t g p le lt wp ep tp parallel left =
        at_most (cross e g) (p.w *ℤ trace_value t c) (cross t g) (p.w *ℤ trace_value e c) (cross e t) (change g p c) (cross g t) left
        (mul_pos_ℤ p.w (trace_value t c) wp (within.above t lt)) (mul_pos_ℤ p.w (trace_value e c) wp (within.above e le)) parallel (cross_turned t g)
        ((λ i. cross e g *ℤ sym (change_from_zero t p c tp) i) ∙ turning e g t p c ∙ (λ i. cross t g *ℤ change_from_zero e p c ep i +ℤ cross e t *ℤ change g p c))
      where
        at_most : (a b d f h k x : ℤ) → pos 0 <ℤ a → pos 0 <ℤ b → pos 0 <ℤ f → h ≡ pos 0 → x ≡ neg_ℤ d → a *ℤ b ≡ d *ℤ f +ℤ h *ℤ k → x ≤ℤ pos 0
        at_most a b d f h k x ha hb hf zh ex e =
            let n : pos 0 <ℤ (a *ℤ b) = mul_pos_ℤ a b ha hb in
            let o : d *ℤ f +ℤ h *ℤ k ≡ f *ℤ d = (λ i. d *ℤ f +ℤ zh i *ℤ k) ∙ by_ring_at (d ∷ f ∷ k ∷ []) (search reify depth 40 fits 100000) tt in
            let p : pos 0 <ℤ d = other_factor f d hf (subst (λ (y : ℤ). pos 0 <ℤ y) (e ∙ o) n) in
            omega (arith, linear, p, ex)

    -- each side has a next one
    pub next_side : (s : Side z ts) → Advance z ts s.edge s.from
    next_side s =
        advance s.edge s.from (trace_in z (with_sides cell) s.edge s.listed).direction (weak_of z ts s.from s.from_spot)
        (λ t l h. ahead_above s.edge t s.from s.to s.ahead (s.to_spot.weak t l) h)
        (λ t l zero h g i. same_side s.edge t g s.from s.listed l s.from_spot.lowest.point s.on zero h i)

  -- ---- no side is between
  -- a sum of two numbers at least 0 that is at most 0
  none_left : (a b c d e f : ℤ) → pos 0 <ℤ a → pos 0 <ℤ b → pos 0 ≤ℤ c → pos 0 <ℤ d → pos 0 ≤ℤ e → f ≤ℤ pos 0 → a *ℤ f ≡ b *ℤ c +ℤ d *ℤ e → c ≡ pos 0
  none_left a b c d e f ha hb hc hd he hf eq =
      let x : pos 0 ≤ℤ (b *ℤ c) = search signs in
      let y : pos 0 ≤ℤ (d *ℤ e) = search signs in
      let n : pos 0 ≤ℤ neg_ℤ f = omega (arith, linear, hf) in
      let w : pos 0 ≤ℤ (a *ℤ neg_ℤ f) = search signs in
      let v : a *ℤ neg_ℤ f ≡ neg_ℤ (a *ℤ f) = by_ring_at (a ∷ f ∷ []) (search reify depth 40 fits 100000) tt in
      cancel_mul_left_ℤ b c (pos 0) hb (zero_of (a *ℤ f) (b *ℤ c) (d *ℤ e) (a *ℤ neg_ℤ f) x y w v eq ∙ by_ring_at (b ∷ []) (search reify depth 40 fits 100000) tt)
    where
      zero_of : (s x y w : ℤ) → pos 0 ≤ℤ x → pos 0 ≤ℤ y → pos 0 ≤ℤ w → w ≡ neg_ℤ s → s ≡ x +ℤ y → x ≡ pos 0
      zero_of s x y w hx hy hw e f = omega (arith, linear, hx, hy, hw, e, f)

  -- a positive multiple of a number at least 0
  times_least : (w v : ℤ) → pos 0 <ℤ w → pos 0 ≤ℤ v → pos 0 ≤ℤ (w *ℤ v)
  times_least w v hw hv = search signs

  -- where g is 0 at p, and e and f are 0 at v, e is 0 at p
  zero_there : (e f g : Trace) (v p : RationalPoint) → IsPoint v → IsPoint p → trace_value e v ≡ pos 0 → trace_value f v ≡ pos 0 → pos 0 <ℤ cross e f → pos 0 <ℤ cross e g → pos 0 <ℤ cross g f
      → pos 0 ≤ℤ trace_value g v → trace_value g p ≡ pos 0 → pos 0 ≤ℤ trace_value e p → pos 0 ≤ℤ trace_value f p → trace_value e p ≡ pos 0
  zero_there e f g v p wv wp ev fv ef eg gf gv gp ep fp =
      weightless v.w (trace_value e p) wv
      (none_left (cross e f) (cross g f) (v.w *ℤ trace_value e p) (cross e g) (v.w *ℤ trace_value f p) (change g v p) ef gf (times_least v.w (trace_value e p) wv ep) eg (times_least v.w (trace_value f p) wv fp) (falling v.w p.w (trace_value g p) (trace_value g v) wp gv gp)
      (turning e f g v p ∙ (λ i. cross g f *ℤ change_from_zero e v p ev i +ℤ cross e g *ℤ change_from_zero f v p fv i)))
    where
      weightless : (w v : ℤ) → pos 0 <ℤ w → w *ℤ v ≡ pos 0 → v ≡ pos 0
      weightless w v hw e = cancel_mul_left_ℤ w v (pos 0) hw (e ∙ by_ring_at (w ∷ []) (search reify depth 40 fits 100000) tt)

      falling : (w k x y : ℤ) → pos 0 <ℤ k → pos 0 ≤ℤ y → x ≡ pos 0 → (w *ℤ x -ℤ k *ℤ y) ≤ℤ pos 0
      falling w k x y hk hy zx =
          let n : pos 0 ≤ℤ (k *ℤ y) = search signs in
          let z : w *ℤ x ≡ pos 0 = ap (λ (u : ℤ). w *ℤ u) zx ∙ by_ring_at (w ∷ []) (search reify depth 40 fits 100000) tt in
          omega (arith, linear, n, z)

  -- no side stands between two traces that are 0 at a point of the section
  pub none_between : (e f : Trace) (v : RationalPoint) → Listed e ts → Listed f ts → IsSpot z ts v → trace_value e v ≡ pos 0 → trace_value f v ≡ pos 0 → pos 0 <ℤ cross e f → (g : Side z ts) → pos 0 <ℤ cross e g.edge → pos 0 <ℤ cross g.edge f → ⊥
  none_between e f v le lf s ev fv ef g eg gf =
      let to_zero = ahead_own g.edge g.from g.to g.ahead g.on in
      let a = zero_there e f g.edge v g.from s.lowest.point g.from_spot.lowest.point ev fv ef eg gf (s.weak g.edge g.listed) g.on (g.from_spot.weak e le) (g.from_spot.weak f lf) in
      let b = zero_there e f g.edge v g.to s.lowest.point g.to_spot.lowest.point ev fv ef eg gf (s.weak g.edge g.listed) to_zero (g.to_spot.weak e le) (g.to_spot.weak f lf) in
      let p = ahead_parallel e g.edge g.from g.to g.ahead a b in
      let t = cross_turned e g.edge in
      apart (cross e g.edge) (cross g.edge e) eg t p
    where
      apart : (c d : ℤ) → pos 0 <ℤ c → d ≡ neg_ℤ c → d ≡ pos 0 → ⊥
      apart c d h e z = omega (arith, linear, h, e, z)

  -- ---- sides of one direction are one
  -- a multiple of the change
  change_times : (m n ea eb ed fa fb fd x y w i j k : ℤ) → m *ℤ ea ≡ n *ℤ fa → m *ℤ eb ≡ n *ℤ fb
      → m *ℤ (w *ℤ (ea *ℤ i +ℤ eb *ℤ j +ℤ ed *ℤ k) -ℤ k *ℤ (ea *ℤ x +ℤ eb *ℤ y +ℤ ed *ℤ w)) ≡ n *ℤ (w *ℤ (fa *ℤ i +ℤ fb *ℤ j +ℤ fd *ℤ k) -ℤ k *ℤ (fa *ℤ x +ℤ fb *ℤ y +ℤ fd *ℤ w))
  change_times m n ea eb ed fa fb fd x y w i j k a b =
      by_ring_at (m ∷ ea ∷ eb ∷ ed ∷ x ∷ y ∷ w ∷ i ∷ j ∷ k ∷ []) {y = (m *ℤ ea) *ℤ (w *ℤ i -ℤ k *ℤ x) +ℤ (m *ℤ eb) *ℤ (w *ℤ j -ℤ k *ℤ y)} (search reify depth 40 fits 1000000) tt
      ∙ (λ t. a t *ℤ (w *ℤ i -ℤ k *ℤ x) +ℤ b t *ℤ (w *ℤ j -ℤ k *ℤ y))
      ∙ by_ring_at (n ∷ fa ∷ fb ∷ fd ∷ x ∷ y ∷ w ∷ i ∷ j ∷ k ∷ []) (search reify depth 40 fits 1000000) tt

  -- two sides with proportional directions have one trace
  pub same_direction : (f g : Side z ts) (m n : ℤ) → pos 0 <ℤ m → pos 0 <ℤ n → m *ℤ f.edge.a ≡ n *ℤ g.edge.a → m *ℤ f.edge.b ≡ n *ℤ g.edge.b → f.edge ≡ g.edge
  same_direction f g m n hm hn a b =
      let p = g.from in
      let q = f.from in
      let wp = g.from_spot.lowest.point in
      let wq = f.from_spot.lowest.point in
      let fp = g.from_spot.weak f.edge f.listed in
      let gq = f.from_spot.weak g.edge g.listed in
      same_line z (with_sides cell) f.edge g.edge m n p f.listed g.listed hm (nonneg_of_pos_ℤ n hn) wp a b
      (value_zero m n p.w q.w (trace_value f.edge p) (trace_value f.edge q) (trace_value g.edge p) (trace_value g.edge q) hm hn wp wq fp gq f.on g.on
      (change_times m n f.edge.a f.edge.b f.edge.d g.edge.a g.edge.b g.edge.d p.x p.y p.w q.x q.y q.w a b))
      g.on
    where
      value_zero : (m n w k fp fq gp gq : ℤ) → pos 0 <ℤ m → pos 0 <ℤ n → pos 0 <ℤ w → pos 0 <ℤ k → pos 0 ≤ℤ fp → pos 0 ≤ℤ gq → fq ≡ pos 0 → gp ≡ pos 0 → m *ℤ (w *ℤ fq -ℤ k *ℤ fp) ≡ n *ℤ (w *ℤ gq -ℤ k *ℤ gp) → fp ≡ pos 0
      value_zero m n w k fp fq gp gq hm hn hw hk hfp hgq zf zg e =
          let x : pos 0 ≤ℤ (m *ℤ (k *ℤ fp)) = search signs in
          let y : pos 0 ≤ℤ (n *ℤ (w *ℤ gq)) = search signs in
          let l : m *ℤ (w *ℤ fq -ℤ k *ℤ fp) ≡ neg_ℤ (m *ℤ (k *ℤ fp)) = (λ i. m *ℤ (w *ℤ zf i -ℤ k *ℤ fp)) ∙ by_ring_at (m ∷ w ∷ k ∷ fp ∷ []) (search reify depth 40 fits 100000) tt in
          let r : n *ℤ (w *ℤ gq -ℤ k *ℤ gp) ≡ n *ℤ (w *ℤ gq) = (λ i. n *ℤ (w *ℤ gq -ℤ k *ℤ zg i)) ∙ by_ring_at (n ∷ w ∷ k ∷ gq ∷ []) (search reify depth 40 fits 100000) tt in
          let z : m *ℤ (k *ℤ fp) ≡ pos 0 = zero_of (m *ℤ (w *ℤ fq -ℤ k *ℤ fp)) (n *ℤ (w *ℤ gq -ℤ k *ℤ gp)) (m *ℤ (k *ℤ fp)) (n *ℤ (w *ℤ gq)) x y l r e in
          cancel_mul_left_ℤ (m *ℤ k) fp (pos 0) (mul_pos_ℤ m k hm hk) (by_ring_at (m ∷ k ∷ fp ∷ []) {y = m *ℤ (k *ℤ fp)} (search reify depth 40 fits 100000) tt ∙ z ∙ by_ring_at (m ∷ k ∷ []) (search reify depth 40 fits 100000) tt)
        where
          zero_of : (l r x y : ℤ) → pos 0 ≤ℤ x → pos 0 ≤ℤ y → l ≡ neg_ℤ x → r ≡ y → l ≡ r → x ≡ pos 0
          zero_of l r x y hx hy el er e = omega (arith, linear, hx, hy, el, er, e)
