-- What is left of the walks of one pair and of one half-space after each of their tests.
use Rattle.std.proofs.Common.{◌≡◌, ℕ, ◌<◌, ◌≤◌, Bool, true, false, List, [], ◌∷◌, ◌++◌, length, sym, ap, ◌∙◌, subst, arith}
use Rattle.std.specs.Prelude.{nat_le, Option}
use Rattle.rp_geometry.specs.Geometry.{HalfSpace, complement, boxes_meet}
use Rattle.rp_geometry.specs.sets.Shape.{Part}
use Rattle.rp_geometry.specs.parts.Parts.{most_parts}
use Rattle.rp_semantics.specs.Walk.{done, stopped, limit_met, Walk, pass, stop, ◌>>=◌, ◌>>◌}
use Rattle.rp_semantics.specs.Form.{made_part, if_at_most, join_pair, carve_one, carve_or_keep, subtract_pair}
use Rattle.rp_reports.specs.Check.{Trail, follow_count, follow_strict, follow_part, line_tester}
use Rattle.rp_oracle.specs.declared.stopped.Stopped.{Stopped}
use Rattle.rp_oracle.specs.Refines.{StopsBy}
use Rattle.rp_oracle.proofs.Left.{IsLeft, all_left, left_as, next_left, stop_left, end_left}

-- a walk that passes what is short enough, by the test of its length
abbrev short_by : List Part → Bool → Walk Trail (List Part)
short_by parts b = elim b [ true ↦ pass parts | false ↦ stop limit_met ]

-- a list that is short enough passes
pub few_pass : (most : ℕ) (parts : List Part) → length parts ≤ most → if_at_most {W = Trail} most parts ≡ pass parts
few_pass most parts h = ap (short_by parts) (within (length parts) most h)
  where
    within : (m n : ℕ) → m ≤ n → nat_le m n ≡ true
    within m n h = grind arith

-- a list that is too long stops
pub many_stop : (most : ℕ) (parts : List Part) → most < length parts → if_at_most {W = Trail} most parts ≡ stop limit_met
many_stop most parts h = ap (short_by parts) (above (length parts) most h)
  where
    above : (m n : ℕ) → n < m → nat_le m n ≡ false
    above m n h = grind arith

-- two parts were tested together: the length of the list is left
pair_joined : (made : List Part) (p q : Part) (cell : List HalfSpace) {t u : Trail} {o : Option Part} → cell ≡ p.cell ++ q.cell → follow_part cell t ≡ done o u
    → IsLeft t (join_pair line_tester made p q) u (if_at_most most_parts (made ++ made_part o))
pair_joined made p q cell {t = t} {u = u} {o = o} e m =
    next_left (follow_part (p.cell ++ q.cell)) (λ o. if_at_most most_parts (made ++ made_part o))
    (all_left t (join_pair line_tester made p q)) (subst (λ c. follow_part c t ≡ done o u) e m)

-- they were tested together, and the list with what was made of them is short enough
pub pair_passes : (made parts : List Part) (p q : Part) (cell : List HalfSpace) (t u : Trail) (o : Option Part) → cell ≡ p.cell ++ q.cell → follow_part cell t ≡ done o u
    → parts ≡ made ++ made_part o → length parts ≤ most_parts → join_pair line_tester made p q t ≡ done parts u
pair_passes made parts p q cell t u o e m same few =
    end_left (done parts u) (pair_joined made p q cell e m) (ap (λ ps. if_at_most most_parts ps u) (sym same) ∙ ap (λ (walk : Walk Trail (List Part)). walk u) (few_pass most_parts parts few))

-- the list is too long
pub pair_limited : (made parts : List Part) (p q : Part) (cell : List HalfSpace) (t u : Trail) (o : Option Part) → cell ≡ p.cell ++ q.cell → follow_part cell t ≡ done o u
    → parts ≡ made ++ made_part o → most_parts < length parts → join_pair line_tester made p q t ≡ stopped limit_met u
pair_limited made parts p q cell t u o e m same many =
    end_left (stopped limit_met u) (pair_joined made p q cell e m) (ap (λ ps. if_at_most most_parts ps u) (sym same) ∙ ap (λ (walk : Walk Trail (List Part)). walk u) (many_stop most_parts parts many))

-- a part test that stops
pub pair_stops : (made : List Part) (p q : Part) (cell : List HalfSpace) (t u : Trail) (e : Stopped) → cell ≡ p.cell ++ q.cell → StopsBy e u (follow_part cell t) → StopsBy e u (join_pair line_tester made p q t)
pair_stops made p q cell t u e s m =
    stop_left (follow_part (p.cell ++ q.cell)) (λ o. if_at_most most_parts (made ++ made_part o))
    (all_left t (join_pair line_tester made p q)) e u (subst (λ c. StopsBy e u (follow_part c t)) s m)

-- a test was counted: the part test of a cell outside one half-space is left
pub piece_counted : (made : List Part) (cell before : List HalfSpace) (h : HalfSpace) {t u : Trail} → follow_count 1 t ≡ done tt u
    → IsLeft t (carve_one line_tester made cell before h) u (follow_part (cell ++ before ++ complement h ∷ []) >>= λ o. pass (made ++ made_part o))
piece_counted made cell before h {t = t} n =
    next_left (follow_count 1) (λ _. follow_part (cell ++ before ++ complement h ∷ []) >>= λ o. pass (made ++ made_part o)) (all_left t (carve_one line_tester made cell before h)) n

-- it was tested: the part that was made is left
pub piece_made : (made : List Part) (cell before : List HalfSpace) (h : HalfSpace) (piece : List HalfSpace) {t u v : Trail} {o : Option Part} → piece ≡ cell ++ before ++ complement h ∷ []
    → follow_count 1 t ≡ done tt u → follow_part piece u ≡ done o v → IsLeft t (carve_one line_tester made cell before h) v (pass (made ++ made_part o))
piece_made made cell before h piece {u = u} {v = v} {o = o} e n m =
    next_left (follow_part (cell ++ before ++ complement h ∷ [])) (λ o. pass (made ++ made_part o)) (piece_counted made cell before h n)
    (subst (λ c. follow_part c u ≡ done o v) e m)

-- a part test that stops
pub piece_stops : (made : List Part) (cell before : List HalfSpace) (h : HalfSpace) (piece : List HalfSpace) (t u v : Trail) (e : Stopped) → piece ≡ cell ++ before ++ complement h ∷ []
    → follow_count 1 t ≡ done tt u → StopsBy e v (follow_part piece u) → StopsBy e v (carve_one line_tester made cell before h t)
piece_stops made cell before h piece t u v e s n m =
    stop_left (follow_part (cell ++ before ++ complement h ∷ [])) (λ o. pass (made ++ made_part o)) (piece_counted made cell before h n)
    e v (subst (λ c. StopsBy e v (follow_part c u)) s m)

-- a count that stops
pub piece_uncounted : (made : List Part) (cell before : List HalfSpace) (h : HalfSpace) (t u : Trail) (e : Stopped) → StopsBy e u (follow_count 1 t) → StopsBy e u (carve_one line_tester made cell before h t)
piece_uncounted made cell before h t u e m =
    stop_left (follow_count 1) (λ _. follow_part (cell ++ before ++ complement h ∷ []) >>= λ o. pass (made ++ made_part o)) (all_left t (carve_one line_tester made cell before h)) e u m

-- a part is tested against another where the boxes meet
abbrev pair_by : List Part → Part → Part → Bool → Walk Trail (List Part)
pair_by made c q b = elim b [
  | false ↦ pass (made ++ c ∷ [])
  | true ↦ do
    follow_count 1
    found ← follow_strict (c.cell ++ q.cell)
    carve_or_keep line_tester found made c q
]

-- the boxes meet: a count and a test are left
pair_met : (made : List Part) (c q : Part) (t : Trail) → boxes_meet c.bounds q.bounds ≡ true
    → IsLeft t (subtract_pair line_tester made c q) t (follow_count 1 >>= λ _. follow_strict (c.cell ++ q.cell) >>= λ found. carve_or_keep line_tester found made c q)
pair_met made c q t e = left_as (ap (pair_by made c q) e) (all_left t (subtract_pair line_tester made c q))

-- a count that stops, where the boxes meet
pub pair_uncounted : (made : List Part) (c q : Part) (t u : Trail) → boxes_meet c.bounds q.bounds ≡ true → (e : Stopped) → StopsBy e u (follow_count 1 t) → StopsBy e u (subtract_pair line_tester made c q t)
pair_uncounted made c q t u b e m =
    stop_left (follow_count 1) (λ _. follow_strict (c.cell ++ q.cell) >>= λ found. carve_or_keep line_tester found made c q) (pair_met made c q t b) e u m

-- the boxes meet and a test was counted: the strict test is left
pub pair_counted : (made : List Part) (c q : Part) {t u : Trail} → boxes_meet c.bounds q.bounds ≡ true → follow_count 1 t ≡ done tt u
    → IsLeft t (subtract_pair line_tester made c q) u (follow_strict (c.cell ++ q.cell) >>= λ found. carve_or_keep line_tester found made c q)
pair_counted made c q {t = t} e n =
    next_left (follow_count 1) (λ _. follow_strict (c.cell ++ q.cell) >>= λ found. carve_or_keep line_tester found made c q) (pair_met made c q t e) n

-- it was tested: carving or keeping is left
pub pair_tested : (made : List Part) (c q : Part) (cell : List HalfSpace) {t u v : Trail} {found : Bool} → cell ≡ c.cell ++ q.cell → boxes_meet c.bounds q.bounds ≡ true → follow_count 1 t ≡ done tt u → follow_strict cell u ≡ done found v
    → IsLeft t (subtract_pair line_tester made c q) v (carve_or_keep line_tester found made c q)
pair_tested made c q cell {u = u} {v = v} {found = found} s e n m =
    next_left (follow_strict (c.cell ++ q.cell)) (λ found. carve_or_keep line_tester found made c q) (pair_counted made c q e n)
    (subst (λ c. follow_strict c u ≡ done found v) s m)

-- a strict test that stops
pub pair_untested : (made : List Part) (c q : Part) (cell : List HalfSpace) (t u v : Trail) (e : Stopped) → cell ≡ c.cell ++ q.cell → boxes_meet c.bounds q.bounds ≡ true → follow_count 1 t ≡ done tt u
    → StopsBy e v (follow_strict cell u) → StopsBy e v (subtract_pair line_tester made c q t)
pair_untested made c q cell t u v e s b n m =
    stop_left (follow_strict (c.cell ++ q.cell)) (λ found. carve_or_keep line_tester found made c q) (pair_counted made c q b n)
    e v (subst (λ c. StopsBy e v (follow_strict c u)) s m)
