-- What is left of the walks of one pair and of one half-space after each of their tests.
use Rattle.std.proofs.Common.{◌≡◌, ℕ, ◌<◌, ◌≤◌, Bool, true, false, List, [], ◌∷◌, ◌++◌, length, refl, sym, ap, subst, arith}
use Rattle.std.specs.Prelude.{nat_le, Option}
use Rattle.rp_geometry.specs.Geometry.{HalfSpace, complement}
use Rattle.rp_geometry.specs.sets.Shape.{Part}
use Rattle.rp_geometry.specs.parts.Parts.{most_parts}
use Rattle.rp_semantics.specs.Walk.{Outcome, done, stopped, limit_met, Walk, after_first, pass, stop, ◌>>=◌, ◌>>◌, Work, count_tests, strict_test, part_test, first_tester}
use Rattle.rp_semantics.specs.Form.{near_pair, made_part, if_at_most, join_pair, carve_one, carve_or_keep, subtract_pair}
use Rattle.rp_region.specs.declared.fault.OpFault.{OpFault}
use Rattle.rp_region.specs.Makes.{IsFaultOf, OnlyTells}
use Rattle.rp_region.specs.Pairs.{meet_if_near}
use Rattle.rp_region.specs.Tells.{strict_tells}
use Rattle.rp_region.proofs.Grows.{then_tells, pass_tells, count_tells, part_tells, carve_or_keep_tells}
use Rattle.rp_region.proofs.Left.{IsLeft, all_left, left_as, next_left, fault_left, end_left}

-- a list passes where it is short enough
abbrev few_if : List Part → Bool → Walk Work (List Part)
few_if parts b = elim b [ true ↦ pass parts | false ↦ stop limit_met ]

-- one number is at most another, and the test answers yes
passes : (m n : ℕ) → m ≤ n → nat_le m n ≡ true
passes m n h = grind arith

-- it is above, and the test answers no
fails : (m n : ℕ) → n < m → nat_le m n ≡ false
fails m n h = grind arith

-- two parts were tested together: the length of the list is left
pub pair_joined : (made : List Part) (p q : Part) (cell : List HalfSpace) {w v : Work} {o : Option Part} → cell ≡ p.cell ++ q.cell → part_test cell w ≡ done o v
    → IsLeft w (join_pair first_tester made p q) v (if_at_most most_parts (made ++ made_part o))
pair_joined made p q cell {w = w} {v = v} {o = o} e m =
    next_left (part_test (p.cell ++ q.cell)) (λ o. if_at_most most_parts (made ++ made_part o)) (part_tells (p.cell ++ q.cell))
    (all_left w (join_pair first_tester made p q)) (subst (λ c. part_test c w ≡ done o v) e m)

-- they are few enough with the part that was made, and the list is there
pub pair_few : (made : List Part) (p q : Part) (cell : List HalfSpace) (longer : List Part) (w : Work) {v : Work} {o : Option Part} → cell ≡ p.cell ++ q.cell → part_test cell w ≡ done o v → longer ≡ made ++ made_part o → length longer ≤ most_parts
    → join_pair first_tester made p q w ≡ done longer v
pair_few made p q cell longer w {v = v} e m g h = end_left (done longer v) (left_as (ap (if_at_most most_parts) (sym g)) (pair_joined made p q cell e m)) (ap (λ b. few_if longer b v) (passes (length longer) most_parts h))

-- they are too many, and a limit is met
pub pair_many : (made : List Part) (p q : Part) (cell : List HalfSpace) (longer : List Part) (w : Work) {v : Work} {o : Option Part} → cell ≡ p.cell ++ q.cell → part_test cell w ≡ done o v → longer ≡ made ++ made_part o → most_parts < length longer
    → join_pair first_tester made p q w ≡ stopped limit_met v
pair_many made p q cell longer w {v = v} e m g h = end_left (stopped limit_met v) (left_as (ap (if_at_most most_parts) (sym g)) (pair_joined made p q cell e m)) (ap (λ b. few_if longer b v) (fails (length longer) most_parts h))

-- a test was counted, and a cell outside one half-space was tested: the part that was made is left
pub piece_made : (made : List Part) (cell before : List HalfSpace) (h : HalfSpace) (piece : List HalfSpace) {w u v : Work} {o : Option Part} → piece ≡ cell ++ before ++ complement h ∷ []
    → count_tests 1 w ≡ done tt u → part_test piece u ≡ done o v → IsLeft w (carve_one first_tester made cell before h) v (pass (made ++ made_part o))
piece_made made cell before h piece {w = w} {u = u} {v = v} {o = o} e n m =
    let whole = cell ++ before ++ complement h ∷ [] in
    next_left (part_test whole) (λ o. pass (made ++ made_part o)) (part_tells whole)
    (next_left (count_tests 1) (λ _. part_test whole >>= λ o. pass (made ++ made_part o)) (count_tells 1) (all_left w (carve_one first_tester made cell before h)) n)
    (subst (λ c. part_test c u ≡ done o v) e m)

-- a part test that has a fault
pub piece_untested : (made : List Part) (cell before : List HalfSpace) (h : HalfSpace) (piece : List HalfSpace) (w u v : Work) → piece ≡ cell ++ before ++ complement h ∷ [] → count_tests 1 w ≡ done tt u
    → (e : OpFault) → IsFaultOf e u v (part_test piece) → IsFaultOf e w v (carve_one first_tester made cell before h)
piece_untested made cell before h piece w u v s n e m =
    let whole = cell ++ before ++ complement h ∷ [] in
    fault_left (part_test whole) (λ o. pass (made ++ made_part o)) (λ o. pass_tells (made ++ made_part o))
    (next_left (count_tests 1) (λ _. part_test whole >>= λ o. pass (made ++ made_part o)) (count_tells 1) (all_left w (carve_one first_tester made cell before h)) n)
    e v (subst (λ c. IsFaultOf e u v (part_test c)) s m)

-- a count that has a fault
pub piece_uncounted : (made : List Part) (cell before : List HalfSpace) (h : HalfSpace) (w v : Work) (e : OpFault) → IsFaultOf e w v (count_tests 1) → IsFaultOf e w v (carve_one first_tester made cell before h)
piece_uncounted made cell before h w v e m =
    let piece = cell ++ before ++ complement h ∷ [] in
    fault_left (count_tests 1) (λ _. part_test piece >>= λ o. pass (made ++ made_part o))
    (λ _. then_tells (part_test piece) (λ o. pass (made ++ made_part o)) (part_tells piece) (λ o. pass_tells (made ++ made_part o)))
    (all_left w (carve_one first_tester made cell before h)) e v m

-- ---- one part outside another

-- whether they share a member, where their boxes meet or not
abbrev meet_if : Part → Part → Bool → Walk Work Bool
meet_if p q near = elim near [ false ↦ pass false | true ↦ count_tests 1 >> strict_test (p.cell ++ q.cell) ]

-- it only appends lines
meet_tells : (p q : Part) → OnlyTells (meet_if_near p q)
meet_tells p q = by_boxes (near_pair p q)
  where
    by_boxes : (b : Bool) → OnlyTells (meet_if p q b)
    by_boxes true = then_tells (count_tests 1) (λ _. strict_test (p.cell ++ q.cell)) (count_tells 1) (λ _. strict_tells (p.cell ++ q.cell))
    by_boxes false = pass_tells false

-- the boxes do not meet: no test is made
pub apart_unmet : (p q : Part) (w : Work) → near_pair p q ≡ false → meet_if_near p q w ≡ done false w
apart_unmet p q w e = ap (λ b. meet_if p q b w) e

-- the boxes meet: a test is counted first
near_left : (p q : Part) (w : Work) → near_pair p q ≡ true → IsLeft w (meet_if_near p q) w (count_tests 1 >>= λ _. strict_test (p.cell ++ q.cell))
near_left p q w e = left_as (ap (meet_if p q) e) (all_left w (meet_if_near p q))

-- a count that has a fault
pub meet_uncounted : (p q : Part) (w v : Work) → near_pair p q ≡ true → (e : OpFault) → IsFaultOf e w v (count_tests 1) → IsFaultOf e w v (meet_if_near p q)
meet_uncounted p q w v b e m = fault_left (count_tests 1) (λ _. strict_test (p.cell ++ q.cell)) (λ _. strict_tells (p.cell ++ q.cell)) (near_left p q w b) e v m

-- a test was counted: the strict test is left
pub meet_counted : (p q : Part) (w v : Work) → near_pair p q ≡ true → count_tests 1 w ≡ done tt v → IsLeft w (meet_if_near p q) v (strict_test (p.cell ++ q.cell))
meet_counted p q w v b n = next_left (count_tests 1) (λ _. strict_test (p.cell ++ q.cell)) (count_tells 1) (near_left p q w b) n

-- it is known first whether they share a member, and then the part is carved or kept
pair_by_meeting : (made : List Part) (c q : Part) → subtract_pair first_tester made c q ≡ (meet_if_near c q >>= λ found. carve_or_keep first_tester found made c q)
pair_by_meeting made c q = by_boxes (near_pair c q)
  where
    counted_first : (o : Outcome Work (Unit {0})) → after_first (λ _. strict_test (c.cell ++ q.cell) >>= λ found. carve_or_keep first_tester found made c q) o
        ≡ after_first (λ found. carve_or_keep first_tester found made c q) (after_first (λ _. strict_test (c.cell ++ q.cell)) o)
    counted_first (done u w) = refl
    counted_first (stopped s w) = refl

    by_boxes : (b : Bool) → (elim b as (λ _. Walk Work (List Part)) [
      | false ↦ pass (made ++ c ∷ [])
      | true ↦ do
        count_tests 1
        found ← strict_test (c.cell ++ q.cell)
        carve_or_keep first_tester found made c q
    ]) ≡ (meet_if c q b >>= λ found. carve_or_keep first_tester found made c q)
    by_boxes true = λ i w. counted_first (count_tests 1 w) i
    by_boxes false = refl

-- at the start that is left
pair_left : (made : List Part) (c q : Part) (w : Work) → IsLeft w (subtract_pair first_tester made c q) w (meet_if_near c q >>= λ found. carve_or_keep first_tester found made c q)
pair_left made c q w = left_as (pair_by_meeting made c q) (all_left w (subtract_pair first_tester made c q))

-- a fault on the way to know it
pub pair_unmet : (made : List Part) (c q : Part) (w v : Work) (e : OpFault) → IsFaultOf e w v (meet_if_near c q) → IsFaultOf e w v (subtract_pair first_tester made c q)
pair_unmet made c q w v e m = fault_left (meet_if_near c q) (λ found. carve_or_keep first_tester found made c q) (λ found. carve_or_keep_tells found made c q) (pair_left made c q w) e v m

-- it is known: carving or keeping is left
pub pair_met : (made : List Part) (c q : Part) {w v : Work} {found : Bool} → meet_if_near c q w ≡ done found v → IsLeft w (subtract_pair first_tester made c q) v (carve_or_keep first_tester found made c q)
pair_met made c q {w = w} m = next_left (meet_if_near c q) (λ found. carve_or_keep first_tester found made c q) (meet_tells c q) (pair_left made c q w) m

-- a list that is short enough passes
pub few_pass : {A : Type 0} (most : ℕ) (parts : List Part) (next : List Part → Walk Work A) → length parts ≤ most → (if_at_most most parts >>= next) ≡ next parts
few_pass most parts next h = ap (λ b. few_if parts b >>= next) (passes (length parts) most h)
