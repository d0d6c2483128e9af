-- Walks only append proof lines.
use Rattle.std.proofs.Common.{◌≡◌, ℕ, Bool, true, false, List, [], ◌∷◌, ◌++◌, length, refl, sym, ap, ◌∙◌, append_assoc, subst}
use Rattle.std.specs.Prelude.{◌+◌, nat_le, Option, Some, None}
use Rattle.std.proofs.lemmas.List.{append-nil}
use Rattle.rp_geometry.specs.Geometry.{HalfSpace, boxes_meet, complement}
use Rattle.rp_geometry.specs.sets.Prism.{Edge, is_upright, Prism}
use Rattle.rp_geometry.specs.sets.Shape.{Part}
use Rattle.rp_geometry.specs.searches.ProofLine.{strict_line}
use Rattle.rp_geometry.specs.parts.PartTest.{has_member, slimmed, part_lines, part_of}
use Rattle.rp_geometry.specs.parts.Parts.{most_half_spaces, most_parts}
use Rattle.rp_semantics.specs.Walk.{Outcome, done, stopped, limit_met, Walk, pass, stop, after_first, ◌>>=◌, ◌>>◌, Work, with_lines, most_tests, count_tests, strict_test, part_test, first_tester}
use Rattle.rp_semantics.specs.Form.{made_part, if_at_most, join_pair, join_with_part, join_each, carve_one, carve, carve_or_keep, subtract_pair, subtract_part, subtract, exchange, exchange_edge, exchange_edges, exchange_lists, exchange_cell}
use Rattle.rp_footprint.specs.Cells.{trapezoid_by}
use Rattle.rp_region.specs.Makes.{work_after, TellsMore, OnlyTells}
use Rattle.rp_region.specs.Tells.{strict_tells}

-- the same lines
pub no_more : (w : Work) → TellsMore w w
no_more w = record { more = []; lines = sym (append-nil w.proofs) }

-- lines behind lines
pub more_still : (u v w : Work) → TellsMore u v → TellsMore v w → TellsMore u w
more_still u v w a b = record { more = a.more ++ b.more; lines = b.lines ∙ ap (λ ls. ls ++ b.more) a.lines ∙ append_assoc u.proofs a.more b.more }

-- what comes after a walk that has come to its end
pub after_tells : {A B : Type 0} (next : A → Walk Work B) → ((x : A) → OnlyTells (next x)) → (o : Outcome Work A) → TellsMore (work_after o) (work_after (after_first next o))
after_tells next each (done x w) = (each x).tells w
after_tells next each (stopped s w) = no_more w

-- one walk and then the next
pub then_tells : {A B : Type 0} (first : Walk Work A) (next : A → Walk Work B) → OnlyTells first → ((x : A) → OnlyTells (next x)) → OnlyTells (first >>= next)
then_tells first next f each = record { tells = λ w. more_still w (work_after (first w)) (work_after (after_first next (first w))) (f.tells w) (after_tells next each (first w)) }

-- a walk without a test
pub pass_tells : {A : Type 0} (x : A) → OnlyTells (pass {W = Work} x)
pass_tells x = record { tells = λ w. no_more w }

-- ---- tests

-- tests are counted
pub count_tells : (n : ℕ) → OnlyTells (count_tests n)
count_tells n = record { tells = λ w. by_test w (nat_le (w.tests + n) most_tests) }
  where
    by_test : (w : Work) (b : Bool) → TellsMore w (work_after (elim b as (λ _. Outcome Work (Unit {0})) [ true ↦ done tt (record { tests = w.tests + n; proofs = w.proofs }) | false ↦ stopped limit_met w ]))
    by_test w true = record { more = []; lines = sym (append-nil w.proofs) }
    by_test w false = no_more w

-- a part test
pub part_tells : (cell : List HalfSpace) → OnlyTells (part_test cell)
unfolding part_test
part_tells cell = record { tells = λ w. by_member w (has_member cell) }
  where
    by_size : (w : Work) (b : Bool) → TellsMore w (work_after (elim b as (λ _. Outcome Work (Option Part)) [
      | true ↦ done (Some (part_of (slimmed cell))) (with_lines w (strict_line cell ∷ part_lines (slimmed cell)))
      | false ↦ stopped limit_met w
    ]))
    by_size w true = record { more = strict_line cell ∷ part_lines (slimmed cell); lines = refl }
    by_size w false = no_more w

    by_member : (w : Work) (b : Bool) → TellsMore w (work_after (elim b as (λ _. Outcome Work (Option Part)) [
      | false ↦ done None (with_lines w (strict_line cell ∷ []))
      | true ↦ elim (nat_le (length (slimmed cell).kept) most_half_spaces) as (λ _. Outcome Work (Option Part)) [
        | true ↦ done (Some (part_of (slimmed cell))) (with_lines w (strict_line cell ∷ part_lines (slimmed cell)))
        | false ↦ stopped limit_met w
      ]
    ]))
    by_member w false = record { more = strict_line cell ∷ []; lines = refl }
    by_member w true = by_size w (nat_le (length (slimmed cell).kept) most_half_spaces)

-- a list of parts, if it is short enough
pub few_tells : (most : ℕ) (parts : List Part) → OnlyTells (if_at_most {W = Work} most parts)
few_tells most parts = record { tells = λ w. by_test w (nat_le (length parts) most) }
  where
    by_test : (w : Work) (b : Bool) → TellsMore w (work_after ((elim b as (λ _. Walk Work (List Part)) [ true ↦ pass parts | false ↦ stop limit_met ]) w))
    by_test w true = no_more w
    by_test w false = no_more w

-- ---- joins

-- two parts
pub join_pair_tells : (made : List Part) (p q : Part) → OnlyTells (join_pair first_tester made p q)
join_pair_tells made p q =
    then_tells (part_test (p.cell ++ q.cell)) (λ o. if_at_most most_parts (made ++ made_part o)) (part_tells (p.cell ++ q.cell)) (λ o. few_tells most_parts (made ++ made_part o))

-- one part with each part of a list
pub join_with_part_tells : (made : List Part) (p : Part) (qs : List Part) → OnlyTells (join_with_part first_tester made p qs)
join_with_part_tells made p [] = pass_tells made
join_with_part_tells made p (q ∷ qs) =
    then_tells (join_pair first_tester made p q) (λ longer. join_with_part first_tester longer p qs) (join_pair_tells made p q) (λ longer. join_with_part_tells longer p qs)

-- each part of a list with each part of another
pub join_each_tells : (made ps qs : List Part) → OnlyTells (join_each first_tester made ps qs)
join_each_tells made [] qs = pass_tells made
join_each_tells made (p ∷ ps) qs =
    then_tells (join_with_part first_tester made p qs) (λ longer. join_each first_tester longer ps qs) (join_with_part_tells made p qs) (λ longer. join_each_tells longer ps qs)

-- ---- differences

-- a cell outside one half-space
pub carve_one_tells : (made : List Part) (cell before : List HalfSpace) (h : HalfSpace) → OnlyTells (carve_one first_tester made cell before h)
carve_one_tells made cell before h =
    let whole = cell ++ before ++ complement h ∷ [] in
    then_tells (count_tests 1) _ (count_tells 1) (λ _. then_tells (part_test whole) (λ o. pass (made ++ made_part o)) (part_tells whole) (λ o. pass_tells (made ++ made_part o)))

-- a cell outside further ones
pub carve_tells : (made : List Part) (cell before hs : List HalfSpace) → OnlyTells (carve first_tester made cell before hs)
carve_tells made cell before [] = pass_tells made
carve_tells made cell before (h ∷ hs) =
    then_tells (carve_one first_tester made cell before h) (λ longer. carve first_tester longer cell (before ++ h ∷ []) hs)
    (carve_one_tells made cell before h) (λ longer. carve_tells longer cell (before ++ h ∷ []) hs)

-- a part that is carved or kept
pub carve_or_keep_tells : (found : Bool) (made : List Part) (c q : Part) → OnlyTells (carve_or_keep first_tester found made c q)
carve_or_keep_tells true made c q = carve_tells made c.cell [] q.cell
carve_or_keep_tells false made c q = pass_tells (made ++ c ∷ [])

-- one part outside another
pub subtract_pair_tells : (made : List Part) (c q : Part) → OnlyTells (subtract_pair first_tester made c q)
subtract_pair_tells made c q = by_boxes (boxes_meet c.bounds q.bounds)
  where
    by_boxes : (b : Bool) → OnlyTells (elim b as (λ _. Walk Work (List Part)) [
      | false ↦ pass (made ++ c ∷ [])
      | true ↦ do
        count_tests 1
        found ← strict_test (c.cell ++ q.cell)
        carve_or_keep first_tester found made c q
    ])
    by_boxes false = pass_tells (made ++ c ∷ [])
    by_boxes true =
        then_tells (count_tests 1) _ (count_tells 1) (λ _. then_tells (strict_test (c.cell ++ q.cell)) (λ found. carve_or_keep first_tester found made c q)
        (strict_tells (c.cell ++ q.cell)) (λ found. carve_or_keep_tells found made c q))

-- the parts of a list without one part
pub subtract_part_tells : (made cs : List Part) (q : Part) → OnlyTells (subtract_part first_tester made cs q)
subtract_part_tells made [] q = pass_tells made
subtract_part_tells made (c ∷ cs) q =
    then_tells (subtract_pair first_tester made c q) (λ longer. subtract_part first_tester longer cs q) (subtract_pair_tells made c q) (λ longer. subtract_part_tells longer cs q)

-- the parts of a list without those of another
pub subtract_tells : (current qs : List Part) → OnlyTells (subtract first_tester current qs)
subtract_tells current [] = pass_tells current
subtract_tells current (q ∷ qs) =
    then_tells (subtract_part first_tester [] current q) _ (subtract_part_tells [] current q)
    (λ left. then_tells (if_at_most most_parts left) (λ next. subtract first_tester next qs) (few_tells most_parts left) (λ next. subtract_tells next qs))

-- ---- prisms

-- two lists are exchanged
pub lists_tell : (current made : List Part) → OnlyTells (exchange_lists first_tester current made)
lists_tell current made =
    then_tells (subtract first_tester current made) (λ outside. subtract first_tester made current >>= λ added. if_at_most most_parts (outside ++ added)) (subtract_tells current made)
    (λ outside. then_tells (subtract first_tester made current) (λ added. if_at_most most_parts (outside ++ added)) (subtract_tells made current) (λ added. few_tells most_parts (outside ++ added)))

-- a part, if there is one
pub exchange_tells : (current : List Part) (o : Option Part) → OnlyTells (exchange first_tester current o)
exchange_tells current None = pass_tells current
exchange_tells current (Some made) = lists_tell current (made ∷ [])

-- the part of a cell
pub cell_tells : (current : List Part) (o : Option (List HalfSpace)) → OnlyTells (exchange_cell first_tester current o)
cell_tells current None = pass_tells current
cell_tells current (Some cell) = then_tells (part_test cell) (exchange first_tester current) (part_tells cell) (λ o. exchange_tells current o)

-- the cell of an edge is that of its trapezoid, if there is one
pub edge_as_cell : (s : Prism) (u : Bool) (current : List Part) (e : Edge) → exchange_edge first_tester s u current e ≡ exchange_cell first_tester current (trapezoid_by s u e)
edge_as_cell s true current e = refl
edge_as_cell s false current e = refl

-- the trapezoids of edges
pub edges_tell : (s : Prism) (current : List Part) (es : List Edge) → OnlyTells (exchange_edges first_tester s current es)
edges_tell s current [] = pass_tells current
edges_tell s current (e ∷ es) =
    then_tells (exchange_edge first_tester s (is_upright e) current e) (λ next. exchange_edges first_tester s next es)
    (subst (λ walk. OnlyTells walk) (sym (edge_as_cell s (is_upright e) current e)) (cell_tells current (trapezoid_by s (is_upright e) e)))
    (λ next. edges_tell s next es)
