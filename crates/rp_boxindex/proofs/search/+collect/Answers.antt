use Rattle.std.proofs.Common.{◌≡◌, ℕ, ◌+◌, ◌*◌, ◌≤◌, Bool, true, false, [], ◌∷◌, rules, arith, ℤ, refl}
use Rattle.std.proofs.lemmas.Result.{on_ok_weaker}
use Rattle.rp_geometry.specs.Geometry.{IntegerBox}
use Rattle.rp_space.specs.Boxes.{integer_box}
use Rattle.rp_boxindex.specs.Bound.{meets_on_x}
use Rattle.rp_boxindex.specs.cells.Walks.{is_done}
use Rattle.rp_boxindex.specs.Counts.{count}
use Rattle.rp_boxindex.specs.Meeting.{is_below, do_meet}
use Rattle.rp_boxindex.specs.tree.Cost.{most_steps, most_steps_low}
use Rattle.rp_boxindex.specs.tree.Order.{low}
use Rattle.rp_boxindex.proofs.Visits.{no_side, no_side_low, only_left, only_left_low, both_sides, both_sides_low, found_none, found_none_in_hull, found_left, found_all}
use Rattle.rp_boxindex.proofs.Walks.{further_itself, further_trans, not_done_before}
use Rattle.rp_boxindex.proofs.search.+collect.Goals as goal

-- ---- r, s, t, u and v are counts of steps, in order

one_step : (s t k h : ℕ) → t ≡ s + 1 → t ≤ s + most_steps k h
one_step s t k h step = omega arith

one_step_low : (s t k h : ℕ) → t ≡ s + 1 → t ≤ s + most_steps_low k h
one_step_low s t k h step = omega arith

begun : (s t : ℕ) → t ≡ s + 1 → s ≤ t
begun s t step = omega arith

risen : (s r t : ℕ) → r ≡ s + 1 → r ≤ t → s ≤ t
risen s r t step turn = omega arith

risen_twice : (s r t u : ℕ) → r ≡ s + 1 → r ≤ t → t ≤ u → s ≤ u
risen_twice s r t u step turn rises = omega arith

risen_thrice : (s r t u v : ℕ) → r ≡ s + 1 → r ≤ t → t ≤ u → u ≤ v → s ≤ v
risen_thrice s r t u v step turn rises more = omega arith

-- o is the number of the node's boxes that meet on the x axis
turned : (s r t o : ℕ) → r ≡ s + 1 → t ≤ r + 2 * o → t ≤ s + 1 + 2 * o
turned s r t o step turn = omega arith

-- ---- what is returned

pub returns-then-not-is_reached_from-clause-found : goal.returns-then-not-is_reached_from-clause-found
returns-then-not-is_reached_from-clause-found g t c =
    let closed : Bool = c.args.query.now.closed in
    let b : IntegerBox = integer_box c.args.query.now.bounds in
    let top : ℤ = c.visit-node.result.top in
    let short : is_below closed b.x1 top ≡ false = search rules in
    λ _. found_none g.T.Take.after c.args.taker.now closed b top c.args.tree.now.entries c.visit-node.ensures.top short

pub returns-then-not-is_met_by-clause-found : goal.returns-then-not-is_met_by-clause-found
returns-then-not-is_met_by-clause-found g t c =
    let closed : Bool = c.args.query.now.closed in
    let b : IntegerBox = integer_box c.args.query.now.bounds in
    let hull : IntegerBox = integer_box c.visit-node.result.hull in
    let apart : do_meet closed b hull ≡ false = search rules in
    λ _. found_none_in_hull g.T.Take.after c.args.taker.now closed b hull c.args.tree.now.entries c.visit-node.ensures.hull apart

pub returns-in_err-collect-clause-most : goal.returns-in_err-collect-clause-most
returns-in_err-collect-clause-most g t c =
    only_left c.args.query.now.closed (integer_box c.args.query.now.bounds) c.visit-node.ensures.parts c.args.steps.now c.take_turn.new.steps c.collect.new.steps (turned c.args.steps.now c.visit-node.new.steps c.take_turn.new.steps (count (meets_on_x c.args.query.now.closed (integer_box c.args.query.now.bounds)) (c.visit-node.result.entry ∷ [])) c.visit-node.ensures.step c.take_turn.ensures.few) c.collect.ensures.most

pub returns-in_err-collect-clause-most_low : goal.returns-in_err-collect-clause-most_low
returns-in_err-collect-clause-most_low g t c =
    let closed : Bool = c.args.query.now.closed in
    let b : IntegerBox = integer_box c.args.query.now.bounds in
    let top : ℤ = c.visit-node.result.top in
    let reach : is_below closed b.x1 top ≡ true = search rules in
    only_left_low closed b top c.visit-node.ensures.parts c.visit-node.ensures.top reach c.args.steps.now c.take_turn.new.steps c.collect.new.steps (turned c.args.steps.now c.visit-node.new.steps c.take_turn.new.steps (count (meets_on_x c.args.query.now.closed (integer_box c.args.query.now.bounds)) (c.visit-node.result.entry ∷ [])) c.visit-node.ensures.step c.take_turn.ensures.few) c.collect.ensures.most_low

pub returns-then-not-reaches-clause-found : goal.returns-then-not-reaches-clause-found
returns-then-not-reaches-clause-found g t c =
    let closed : Bool = c.args.query.now.closed in
    let b : IntegerBox = integer_box c.args.query.now.bounds in
    let late : is_below closed (low c.visit-node.result.entry) b.x2 ≡ false = search rules in
    λ undone. found_left g.T.Take.after c.args.taker.now c.collect.new.taker closed b c.visit-node.ensures.parts late (c.in_ok-collect.ensures.found undone)

pub returns-then-not-reaches-clause-most : goal.returns-then-not-reaches-clause-most
returns-then-not-reaches-clause-most g t c =
    only_left c.args.query.now.closed (integer_box c.args.query.now.bounds) c.visit-node.ensures.parts c.args.steps.now c.take_turn.new.steps c.collect.new.steps (turned c.args.steps.now c.visit-node.new.steps c.take_turn.new.steps (count (meets_on_x c.args.query.now.closed (integer_box c.args.query.now.bounds)) (c.visit-node.result.entry ∷ [])) c.visit-node.ensures.step c.take_turn.ensures.few) c.collect.ensures.most

pub returns-then-not-reaches-clause-most_low : goal.returns-then-not-reaches-clause-most_low
returns-then-not-reaches-clause-most_low g t c =
    let closed : Bool = c.args.query.now.closed in
    let b : IntegerBox = integer_box c.args.query.now.bounds in
    let top : ℤ = c.visit-node.result.top in
    let reach : is_below closed b.x1 top ≡ true = search rules in
    only_left_low closed b top c.visit-node.ensures.parts c.visit-node.ensures.top reach c.args.steps.now c.take_turn.new.steps c.collect.new.steps (turned c.args.steps.now c.visit-node.new.steps c.take_turn.new.steps (count (meets_on_x c.args.query.now.closed (integer_box c.args.query.now.bounds)) (c.visit-node.result.entry ∷ [])) c.visit-node.ensures.step c.take_turn.ensures.few) c.collect.ensures.most_low

pub returns-in_err-collect_one-clause-most : goal.returns-in_err-collect_one-clause-most
returns-in_err-collect_one-clause-most g t c =
    only_left c.args.query.now.closed (integer_box c.args.query.now.bounds) c.visit-node.ensures.parts c.args.steps.now c.take_turn.new.steps c.collect.new.steps (turned c.args.steps.now c.visit-node.new.steps c.take_turn.new.steps (count (meets_on_x c.args.query.now.closed (integer_box c.args.query.now.bounds)) (c.visit-node.result.entry ∷ [])) c.visit-node.ensures.step c.take_turn.ensures.few) c.collect.ensures.most

pub returns-in_err-collect_one-clause-most_low : goal.returns-in_err-collect_one-clause-most_low
returns-in_err-collect_one-clause-most_low g t c =
    let closed : Bool = c.args.query.now.closed in
    let b : IntegerBox = integer_box c.args.query.now.bounds in
    let top : ℤ = c.visit-node.result.top in
    let reach : is_below closed b.x1 top ≡ true = search rules in
    only_left_low closed b top c.visit-node.ensures.parts c.visit-node.ensures.top reach c.args.steps.now c.take_turn.new.steps c.collect.new.steps (turned c.args.steps.now c.visit-node.new.steps c.take_turn.new.steps (count (meets_on_x c.args.query.now.closed (integer_box c.args.query.now.bounds)) (c.visit-node.result.entry ∷ [])) c.visit-node.ensures.step c.take_turn.ensures.few) c.collect.ensures.most_low

pub returns-clause-found : goal.returns-clause-found
returns-clause-found g t c =
    let closed : Bool = c.args.query.now.closed in
    let b : IntegerBox = integer_box c.args.query.now.bounds in
    on_ok_weaker c.collect-2.result
    (λ found undone. found_all g.T.Take.after c.args.taker.now c.collect.new.taker c.collect_one.new.taker c.collect-2.new.taker closed b c.visit-node.ensures.parts (c.in_ok-collect.ensures.found (not_done_before g.T.Take.after closed b c.collect.new.walk c.collect-2.new.walk c.collect-2.ensures.further undone (is_done c.collect.new.walk) refl)) c.in_ok-collect_one.ensures (found undone))
    c.collect-2.ensures.found

pub returns-clause-most : goal.returns-clause-most
returns-clause-most g t c =
    let closed : Bool = c.args.query.now.closed in
    let b : IntegerBox = integer_box c.args.query.now.bounds in
    let early : is_below closed (low c.visit-node.result.entry) b.x2 ≡ true = search rules in
    both_sides closed b c.visit-node.ensures.parts early c.args.steps.now c.take_turn.new.steps c.collect.new.steps c.collect-2.new.steps (turned c.args.steps.now c.visit-node.new.steps c.take_turn.new.steps (count (meets_on_x c.args.query.now.closed (integer_box c.args.query.now.bounds)) (c.visit-node.result.entry ∷ [])) c.visit-node.ensures.step c.take_turn.ensures.few) c.collect.ensures.most_low c.collect-2.ensures.most

pub returns-clause-most_low : goal.returns-clause-most_low
returns-clause-most_low g t c =
    let closed : Bool = c.args.query.now.closed in
    let b : IntegerBox = integer_box c.args.query.now.bounds in
    let top : ℤ = c.visit-node.result.top in
    let reach : is_below closed b.x1 top ≡ true = search rules in
    both_sides_low closed b top c.visit-node.ensures.parts c.visit-node.ensures.top reach c.args.steps.now c.take_turn.new.steps c.collect.new.steps c.collect-2.new.steps (turned c.args.steps.now c.visit-node.new.steps c.take_turn.new.steps (count (meets_on_x c.args.query.now.closed (integer_box c.args.query.now.bounds)) (c.visit-node.result.entry ∷ [])) c.visit-node.ensures.step c.take_turn.ensures.few) c.collect.ensures.most_low c.collect-2.ensures.most_low

pub returns-then-not-is_reached_from-clause-slender : goal.returns-then-not-is_reached_from-clause-slender
returns-then-not-is_reached_from-clause-slender g t c = c.is_empty.ensures.slender

pub returns-then-not-is_reached_from-clause-rises : goal.returns-then-not-is_reached_from-clause-rises
returns-then-not-is_reached_from-clause-rises g t c = begun c.args.steps.now c.visit-node.new.steps c.visit-node.ensures.step

pub returns-then-not-is_reached_from-clause-most : goal.returns-then-not-is_reached_from-clause-most
returns-then-not-is_reached_from-clause-most g t c = one_step c.args.steps.now c.visit-node.new.steps _ _ c.visit-node.ensures.step

pub returns-then-not-is_reached_from-clause-most_low : goal.returns-then-not-is_reached_from-clause-most_low
returns-then-not-is_reached_from-clause-most_low g t c = λ _. one_step_low c.args.steps.now c.visit-node.new.steps _ _ c.visit-node.ensures.step

pub returns-then-not-is_met_by-clause-slender : goal.returns-then-not-is_met_by-clause-slender
returns-then-not-is_met_by-clause-slender g t c = c.is_empty.ensures.slender

pub returns-then-not-is_met_by-clause-rises : goal.returns-then-not-is_met_by-clause-rises
returns-then-not-is_met_by-clause-rises g t c = risen c.args.steps.now c.visit-node.new.steps c.take_turn.new.steps c.visit-node.ensures.step c.take_turn.ensures.rises

pub returns-then-not-is_met_by-clause-most : goal.returns-then-not-is_met_by-clause-most
returns-then-not-is_met_by-clause-most g t c =
    no_side c.args.query.now.closed (integer_box c.args.query.now.bounds) c.visit-node.ensures.parts c.args.steps.now c.take_turn.new.steps (turned c.args.steps.now c.visit-node.new.steps c.take_turn.new.steps (count (meets_on_x c.args.query.now.closed (integer_box c.args.query.now.bounds)) (c.visit-node.result.entry ∷ [])) c.visit-node.ensures.step c.take_turn.ensures.few)

pub returns-then-not-is_met_by-clause-most_low : goal.returns-then-not-is_met_by-clause-most_low
returns-then-not-is_met_by-clause-most_low g t c = λ _.
    no_side_low c.args.query.now.closed (integer_box c.args.query.now.bounds) c.visit-node.ensures.parts c.args.steps.now c.take_turn.new.steps (turned c.args.steps.now c.visit-node.new.steps c.take_turn.new.steps (count (meets_on_x c.args.query.now.closed (integer_box c.args.query.now.bounds)) (c.visit-node.result.entry ∷ [])) c.visit-node.ensures.step c.take_turn.ensures.few)

pub returns-in_err-collect-clause-slender : goal.returns-in_err-collect-clause-slender
returns-in_err-collect-clause-slender g t c = c.is_empty.ensures.slender

pub returns-in_err-collect-clause-rises : goal.returns-in_err-collect-clause-rises
returns-in_err-collect-clause-rises g t c = risen_twice c.args.steps.now c.visit-node.new.steps c.take_turn.new.steps c.collect.new.steps c.visit-node.ensures.step c.take_turn.ensures.rises c.collect.ensures.rises

pub returns-then-not-reaches-clause-slender : goal.returns-then-not-reaches-clause-slender
returns-then-not-reaches-clause-slender g t c = c.is_empty.ensures.slender

pub returns-then-not-reaches-clause-rises : goal.returns-then-not-reaches-clause-rises
returns-then-not-reaches-clause-rises g t c = risen_twice c.args.steps.now c.visit-node.new.steps c.take_turn.new.steps c.collect.new.steps c.visit-node.ensures.step c.take_turn.ensures.rises c.collect.ensures.rises

pub returns-in_err-collect_one-clause-slender : goal.returns-in_err-collect_one-clause-slender
returns-in_err-collect_one-clause-slender g t c = c.is_empty.ensures.slender

pub returns-in_err-collect_one-clause-rises : goal.returns-in_err-collect_one-clause-rises
returns-in_err-collect_one-clause-rises g t c = risen_twice c.args.steps.now c.visit-node.new.steps c.take_turn.new.steps c.collect.new.steps c.visit-node.ensures.step c.take_turn.ensures.rises c.collect.ensures.rises

pub returns-clause-slender : goal.returns-clause-slender
returns-clause-slender g t c = c.is_empty.ensures.slender

pub returns-clause-rises : goal.returns-clause-rises
returns-clause-rises g t c = risen_thrice c.args.steps.now c.visit-node.new.steps c.take_turn.new.steps c.collect.new.steps c.collect-2.new.steps c.visit-node.ensures.step c.take_turn.ensures.rises c.collect.ensures.rises c.collect-2.ensures.rises

-- ---- the walk goes on

pub returns-then-is_empty-clause-further : goal.returns-then-is_empty-clause-further
returns-then-is_empty-clause-further g t c =
    further_itself g.T.Take.after c.args.query.now.closed (integer_box c.args.query.now.bounds) c.args.walk.now

pub returns-then-is_done-clause-further : goal.returns-then-is_done-clause-further
returns-then-is_done-clause-further g t c =
    further_itself g.T.Take.after c.args.query.now.closed (integer_box c.args.query.now.bounds) c.args.walk.now

pub returns-then-not-is_reached_from-clause-further : goal.returns-then-not-is_reached_from-clause-further
returns-then-not-is_reached_from-clause-further g t c =
    further_itself g.T.Take.after c.args.query.now.closed (integer_box c.args.query.now.bounds) c.args.walk.now

pub returns-in_err-collect-clause-further : goal.returns-in_err-collect-clause-further
returns-in_err-collect-clause-further g t c =
    further_trans g.T.Take.after c.args.query.now.closed (integer_box c.args.query.now.bounds) c.args.walk.now c.take_turn.new.walk c.collect.new.walk c.take_turn.ensures.further c.collect.ensures.further

pub returns-then-not-reaches-clause-further : goal.returns-then-not-reaches-clause-further
returns-then-not-reaches-clause-further g t c =
    further_trans g.T.Take.after c.args.query.now.closed (integer_box c.args.query.now.bounds) c.args.walk.now c.take_turn.new.walk c.collect.new.walk c.take_turn.ensures.further c.collect.ensures.further

pub returns-in_err-collect_one-clause-further : goal.returns-in_err-collect_one-clause-further
returns-in_err-collect_one-clause-further g t c =
    further_trans g.T.Take.after c.args.query.now.closed (integer_box c.args.query.now.bounds) c.args.walk.now c.take_turn.new.walk c.collect.new.walk c.take_turn.ensures.further c.collect.ensures.further

pub returns-clause-further : goal.returns-clause-further
returns-clause-further g t c =
    further_trans g.T.Take.after c.args.query.now.closed (integer_box c.args.query.now.bounds) c.args.walk.now c.collect.new.walk c.collect-2.new.walk (further_trans g.T.Take.after c.args.query.now.closed (integer_box c.args.query.now.bounds) c.args.walk.now c.take_turn.new.walk c.collect.new.walk c.take_turn.ensures.further c.collect.ensures.further) c.collect-2.ensures.further
