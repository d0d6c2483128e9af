use Rattle.std.proofs.Common.{refl, ap, ◌∙◌}
use Rattle.std.specs.Prelude.{Option, is_some}
use Rattle.std.proofs.lemmas.Result.{err_from_is_err_and}
use Rattle.rp_semantics.specs.Walk.{done}
use Rattle.rp_semantics.specs.Form.{test_pair_if, first_with_part}
use Rattle.rp_region.specs.Pairs.{chosen_pair}
use Rattle.rp_region.proofs.Searched.{pair_tells, with_part_tells, item_fails, item_found, item_passed, search_ended}
use Rattle.rp_region.proofs.pairs.first_with_part.Goals as goal

pub returns-in_err-found-clause-makes : goal.returns-in_err-found-clause-makes
returns-in_err-found-clause-makes g c =
    let p = err_from_is_err_and c.from_residual.result c.from_residual.ensures.1 in
    let chosen = chosen_pair c.args.near g.W.Witness.may_meet in
    let test = g.W.Witness.test in
    let tells = g.met.W.Witness.only_tells in
    rw (p.1, p.2)
    (item_fails (λ q. test_pair_if (chosen c.args.part.now q) test c.args.part.now q) (first_with_part chosen test c.args.part.now) (λ q qs. refl)
    (λ q. pair_tells chosen test tells (chosen c.args.part.now q) c.args.part.now q) (with_part_tells chosen test tells c.args.part.now)
    c.args.others.now c.loop-other.other-index c.other-item.result c.loop-other-test.true c.other-item.is c.loop-other.invariant
    c.in_err-found.field-0.0 c.test_pair.new.work c.in_err-found.ensures.makes)

pub returns-in-Some-clause-makes : goal.returns-in-Some-clause-makes
returns-in-Some-clause-makes g c =
    let chosen = chosen_pair c.args.near g.W.Witness.may_meet in
    let test = g.W.Witness.test in
    let tells = g.met.W.Witness.only_tells in
    item_found (λ q. test_pair_if (chosen c.args.part.now q) test c.args.part.now q) (first_with_part chosen test c.args.part.now) (λ q qs. refl)
    (λ q. pair_tells chosen test tells (chosen c.args.part.now q) c.args.part.now q) (with_part_tells chosen test tells c.args.part.now)
    c.args.others.now c.loop-other.other-index c.other-item.result c.loop-other-test.true c.other-item.is c.loop-other.invariant
    (c.in_ok-found.ensures.makes ∙ ap (λ (o : Option g.row.W.Denot). done (is_some o) c.test_pair.new.work) c.in-Some.is)

pub loop-other-preserved : goal.loop-other-preserved
loop-other-preserved g c =
    let chosen = chosen_pair c.args.near g.W.Witness.may_meet in
    let test = g.W.Witness.test in
    let tells = g.met.W.Witness.only_tells in
    item_passed (λ q. test_pair_if (chosen c.args.part.now q) test c.args.part.now q) (first_with_part chosen test c.args.part.now) (λ q qs. refl)
    (λ q. pair_tells chosen test tells (chosen c.args.part.now q) c.args.part.now q) (with_part_tells chosen test tells c.args.part.now)
    c.args.others.now c.loop-other.other-index c.other-item.result c.loop-other-test.true c.other-item.is c.loop-other.invariant
    (c.in_ok-found.ensures.makes ∙ ap (λ (o : Option g.row.W.Denot). done (is_some o) c.test_pair.new.work) c.in_default.is)

pub returns-clause-makes : goal.returns-clause-makes
returns-clause-makes g c =
    search_ended (first_with_part (chosen_pair c.args.near g.W.Witness.may_meet) g.W.Witness.test c.args.part.now) c.args.others.now c.loop-other.other-index c.loop-other-test.false refl c.loop-other.invariant
