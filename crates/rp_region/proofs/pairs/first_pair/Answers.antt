use Rattle.std.proofs.Common.{refl, ap, ◌∙◌}
use Rattle.std.specs.Prelude.{Option, is_some}
use Rattle.std.proofs.lemmas.Result.{err_from_is_err_and}
use Rattle.rp_semantics.specs.Walk.{done}
use Rattle.rp_semantics.specs.Form.{first_with_part, first_pair}
use Rattle.rp_region.specs.Pairs.{chosen_pair}
use Rattle.rp_region.proofs.Searched.{with_part_tells, pairs_tell, item_fails, item_found, item_passed, search_ended}
use Rattle.rp_region.proofs.pairs.first_pair.Goals as goal

pub returns-in_err-found-clause-makes : goal.returns-in_err-found-clause-makes
returns-in_err-found-clause-makes g c =
    let p = err_from_is_err_and c.from_residual.result c.from_residual.ensures.1 in
    let chosen = chosen_pair c.args.near g.W.Witness.may_meet in
    let test = g.W.Witness.test in
    let tells = g.met.W.Witness.only_tells in
    rw (p.1, p.2)
    (item_fails (λ p. first_with_part chosen test p c.args.others.now) (λ ps. first_pair chosen test ps c.args.others.now) (λ p ps. refl)
    (λ p. with_part_tells chosen test tells p c.args.others.now) (λ ps. pairs_tell chosen test tells ps c.args.others.now)
    c.args.parts.now c.loop-part.part-index c.part-item.result c.loop-part-test.true c.part-item.is c.loop-part.invariant
    c.in_err-found.field-0.0 c.first_with_part.new.work c.in_err-found.ensures.makes)

pub returns-in-Some-clause-makes : goal.returns-in-Some-clause-makes
returns-in-Some-clause-makes g c =
    let chosen = chosen_pair c.args.near g.W.Witness.may_meet in
    let test = g.W.Witness.test in
    let tells = g.met.W.Witness.only_tells in
    item_found (λ p. first_with_part chosen test p c.args.others.now) (λ ps. first_pair chosen test ps c.args.others.now) (λ p ps. refl)
    (λ p. with_part_tells chosen test tells p c.args.others.now) (λ ps. pairs_tell chosen test tells ps c.args.others.now)
    c.args.parts.now c.loop-part.part-index c.part-item.result c.loop-part-test.true c.part-item.is c.loop-part.invariant
    (c.in_ok-found.ensures.makes ∙ ap (λ (o : Option g.row.W.Denot). done (is_some o) c.first_with_part.new.work) c.in-Some.is)

pub loop-part-preserved : goal.loop-part-preserved
loop-part-preserved g c =
    let chosen = chosen_pair c.args.near g.W.Witness.may_meet in
    let test = g.W.Witness.test in
    let tells = g.met.W.Witness.only_tells in
    item_passed (λ p. first_with_part chosen test p c.args.others.now) (λ ps. first_pair chosen test ps c.args.others.now) (λ p ps. refl)
    (λ p. with_part_tells chosen test tells p c.args.others.now) (λ ps. pairs_tell chosen test tells ps c.args.others.now)
    c.args.parts.now c.loop-part.part-index c.part-item.result c.loop-part-test.true c.part-item.is c.loop-part.invariant
    (c.in_ok-found.ensures.makes ∙ ap (λ (o : Option g.row.W.Denot). done (is_some o) c.first_with_part.new.work) c.in_default.is)

pub returns-clause-makes : goal.returns-clause-makes
returns-clause-makes g c =
    search_ended (λ ps. first_pair (chosen_pair c.args.near g.W.Witness.may_meet) g.W.Witness.test ps c.args.others.now) c.args.parts.now c.loop-part.part-index c.loop-part-test.false refl c.loop-part.invariant
