use Rattle.std.proofs.Common.{ℕ, ◌++◌, [], List, map, get_or, sym, ap, ◌∙◌, subst, arith, append-nil}
use Rattle.std.proofs.lemmas.List.{drop_all}
use Rattle.std.proofs.lemmas.Result.{err_from_is_err_and}
use Rattle.rp_lots.specs.declared.near.Near.{Near}
use Rattle.rp_contacts.specs.declared.behind.NearPairs.{NearPairs}
use Rattle.rp_contacts.specs.Meets.{pair_of}
use Rattle.rp_contacts.specs.Behind.{tests_behind, ArePairsBehind}
use Rattle.rp_lots.proofs.Counted.{count_more}
use Rattle.rp_contacts.proofs.Paired.{pairs_more, tests_more}
use Rattle.rp_contacts.proofs.behind.later_pairs.Goals as goal

pub returns-in_err-near-clause-tests : goal.returns-in_err-near-clause-tests
returns-in_err-near-clause-tests g c =
    let p = err_from_is_err_and c.from_residual.result c.from_residual.ensures.1 in
    let next = tests_more c.args.reach (g.K.Keeper.state c.args.keeper.now).lots c.args.places.now c.loop-place.place-index c.loop-place-test.true in
    let left = c.loop-place.invariant.counted in
    rw (p.1, p.2) (count_more (λ (near : Near). near.pairs) (λ (near : NearPairs). near.tests) c.in_err-near.field-0.0 _ _ (omega (arith, next, left)) c.in_err-near.ensures.pairs)

pub returns-then-tests-clause-tests : goal.returns-then-tests-clause-tests
returns-then-tests-clause-tests g c =
    let next = tests_more c.args.reach (g.K.Keeper.state c.args.keeper.now).lots c.args.places.now c.loop-place.place-index c.loop-place-test.true in
    let left = c.loop-place.invariant.counted in
    let own = c.in_ok-near.ensures.pairs.0 in
    omega (arith, next, left, own)

pub loop-place-preserved : goal.loop-place-preserved
loop-place-preserved g c =
    let next = tests_more c.args.reach (g.K.Keeper.state c.args.keeper.now).lots c.args.places.now c.loop-place.place-index c.loop-place-test.true in
    let left = c.loop-place.invariant.counted in
    let own = c.in_ok-near.ensures.pairs.0 in
    let k = get_or c.args.places.now c.loop-place.place-index 0 in
    record {
      counted = omega (arith, next, left, own);
      few = omega arith;
      paired = pairs_more c.args.reach (g.K.Keeper.state c.args.keeper.now).lots c.args.places.now c.loop-place.place-index c.loop-place-test.true c.loop-place.pairs.items c.add_pairs.new.pairs.items c.loop-place.invariant.paired
          c.in_ok-near.near.places.items c.in_ok-near.ensures.near (c.in_ok-add_pairs.ensures ∙ ap (λ (js : List ℕ). c.loop-place.pairs.items ++ map (pair_of k) js) c.items.ensures);
    }

pub returns-clause-tests : goal.returns-clause-tests
returns-clause-tests g c =
    let none = ap (tests_behind c.args.reach (g.K.Keeper.state c.args.keeper.now).lots) (drop_all c.loop-place.place-index c.args.places.now c.loop-place-test.false) in
    let left = c.loop-place.invariant.counted in
    let few = c.loop-place.invariant.few in
    (omega (arith, none, left), omega (arith, none, left, few))

pub returns-clause-pairs : goal.returns-clause-pairs
returns-clause-pairs g c =
    subst (ArePairsBehind c.args.reach (g.K.Keeper.state c.args.keeper.now).lots c.args.places.now) (append-nil c.loop-place.pairs.items)
    (c.loop-place.invariant.paired [] (subst (λ (ks : List ℕ). ArePairsBehind c.args.reach (g.K.Keeper.state c.args.keeper.now).lots ks []) (sym (drop_all c.loop-place.place-index c.args.places.now c.loop-place-test.false)) (λ i. [])))
