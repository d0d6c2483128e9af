use Rattle.std.proofs.Common.{ℕ, List, length, None, sym, ap, ◌∙◌, subst, arith}
use Rattle.std.proofs.lemmas.List.{length-map}
use Rattle.std.proofs.lemmas.Result.{err_from_is_err_and}
use Rattle.rp_model.specs.states.State.{bare_lot}
use Rattle.rp_proximity.specs.declared.reach.Reach.TheVariants.{Overlap}
use Rattle.rp_proximity.specs.Near.{AreWithin}
use Rattle.rp_contacts.specs.declared.behind.NearPairs.{NearPairs}
use Rattle.rp_contacts.specs.Behind.{tests_behind, ArePairsBehind}
use Rattle.rp_contacts.proofs.Apart.{audit_stops, audit_leaves}
use Rattle.rp_lots.proofs.Counted.{count_lost}
use Rattle.rp_contacts.proofs.Paired.{bare_places, places_within, behind_within}
use Rattle.rp_contacts.proofs.audit.audit_left.Goals as goal
use Rattle.rp_history.specs.Places.{live_places}

pub later_pairs-requires : goal.later_pairs-requires
later_pairs-requires g c =
    let s = g.K.Keeper.state c.args.keeper.now in
    let here = c.deref.ensures.value ∙ c.in_ok-places.ensures.places ∙ ap (live_places None 0) c.history.ensures.value ∙ bare_places None 0 s.lots in
    subst (AreWithin s.lots) (sym here) (places_within s.lots None)

pub returns-in_err-near-clause-left : goal.returns-in_err-near-clause-left
returns-in_err-near-clause-left g c =
    let p = err_from_is_err_and c.from_residual-in_err-near.result c.from_residual-in_err-near.ensures.1 in
    let s = g.K.Keeper.state c.args.keeper.now in
    let w = c.args.tests.now in
    let e = c.in_err-near.field-0.0 in
    let here = c.deref.ensures.value ∙ c.in_ok-places.ensures.places ∙ ap (live_places None 0) c.history.ensures.value ∙ bare_places None 0 s.lots in
    let n = tests_behind Overlap s.lots c.deref.result.now in
    rw (p.1, p.2)
    (audit_stops g.T.Oracle.tester s n w (ap (tests_behind Overlap s.lots) here) e w
    (count_lost (λ (near : NearPairs). near.tests) g.T.Oracle.tester.count c.keep_limit.ensures e n w c.in_err-near.ensures.tests))

pub returns-in_err-count_tests-clause-left : goal.returns-in_err-count_tests-clause-left
returns-in_err-count_tests-clause-left g c =
    let p = err_from_is_err_and c.from_residual-in_err-count_tests.result c.from_residual-in_err-count_tests.ensures.1 in
    let s = g.K.Keeper.state c.args.keeper.now in
    let here = c.deref.ensures.value ∙ c.in_ok-places.ensures.places ∙ ap (live_places None 0) c.history.ensures.value ∙ bare_places None 0 s.lots in
    rw (p.1, p.2)
    (audit_stops g.T.Oracle.tester s c.in_ok-near.near.tests c.args.tests.now (c.in_ok-near.ensures.tests.0 ∙ ap (tests_behind Overlap s.lots) here) c.in_err-count_tests.field-0.0 c.count_tests.new.tests c.in_err-count_tests.ensures)

pub overflow_cast-live : goal.overflow_cast-live
overflow_cast-live g c =
    let s = g.K.Keeper.state c.args.keeper.now in
    let same = c.len-live.ensures in
    let some = c.in_ok-places.ensures.few in
    let bare = ap length c.history.ensures.value in
    let many = length-map s.lots bare_lot in
    let few = c.history.ensures.few in
    omega (arith, same, some, bare, many, few)

pub returns-clause-within : goal.returns-clause-within
returns-clause-within g c =
    let s = g.K.Keeper.state c.args.keeper.now in
    let pairs = c.in_ok-near.near.pairs.items in
    let here = c.deref.ensures.value ∙ c.in_ok-places.ensures.places ∙ ap (live_places None 0) c.history.ensures.value ∙ bare_places None 0 s.lots in
    behind_within Overlap s.lots (live_places None 0 s.lots) (places_within s.lots None) pairs (subst (λ (ks : List ℕ). ArePairsBehind Overlap s.lots ks pairs) here c.in_ok-near.ensures.pairs)

pub returns-clause-left : goal.returns-clause-left
returns-clause-left g c =
    let s = g.K.Keeper.state c.args.keeper.now in
    let pairs = c.in_ok-near.near.pairs.items in
    let made = c.in_ok-places.ensures.places ∙ ap (live_places None 0) c.history.ensures.value ∙ bare_places None 0 s.lots in
    let here = c.deref.ensures.value ∙ made in
    audit_leaves g.T.Oracle.tester s c.in_ok-near.near.tests c.args.tests.now (c.in_ok-near.ensures.tests.0 ∙ ap (tests_behind Overlap s.lots) here) c.len-live.result (c.len-live.ensures ∙ c.in_ok-places.places.ok.0 ∙ ap length made) pairs
    (subst (λ (ks : List ℕ). ArePairsBehind Overlap s.lots ks pairs) here c.in_ok-near.ensures.pairs) c.count_tests.new.tests c.in_ok-count_tests.ensures
