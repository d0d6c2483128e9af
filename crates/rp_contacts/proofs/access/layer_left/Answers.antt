use Rattle.std.proofs.Common.{◌≡◌, ℕ, ◌<◌, List, map, length, Some, refl, sym, ap, ◌∙◌, subst, arith}
use Rattle.std.specs.List.{AllByRecursion}
use Rattle.std.proofs.lemmas.List.{length-map}
use Rattle.std.proofs.lemmas.Result.{err_from_is_err_and}
use Rattle.rp_language.specs.Name.{Label}
use Rattle.rp_model.specs.states.State.{Lot, bare_lot, ids_of, place_among}
use Rattle.rp_proximity.specs.declared.reach.Reach.TheVariants.{Touch}
use Rattle.rp_proximity.specs.Near.{lots_at, AreWithin}
use Rattle.rp_contacts.specs.declared.behind.NearPairs.{NearPairs}
use Rattle.rp_contacts.specs.Meets.{IsPairWithin}
use Rattle.rp_contacts.specs.Numbers.{places_among, IsPairOf, AreBelow, placed}
use Rattle.rp_contacts.specs.Behind.{tests_behind, ArePairsBehind}
use Rattle.rp_contacts.proofs.Accessed.{numbers_there, access_stops, access_leaves, leaves_as}
use Rattle.rp_lots.proofs.Counted.{count_lost}
use Rattle.rp_contacts.proofs.Judging.{within_lines}
use Rattle.rp_contacts.proofs.Linked.{among_there}
use Rattle.rp_contacts.proofs.Numbers.{bare_ids_at}
use Rattle.rp_contacts.proofs.Paired.{own_distinct, bare_places, places_within, behind_within, layer_paired}
use Rattle.rp_contacts.proofs.access.layer_left.Goals as goal
use Rattle.rp_history.specs.Places.{AreRising, live_places}
use Rattle.rp_history.proofs.Places.{all_rise}

pub later_pairs-requires : goal.later_pairs-requires
later_pairs-requires g c =
    let s = g.K.Keeper.state c.args.keeper.now in
    let y = c.args.layer in
    let here = c.deref.ensures.value ∙ c.in_ok-places.ensures.places ∙ ap (live_places (Some y) 0) c.history-history.ensures.value ∙ bare_places (Some y) 0 s.lots in
    subst (AreWithin s.lots) (sym here) (places_within s.lots (Some y))

pub returns-in_err-near-clause-left : goal.returns-in_err-near-clause-left
returns-in_err-near-clause-left g c =
    let p = err_from_is_err_and c.from_residual-in_err-near.result c.from_residual-in_err-near.ensures.1 in
    let s = g.K.Keeper.state c.args.keeper.now in
    let y = c.args.layer in
    let w = c.args.tests.now in
    let e = c.in_err-near.field-0.0 in
    let here = c.deref.ensures.value ∙ c.in_ok-places.ensures.places ∙ ap (live_places (Some y) 0) c.history-history.ensures.value ∙ bare_places (Some y) 0 s.lots in
    let n = tests_behind Touch s.lots c.deref.result.now in
    rw (p.1, p.2)
    (access_stops g.T.Oracle.tester s c.args.from c.args.to y c.requires.checks c.requires.layer n w (ap (tests_behind Touch s.lots) here) e w
    (count_lost (λ (near : NearPairs). near.tests) g.T.Oracle.tester.count c.keep_limit.ensures e n w c.in_err-near.ensures.tests))

pub returns-in_err-count_tests-clause-left : goal.returns-in_err-count_tests-clause-left
returns-in_err-count_tests-clause-left g c =
    let p = err_from_is_err_and c.from_residual-in_err-count_tests.result c.from_residual-in_err-count_tests.ensures.1 in
    let s = g.K.Keeper.state c.args.keeper.now in
    let y = c.args.layer in
    let here = c.deref.ensures.value ∙ c.in_ok-places.ensures.places ∙ ap (live_places (Some y) 0) c.history-history.ensures.value ∙ bare_places (Some y) 0 s.lots in
    rw (p.1, p.2)
    (access_stops g.T.Oracle.tester s c.args.from c.args.to y c.requires.checks c.requires.layer c.in_ok-near.near.tests c.args.tests.now (c.in_ok-near.ensures.tests.0 ∙ ap (tests_behind Touch s.lots) here) c.in_err-count_tests.field-0.0 c.count_tests.new.tests c.in_err-count_tests.ensures)

pub links_left-requires-clause-places : goal.links_left-requires-clause-places
links_left-requires-clause-places g c =
    let s = g.K.Keeper.state c.args.keeper.now in
    let y = c.args.layer in
    let same = c.deref-2.ensures.value ∙ c.in_ok-places.ensures.places ∙ ap (live_places (Some y) 0) c.history-history.ensures.value ∙ bare_places (Some y) 0 s.lots in
    within_lines s.lots c.history-history.result.now c.lots-lots.result.now (live_places (Some y) 0 s.lots) c.deref-2.result.now c.history-history.ensures.value c.lots-lots.ensures.value same (places_within s.lots (Some y))

pub links_left-requires-clause-few : goal.links_left-requires-clause-few
links_left-requires-clause-few g c =
    let s = g.K.Keeper.state c.args.keeper.now in
    let same = ap length c.deref-2.ensures.value in
    let some = c.in_ok-places.ensures.few in
    let bare = ap length c.history-history.ensures.value in
    let many = length-map s.lots bare_lot in
    let few = c.history-history.ensures.few in
    omega (arith, same, some, bare, many, few)

pub links_left-requires-clause-rising : goal.links_left-requires-clause-rising
links_left-requires-clause-rising g c =
    let s = g.K.Keeper.state c.args.keeper.now in
    let y = c.args.layer in
    let same = c.deref-2.ensures.value ∙ c.in_ok-places.ensures.places ∙ ap (live_places (Some y) 0) c.history-history.ensures.value ∙ bare_places (Some y) 0 s.lots in
    subst AreRising (sym same) (all_rise s.lots (Some y))

pub links_left-requires-clause-pairs : goal.links_left-requires-clause-pairs
links_left-requires-clause-pairs g c =
    let s = g.K.Keeper.state c.args.keeper.now in
    let y = c.args.layer in
    let pairs = c.in_ok-near.near.pairs.items in
    let places = live_places (Some y) 0 s.lots in
    let made = c.in_ok-places.ensures.places ∙ ap (live_places (Some y) 0) c.history-history.ensures.value ∙ bare_places (Some y) 0 s.lots in
    let distinct = own_distinct s.lots c.history-history.result.now c.history-history.ensures.value c.lots-lots.ensures.well.distinct in
    let behind = subst (λ (ks : List ℕ). ArePairsBehind Touch s.lots ks pairs) (c.deref.ensures.value ∙ made) c.in_ok-near.ensures.pairs in
    let among : pairs ≡ places_among s.lots places = layer_paired s.lots y distinct 0 s.lots refl pairs behind in
    subst (λ (ks : List ℕ). AllByRecursion (IsPairOf ks) pairs) (sym (c.deref-2.ensures.value ∙ made)) (subst (AllByRecursion (IsPairOf places)) (sym among) (among_there s.lots places))

pub links_left-requires-clause-from_there : goal.links_left-requires-clause-from_there
links_left-requires-clause-from_there g c =
    let s = g.K.Keeper.state c.args.keeper.now in
    let y = c.args.layer in
    let read = c.deref-2.result.now in
    let same = c.deref-2.ensures.value ∙ c.in_ok-places.ensures.places ∙ ap (live_places (Some y) 0) c.history-history.ensures.value ∙ bare_places (Some y) 0 s.lots in
    let ids = ap (λ (ls : List (Lot (Unit {0}))). ids_of (lots_at ls read)) c.lots-lots.ensures.value ∙ bare_ids_at s.lots c.history-history.result.now read c.history-history.ensures.value ∙ ap (λ (ks : List ℕ). ids_of (lots_at s.lots ks)) same in
    subst (λ (xs : List Label). place_among c.args.from xs < length xs) (sym ids) (numbers_there g.T.Oracle.tester s c.args.from c.args.to y c.requires.checks c.requires.layer).0

pub links_left-requires-clause-to_there : goal.links_left-requires-clause-to_there
links_left-requires-clause-to_there g c =
    let s = g.K.Keeper.state c.args.keeper.now in
    let y = c.args.layer in
    let read = c.deref-2.result.now in
    let same = c.deref-2.ensures.value ∙ c.in_ok-places.ensures.places ∙ ap (live_places (Some y) 0) c.history-history.ensures.value ∙ bare_places (Some y) 0 s.lots in
    let ids = ap (λ (ls : List (Lot (Unit {0}))). ids_of (lots_at ls read)) c.lots-lots.ensures.value ∙ bare_ids_at s.lots c.history-history.result.now read c.history-history.ensures.value ∙ ap (λ (ks : List ℕ). ids_of (lots_at s.lots ks)) same in
    subst (λ (xs : List Label). place_among c.args.to xs < length xs) (sym ids) (numbers_there g.T.Oracle.tester s c.args.from c.args.to y c.requires.checks c.requires.layer).1

pub returns-clause-within : goal.returns-clause-within
returns-clause-within g c =
    let s = g.K.Keeper.state c.args.keeper.now in
    let y = c.args.layer in
    let pairs = c.in_ok-near.near.pairs.items in
    let here = c.deref.ensures.value ∙ c.in_ok-places.ensures.places ∙ ap (live_places (Some y) 0) c.history-history.ensures.value ∙ bare_places (Some y) 0 s.lots in
    subst (AllByRecursion (IsPairWithin s.lots)) (sym c.in_ok-links_left.ensures.pairs)
    (behind_within Touch s.lots (live_places (Some y) 0 s.lots) (places_within s.lots (Some y)) pairs (subst (λ (ks : List ℕ). ArePairsBehind Touch s.lots ks pairs) here c.in_ok-near.ensures.pairs))

pub returns-clause-left : goal.returns-clause-left
returns-clause-left g c =
    let s = g.K.Keeper.state c.args.keeper.now in
    let tester = g.T.Oracle.tester in
    let x = c.args.from in
    let z = c.args.to in
    let y = c.args.layer in
    let left = c.in_ok-links_left.field-0 in
    let told = c.in_ok-links_left.ensures in
    let read = c.deref-2.result.now in
    let pairs = c.in_ok-near.near.pairs.items in
    let numbers = left.numbers.items in
    let v = c.count_tests.new.tests in
    let made = c.in_ok-places.ensures.places ∙ ap (live_places (Some y) 0) c.history-history.ensures.value ∙ bare_places (Some y) 0 s.lots in
    let same = c.deref-2.ensures.value ∙ made in
    let distinct = own_distinct s.lots c.history-history.result.now c.history-history.ensures.value c.lots-lots.ensures.well.distinct in
    let behind = subst (λ (ks : List ℕ). ArePairsBehind Touch s.lots ks pairs) (c.deref.ensures.value ∙ made) c.in_ok-near.ensures.pairs in
    let ids = told.ids ∙ ap (λ (ls : List (Lot (Unit {0}))). ids_of (lots_at ls read)) c.lots-lots.ensures.value ∙ bare_ids_at s.lots c.history-history.result.now read c.history-history.ensures.value ∙ ap (λ (ks : List ℕ). ids_of (lots_at s.lots ks)) same in
    access_leaves tester s x z y c.requires.checks c.requires.layer c.in_ok-near.near.tests c.args.tests.now (c.in_ok-near.ensures.tests.0 ∙ ap (tests_behind Touch s.lots) (c.deref.ensures.value ∙ made)) distinct pairs numbers behind
    (subst (λ (ks : List ℕ). map (placed ks) numbers ≡ pairs) same told.placed) (subst (λ (ks : List ℕ). AllByRecursion (AreBelow (length ks)) numbers) same told.below) v c.in_ok-count_tests.ensures
    ∙ leaves_as tester s.lots numbers v (sym ids) (sym told.from) (sym told.to) (sym told.pairs)
