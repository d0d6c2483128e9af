use Rattle.std.proofs.Common.{◌≡◌, ℕ, ◌+◌, ◌-◌, ◌<◌, ◌≤◌, ◌==◌, [], ◌∷◌, ◌++◌, append-nil, true, false, List, drop, filter, length, get_or, refl, sym, ap, ◌∙◌, subst, arith}
use Rattle.std.proofs.lemmas.List.{length-append, drop_all}
use Rattle.std.proofs.lemmas.Bool.Decides.{nat_tests}
use Rattle.rp_algebra.proofs.Listed.{all_append}
use Rattle.rp_algebra.proofs.Lists.{get_some}
use Rattle.rp_semantics.specs.Walk.{most_tests}
use Rattle.rp_model.specs.commands.Parts.{count_pairs}
use Rattle.rp_proximity.specs.Near.{may_meet, pairs_with, is_near, lots_at, AreWithin}
use Rattle.rp_proximity.proofs.Places.{place_within}
use Rattle.rp_lots.specs.declared.near.Near.{Near}
use Rattle.rp_lots.proofs.Sieved.{item_parts, short_at, pairs_left, near_taken, near_passed}
use Rattle.rp_lots.proofs.near.count_at.Goals as goal
use Rattle.rp_lots.proofs.near.count_at.Goals.{then-pairs-gt0+in_ok-push, else-pairs-gt0}

-- ---- the counts where a lot is taken

-- the pairs that are left
counted_on : (n p own pairs left behind all : ℕ) → p ≡ n + own → own ≡ pairs → left ≡ pairs + behind → n + left ≡ all → p + behind ≡ all
counted_on n p own pairs left behind all more is parted h = omega arith

-- no more than a limit
few_on : (n p own most : ℕ) → p ≡ n + own → own ≤ most - n → n ≤ most → p ≤ most
few_on n p own most more room few = omega arith

-- no more places than pairs
no_more_on : (n p own m k : ℕ) → p ≡ n + own → 0 < own → k ≡ m + 1 → m ≤ n → k ≤ p
no_more_on n p own m k more some longer few = omega arith

-- it has pairs
has_pairs : (own pairs : ℕ) → own ≡ pairs → 0 < own → (pairs == 0) ≡ false
has_pairs own pairs is some = grind (arith, nat_tests)

-- ---- and where it is passed over

counted_past : (n p own pairs left behind all : ℕ) → p ≡ n → own ≡ pairs → own ≤ 0 → left ≡ pairs + behind → n + left ≡ all → p + behind ≡ all
counted_past n p own pairs left behind all same is none parted h = omega arith

few_past : (n p most : ℕ) → p ≡ n → n ≤ most → p ≤ most
few_past n p most same few = omega arith

no_more_past : (n p m k : ℕ) → p ≡ n → k ≡ m → m ≤ n → k ≤ p
no_more_past n p m k same kept few = omega arith

has_none : (own pairs : ℕ) → own ≡ pairs → own ≤ 0 → (pairs == 0) ≡ true
has_none own pairs is none = grind (arith, nat_tests)

pub loop-place-preserved : goal.loop-place-preserved
loop-place-preserved g c =
    let r = c.args.reach in
    let ps = g.T.Oracle.parts_of c.args.form.now in
    let lots = (g.K.Keeper.state c.args.keeper.now).lots in
    let places = c.args.places.now in
    let i = c.loop-place.place-index in
    let k = get_or places i 0 in
    let here = c.loop-place-test.true in
    let within : k < length lots = place_within lots places c.requires.within i k here refl in
    let item = get_some lots k within in
    let qs = g.T.Oracle.parts_of c.form_at.result.now in
    let own = item_parts lots k item.0 qs item.1 c.form_at.ensures in
    let pairs = pairs_left r ps lots places i k item.0 qs here refl item.1 own in
    let value = c.count_pairs-pairs.ensures.value in
    let before = c.loop-place.invariant in
    let ks = c.loop-place.near.places.items in
    let n = c.loop-place.near.pairs in
    let p = c.if-pairs-gt0.near.pairs in
    let js = c.if-pairs-gt0.near.places.items in
    let count = c.count_pairs-pairs.result in
    let its = count_pairs (may_meet r) ps qs in
    let pairs_at = λ (at : List ℕ). pairs_with r ps (lots_at lots at) in
    let all = filter (is_near r ps) (lots_at lots places) in
    elim c.if-pairs-gt0.branch [
      | then-pairs-gt0+in_ok-push w ↦
          let more = ap (λ (n : Near). n.pairs) w.near-is in
          let longer = ap (λ (n : Near). n.places.items) w.near-is ∙ w.in_ok-push.ensures.ok in
          let some = w.if-pairs-gt0.true in
          record {
            counted = counted_on n p count its (pairs_at (drop i places)) (pairs_at (drop (i + 1) places)) (pairs_at places) more value pairs before.counted;
            few = few_on n p count most_tests more c.if-pairs-near.false before.few;
            left = near_taken r ps lots places i k item.0 qs here refl item.1 own ks js all (has_pairs count its value some) longer before.left;
            within = subst (AreWithin lots) (sym longer) (all_append (λ j. j < length lots) ks (k ∷ []) before.within (within, tt));
            no_more = no_more_on n p count (length ks) (length js) more some (ap length longer ∙ length-append ks (k ∷ [])) before.no_more;
          }
      | else-pairs-gt0 w ↦
          let same = ap (λ (n : Near). n.pairs) w.near-is in
          let kept = ap (λ (n : Near). n.places.items) w.near-is in
          let none = w.if-pairs-gt0.false in
          record {
            counted = counted_past n p count its (pairs_at (drop i places)) (pairs_at (drop (i + 1) places)) (pairs_at places) same value none pairs before.counted;
            few = few_past n p most_tests same before.few;
            left = near_passed r ps lots places i k item.0 qs here refl item.1 own ks js all (has_none count its value none) kept before.left;
            within = subst (AreWithin lots) (sym kept) before.within;
            no_more = no_more_past n p (length ks) (length js) same (ap length kept) before.no_more;
          }
    ]

-- ---- and at the end

past_limit : (n own pairs left behind all most : ℕ) → own ≡ pairs → left ≡ pairs + behind → n + left ≡ all → most - n < own → most < all
past_limit n own pairs left behind all most is parted h over = omega arith

ended : (n left all : ℕ) → left ≡ 0 → n + left ≡ all → n ≡ all
ended n left all none h = omega arith

pub count_pairs-pairs-requires-clause-second : goal.count_pairs-pairs-requires-clause-second
count_pairs-pairs-requires-clause-second g c = short_at (g.K.Keeper.state c.args.keeper.now).lots c.history.ensures.short _ (g.T.Oracle.parts_of c.form_at.result.now) c.form_at.ensures

pub returns-then-pairs-near-clause-pairs : goal.returns-then-pairs-near-clause-pairs
returns-then-pairs-near-clause-pairs g c =
    let r = c.args.reach in
    let ps = g.T.Oracle.parts_of c.args.form.now in
    let lots = (g.K.Keeper.state c.args.keeper.now).lots in
    let places = c.args.places.now in
    let i = c.loop-place.place-index in
    let k = get_or places i 0 in
    let here = c.loop-place-test.true in
    let within : k < length lots = place_within lots places c.requires.within i k here refl in
    let item = get_some lots k within in
    let qs = g.T.Oracle.parts_of c.form_at.result.now in
    let own = item_parts lots k item.0 qs item.1 c.form_at.ensures in
    let pairs_at = λ (at : List ℕ). pairs_with r ps (lots_at lots at) in
    past_limit c.loop-place.near.pairs c.count_pairs-pairs.result (count_pairs (may_meet r) ps qs) (pairs_at (drop i places)) (pairs_at (drop (i + 1) places)) (pairs_at places) most_tests
    c.count_pairs-pairs.ensures.value (pairs_left r ps lots places i k item.0 qs here refl item.1 own) c.loop-place.invariant.counted c.if-pairs-near.true

pub returns-clause-pairs : goal.returns-clause-pairs
returns-clause-pairs g c =
    let r = c.args.reach in
    let ps = g.T.Oracle.parts_of c.args.form.now in
    let lots = (g.K.Keeper.state c.args.keeper.now).lots in
    let n = c.loop-place.near.pairs in
    let places = c.args.places.now in
    let none = drop_all c.loop-place.place-index places c.loop-place-test.false in
    let all : n ≡ pairs_with r ps (lots_at lots places) = ended n _ (pairs_with r ps (lots_at lots places)) (ap (λ (ks : List ℕ). pairs_with r ps (lots_at lots ks)) none) c.loop-place.invariant.counted in
    (all, subst (λ (m : ℕ). m ≤ most_tests) all c.loop-place.invariant.few)

pub returns-clause-lots : goal.returns-clause-lots
returns-clause-lots g c =
    let near = is_near c.args.reach (g.T.Oracle.parts_of c.args.form.now) in
    let lots = (g.K.Keeper.state c.args.keeper.now).lots in
    let js = c.loop-place.near.places.items in
    let none = drop_all c.loop-place.place-index c.args.places.now c.loop-place-test.false in
    sym (append-nil (lots_at lots js)) ∙ ap (λ (ks : List ℕ). lots_at lots js ++ filter near (lots_at lots ks)) (sym none) ∙ c.loop-place.invariant.left

pub returns-clause-within : goal.returns-clause-within
returns-clause-within g c = c.loop-place.invariant.within

pub returns-clause-few : goal.returns-clause-few
returns-clause-few g c = c.loop-place.invariant.no_more
