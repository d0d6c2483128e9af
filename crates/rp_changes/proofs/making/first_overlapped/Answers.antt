use Rattle.std.proofs.Common.{◌+◌, Some, drop, length, refl, ap, sym, ◌∙◌, slice_index_or, rules, arith}
use Rattle.std.proofs.lemmas.List.{drop_all, length-map}
use Rattle.std.proofs.lemmas.Result.{err_from_is_err_and}
use Rattle.rp_algebra.proofs.Lists.{get_some}
use Rattle.rp_language.specs.Name.{Label}
use Rattle.rp_semantics.specs.Walk.{done}
use Rattle.rp_semantics.specs.Form.{common_nearby}
use Rattle.rp_model.specs.states.State.{Lot, bare_lot}
use Rattle.rp_model.specs.commands.Register.{first_overlapped}
use Rattle.rp_oracle.proofs.Left.{all_left, left_as, stop_left}
use Rattle.rp_history.specs.declared.lot.LotLine.{LotLine}
use Rattle.rp_history.specs.Lots.{lot_of}
use Rattle.rp_history.proofs.Bare.{line_at}
use Rattle.rp_proximity.specs.Near.{lots_at}
use Rattle.rp_proximity.proofs.Places.{place_within}
use Rattle.rp_proximity.proofs.Skipped.{search_on}
use Rattle.rp_lots.proofs.Sieved.{item_parts}
use Rattle.rp_changes.proofs.Searched.{search_left, search_next}
use Rattle.rp_changes.proofs.making.first_overlapped.Goals as goal

pub loop-place-init : goal.loop-place-init
loop-place-init g c = all_left c.args.tests.now (first_overlapped g.T.Oracle.tester (g.T.Oracle.parts_of c.args.form.now) (lots_at (g.K.Keeper.state c.args.keeper.now).lots c.args.places.now))

pub form_at-other-requires : goal.form_at-other-requires
form_at-other-requires g c = place_within (g.K.Keeper.state c.args.keeper.now).lots c.args.places.now c.requires c.loop-place.place-index (slice_index_or c.args.places.now c.loop-place.place-index 0) c.loop-place-test.true refl

pub bounds-lots-place : goal.bounds-lots-place
bounds-lots-place g c =
    let lots = (g.K.Keeper.state c.args.keeper.now).lots in
    let i = c.loop-place.place-index in
    let within = place_within lots c.args.places.now c.requires i (slice_index_or c.args.places.now i 0) c.loop-place-test.true refl in
    let all = ap length c.history.ensures.value ∙ length-map lots bare_lot in
    let many = length-map c.lots.result.now lot_of in
    let same = ap length c.lots.ensures.value in
    omega (arith, within, all, many, same)

pub offset_bounds-lots-place : goal.offset_bounds-lots-place
offset_bounds-lots-place g c = search (rules, bounds-lots-place g c)

pub returns-in_err-overlap : goal.returns-in_err-overlap
returns-in_err-overlap g c =
    let p = err_from_is_err_and c.from_residual.result c.from_residual.ensures.1 in
    let tester = g.T.Oracle.tester in
    let lots = (g.K.Keeper.state c.args.keeper.now).lots in
    let places = c.args.places.now in
    let i = c.loop-place.place-index in
    let k = slice_index_or places i 0 in
    let within = place_within lots places c.requires i k c.loop-place-test.true refl in
    let item = get_some lots k within in
    let ps = g.T.Oracle.parts_of c.args.form.now in
    let qs = g.T.Oracle.parts_of c.form_at-other.result.now in
    let parts = item_parts lots k item.0 qs item.1 c.form_at-other.ensures in
    let rest = lots_at lots (drop (i + 1) places) in
    rw (p.1, p.2)
    (stop_left (common_nearby tester ps qs) (search_on tester item.0.id ps rest)
    (search_left tester ps lots places i k item.0 qs c.loop-place-test.true refl item.1 parts c.loop-place.invariant) c.in_err-overlap.field-0.0 c.overlap.new.tests c.in_err-overlap.ensures)

pub returns-then-branch : goal.returns-then-branch
returns-then-branch g c =
    let tester = g.T.Oracle.tester in
    let lots = (g.K.Keeper.state c.args.keeper.now).lots in
    let places = c.args.places.now in
    let i = c.loop-place.place-index in
    let k = slice_index_or places i 0 in
    let within = place_within lots places c.requires i k c.loop-place-test.true refl in
    let item = line_at lots c.history.result.now c.lots.result.now c.history.ensures.value c.lots.ensures.value k c.index-lots-place.result within c.index-lots-place.is in
    let ps = g.T.Oracle.parts_of c.args.form.now in
    let qs = g.T.Oracle.parts_of c.form_at-other.result.now in
    let parts = item_parts lots k item.0 qs item.1 c.form_at-other.ensures in
    let rest = lots_at lots (drop (i + 1) places) in
    let u = c.overlap.new.tests in
    let own = ap (λ (l : LotLine). l.id) c.index-lots-place.is in
    sym (search_next tester ps lots places i k item.0 qs c.loop-place-test.true refl item.1 parts c.loop-place.invariant c.in_ok-overlap.field-0 u c.in_ok-overlap.ensures).same
    ∙ ap (λ b. search_on tester item.0.id ps rest b u) c.if-branch.true
    ∙ ap (λ (x : Label). done (Some x) u) (ap (λ (l : Lot (Unit {0})). l.id) item.2 ∙ own)

pub loop-place-preserved : goal.loop-place-preserved
loop-place-preserved g c =
    let tester = g.T.Oracle.tester in
    let lots = (g.K.Keeper.state c.args.keeper.now).lots in
    let places = c.args.places.now in
    let i = c.loop-place.place-index in
    let k = slice_index_or places i 0 in
    let within = place_within lots places c.requires i k c.loop-place-test.true refl in
    let item = get_some lots k within in
    let ps = g.T.Oracle.parts_of c.args.form.now in
    let qs = g.T.Oracle.parts_of c.form_at-other.result.now in
    let parts = item_parts lots k item.0 qs item.1 c.form_at-other.ensures in
    let rest = lots_at lots (drop (i + 1) places) in
    left_as (ap (search_on tester item.0.id ps rest) c.if-branch.false)
    (search_next tester ps lots places i k item.0 qs c.loop-place-test.true refl item.1 parts c.loop-place.invariant c.in_ok-overlap.field-0 c.overlap.new.tests c.in_ok-overlap.ensures)

pub returns : goal.returns
returns g c =
    sym c.loop-place.invariant.same
    ∙ ap (λ ks. first_overlapped g.T.Oracle.tester (g.T.Oracle.parts_of c.args.form.now) (lots_at (g.K.Keeper.state c.args.keeper.now).lots ks) c.loop-place.tests) (drop_all c.loop-place.place-index c.args.places.now c.loop-place-test.false)
