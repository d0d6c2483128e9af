use Rattle.std.proofs.Common.{rules, ℕ, ◌+◌, ◌++◌, None, List, map, drop, length, get_or, refl, sym, ap, ◌∙◌, subst, append-nil, arith}
use Rattle.std.proofs.lemmas.List.{drop_all, length-map, map-append}
use Rattle.rp_model.specs.states.State.{Lot}
use Rattle.rp_model.specs.commands.Verdict.{Verdict, lot_lines}
use Rattle.rp_history.specs.Lots.{lot_of}
use Rattle.rp_history.proofs.Placed.{lot_at}
use Rattle.rp_history.proofs.Places.{places_below}
use Rattle.rp_proximity.specs.Near.{lots_at, AreWithin}
use Rattle.rp_proximity.proofs.Places.{place_within, lots_left}
use Rattle.rp_answer.specs.Views.{verdict_of}
use Rattle.rp_rows.proofs.LiveLines.{line_more, live_at}
use Rattle.rp_rows.proofs.lots.add_live.Goals as goal

pub loop-place-init : goal.loop-place-init
loop-place-init c =
    let history = c.args.history.now in
    ap (λ (ls : List (Lot (Unit {0}))). map verdict_of c.args.lines.now.items ++ lot_lines ls) (ap (lots_at history) c.live-place-items.ensures ∙ live_at history 0 history refl)

pub bounds-lots-place : goal.bounds-lots-place
bounds-lots-place c =
    let history = c.args.history.now in
    let live = c.live-place-items.result.now in
    let all = subst (AreWithin history) (sym c.live-place-items.ensures) (places_below (length history) None 0 history (omega arith)) in
    let within = place_within history live all c.loop-place.place-index (get_or live c.loop-place.place-index 0) c.loop-place-test.true refl in
    let many = length-map c.lots-lots.result.now lot_of in
    let same = ap length c.lots-lots.ensures.value in
    omega (arith, within, many, same)

pub offset_bounds-lots-place : goal.offset_bounds-lots-place
offset_bounds-lots-place c = search (rules, bounds-lots-place c)

pub loop-place-preserved : goal.loop-place-preserved
loop-place-preserved c =
    let history = c.args.history.now in
    let live = c.live-place-items.result.now in
    let i = c.loop-place.place-index in
    let k = get_or live i 0 in
    let l = lot_of c.index-lots-place.result in
    let rest = lots_at history (drop (i + 1) live) in
    let old = map verdict_of c.loop-place.lines.items in
    let all = subst (AreWithin history) (sym c.live-place-items.ensures) (places_below (length history) None 0 history (omega arith)) in
    let at = lot_at c.lots-lots.result.now history c.lots-lots.ensures.value k c.index-lots-place.result (place_within history live all i k c.loop-place-test.true refl) c.index-lots-place.is in
    ap (λ (vs : List Verdict). vs ++ lot_lines rest) (ap (map verdict_of) c.in_ok-push.ensures.ok ∙ map-append verdict_of c.loop-place.lines.items _)
    ∙ line_more old _ l rest c.in_ok-lot_line.ensures
    ∙ ap (λ (ls : List (Lot (Unit {0}))). old ++ lot_lines ls) (sym (lots_left history live i k l c.loop-place-test.true refl at))
    ∙ c.loop-place.invariant

pub returns : goal.returns
returns c =
    let history = c.args.history.now in
    let old = map verdict_of c.loop-place.lines.items in
    sym (append-nil old)
    ∙ ap (λ (ks : List ℕ). old ++ lot_lines (lots_at history ks)) (sym (drop_all c.loop-place.place-index c.live-place-items.result.now c.loop-place-test.false))
    ∙ c.loop-place.invariant
