-- The row of access, step by step, whatever answers its tests.
use Rattle.std.proofs.Common.{◌≡◌, ℕ, ◌<◌, Bool, List, [], map, length, Option, Some, None, refl, sym, ap, ◌∙◌, subst}
use Rattle.std.specs.List.{AllByRecursion}
use Rattle.std.specs.Prelude.{IsTrue}
use Rattle.rp_geometry.specs.sets.Shape.{Part}
use Rattle.rp_language.specs.Name.{Label}
use Rattle.rp_semantics.specs.Walk.{Outcome, done, stopped, Walk, Tester, pass, after_first, ◌>>=◌, ◌>>◌}
use Rattle.rp_semantics.specs.Form.{touching_pair}
use Rattle.rp_model.specs.states.State.{Lot, PlainState, live_lots, lots_of_layer, layer_with_id, layer_lots, ids_of, place_among}
use Rattle.rp_model.specs.states.Sound.{are_distinct}
use Rattle.rp_model.specs.commands.Verdict.{Refusal}
use Rattle.rp_model.specs.commands.Checks.{check_access}
use Rattle.rp_model.specs.commands.Reply.{Reply, reply_lines, check}
use Rattle.rp_model.specs.commands.Parts.{lot_parts, numbered_lists, count_among}
use Rattle.rp_model.specs.commands.Access.{links_among_lists, access_by_links, row_access}
use Rattle.rp_proximity.specs.declared.reach.Reach.TheVariants.{Touch}
use Rattle.rp_proximity.specs.Near.{lots_at}
use Rattle.rp_row_soundness.proofs.Access.{places_below}
use Rattle.rp_oracle.specs.declared.stopped.Stopped.{Stopped}
use Rattle.rp_oracle.specs.Refines.{StopsBy}
use Rattle.rp_oracle.proofs.Left.{IsLeft, next_left, stop_left}
use Rattle.rp_contacts.specs.declared.pair.Pair.{Pair}
use Rattle.rp_contacts.specs.Meets.{meet_each}
use Rattle.rp_contacts.specs.Numbers.{lists_at, places_among, AreBelow, placed, links_met}
use Rattle.rp_contacts.specs.Behind.{tests_behind, ArePairsBehind}
use Rattle.rp_contacts.proofs.Linked.{lists_of_lots, numbers_are, links_found}
use Rattle.rp_contacts.proofs.Paired.{places_within, layer_there, layer_counted, layer_paired}
use Rattle.rp_history.specs.Places.{live_places}
use Rattle.rp_history.proofs.Places.{all_rise}

module _ {W : Type 0} (tester : Tester W) (s : PlainState) (x z : Label) where
  -- the end of the row, for some lots
  abbrev pub told_links : List (Lot (Unit {0})) → List (ℕ × ℕ) → Walk W Reply
  told_links ls links = pass (reply_lines (access_by_links (ids_of ls) links x z))

  -- the row behind its count
  abbrev links_told : List (Lot (Unit {0})) → List (List Part) → Walk W Reply
  links_told ls lists = links_among_lists tester [] (numbered_lists 0 lists) >>= told_links ls

  -- the row behind its checks
  abbrev counted_told : List (Lot (Unit {0})) → List (List Part) → Walk W Reply
  counted_told ls lists = tester.count (count_among touching_pair lists) >> links_told ls lists

  module _ (y : Label) (checked : check_access s x z ≡ None) (layer : y ≡ layer_with_id s x) where
    -- the places of the live lots of the layer
    abbrev places : List ℕ
    places = live_places (Some y) 0 s.lots

    -- the lots there
    abbrev here : List (Lot (Unit {0}))
    here = lots_at s.lots places

    -- they are those of the row
    lots_there : layer_lots s x ≡ here
    lots_there = ap (λ (u : Label). lots_of_layer u (live_lots s.lots)) (sym layer) ∙ sym (layer_there s.lots y 0 s.lots refl)

    -- both ids have a number
    pub numbers_there : (place_among x (ids_of here) < length (ids_of here)) × (place_among z (ids_of here) < length (ids_of here))
    numbers_there =
        let below = places_below s x z checked in (
          subst (λ (ls : List (Lot (Unit {0}))). place_among x (ids_of ls) < length (ids_of ls)) lots_there below.0,
          subst (λ (ls : List (Lot (Unit {0}))). place_among z (ids_of ls) < length (ids_of ls)) lots_there below.1,
        )

    -- the row is what is left behind the checks
    row_left : (w : W) → row_access tester s x z w ≡ counted_told here (lists_at s.lots places) w
    row_left w =
        ap (λ (o : Option Refusal). check o (counted_told (layer_lots s x) (lot_parts (layer_lots s x))) w) checked
        ∙ ap (λ (ls : List (Lot (Unit {0}))). counted_told ls (lot_parts ls) w) lots_there
        ∙ ap (λ (lists : List (List Part)). counted_told here lists w) (lists_of_lots s.lots places (places_within s.lots (Some y)))

    module _ (n : ℕ) (w : W) (counted : n ≡ tests_behind Touch s.lots places) where
      -- the row begins with the count
      access_begins : IsLeft w (row_access tester s x z) w (tester.count n >> links_told here (lists_at s.lots places))
      access_begins = record { same = ap (λ (k : ℕ). after_first (λ _. links_told here (lists_at s.lots places)) (tester.count k w)) (counted ∙ layer_counted s.lots y 0 s.lots refl) ∙ sym (row_left w) }

      -- where that stops, so does the row
      pub access_stops : (e : Stopped) (u : W) → StopsBy e u (tester.count n w) → StopsBy e u (row_access tester s x z w)
      access_stops e u h = stop_left (tester.count n) (λ _. links_told here (lists_at s.lots places)) access_begins e u h

      -- behind it the tests of some pairs are left
      pub access_leaves : (distinct : IsTrue (are_distinct (ids_of s.lots))) (pairs numbers : List Pair) → ArePairsBehind Touch s.lots places pairs → map (placed places) numbers ≡ pairs → AllByRecursion (AreBelow (length places)) numbers →
          (v : W) → tester.count n w ≡ done tt v → row_access tester s x z w ≡ after_first (λ met. told_links here (links_met numbers met)) (meet_each tester Touch (lot_parts s.lots) [] pairs v)
      access_leaves distinct pairs numbers behind same below v made =
          let among : pairs ≡ places_among s.lots places = layer_paired s.lots y distinct 0 s.lots refl pairs behind in
          sym (next_left (tester.count n) (λ _. links_told here (lists_at s.lots places)) access_begins made).same
          ∙ ap (after_first (told_links here)) (links_found tester s.lots places numbers pairs (numbers_are s.lots places (all_rise s.lots (Some y)) numbers below (same ∙ among)) same v)
          ∙ twice (meet_each tester Touch (lot_parts s.lots) [] pairs v)
        where
          twice : (o : Outcome W (List Bool)) → after_first (told_links here) (after_first (λ met. pass (links_met numbers met)) o) ≡ after_first (λ met. told_links here (links_met numbers met)) o
          twice (done met u) = refl
          twice (stopped e u) = refl

-- what is left, in other words
pub leaves_as : {W : Type 0} (tester : Tester W) (lots : List (Lot (Unit {0}))) (numbers : List Pair) (v : W) {ids others : List Label} {x y z u : Label} {pairs judged : List Pair} → ids ≡ others → x ≡ y → z ≡ u → pairs ≡ judged →
    after_first (λ met. pass (reply_lines (access_by_links ids (links_met numbers met) x z))) (meet_each tester Touch (lot_parts lots) [] pairs v) ≡ after_first (λ met. pass (reply_lines (access_by_links others (links_met numbers met) y u))) (meet_each tester Touch (lot_parts lots) [] judged v)
leaves_as tester lots numbers v e f g h = λ i. after_first (λ met. pass (reply_lines (access_by_links (e i) (links_met numbers met) (f i) (g i)))) (meet_each tester Touch (lot_parts lots) [] (h i) v)
