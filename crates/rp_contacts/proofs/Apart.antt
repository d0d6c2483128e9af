-- The row of an audit: what is counted and shown of all live lots is what is counted and shown of the pairs behind each.
use Rattle.std.proofs.Common.{◌≡◌, ℕ, ◌+◌, Bool, true, false, ◌&&◌, cond, List, [], ◌∷◌, ◌++◌, map, filter, length, drop, get_or, None, refl, sym, ap, ap₂, ◌∙◌}
use Rattle.rp_algebra.proofs.Lists.{get_some}
use Rattle.rp_geometry.specs.sets.Shape.{Part}
use Rattle.rp_semantics.specs.Walk.{taken_wrong, Outcome, done, stopped, Walk, Tester, pass, stop, after_first, ◌>>◌}
use Rattle.rp_semantics.specs.Form.{near_pair, common_nearby}
use Rattle.rp_model.specs.states.State.{Lot, PlainState, is_live, live_lots, lots_of_layer}
use Rattle.rp_model.specs.commands.Verdict.{clear}
use Rattle.rp_model.specs.commands.Reply.{Reply, reply}
use Rattle.rp_model.specs.commands.Parts.{lot_parts}
use Rattle.rp_model.specs.commands.Audit.{count_in_layers, all_apart, all_apart_from, row_audit}
use Rattle.rp_oracle.specs.declared.stopped.Stopped.{Stopped}
use Rattle.rp_oracle.specs.Refines.{StopsBy}
use Rattle.rp_oracle.proofs.Left.{IsLeft, next_left, stop_left}
use Rattle.rp_proximity.specs.declared.reach.Reach.TheVariants.{Overlap}
use Rattle.rp_proximity.specs.Near.{pairs_with, is_near, lots_at, AreWithin}
use Rattle.rp_proximity.proofs.Skipped.{apart_on, apart_near}
use Rattle.rp_contacts.specs.declared.pair.Pair.{Pair}
use Rattle.rp_contacts.specs.Meets.{pair_of, parts_at, meet_each}
use Rattle.rp_contacts.specs.Behind.{lots_behind, tests_behind, ArePairsBehind}
use Rattle.rp_contacts.specs.Apart.{apart_each}
use Rattle.rp_contacts.proofs.Items.{parts_there, first_there}
use Rattle.rp_contacts.proofs.Paired.{behind_first, own_parts}
use Rattle.rp_history.specs.Places.{live_places}
use Rattle.rp_history.proofs.Places.{left_further, live_counted}

-- ---- counts

-- the tests behind all live lots are counted
pub all_counted : (lots : List (Lot (Unit {0}))) (k : ℕ) (ls : List (Lot (Unit {0}))) → drop k lots ≡ ls → tests_behind Overlap lots (live_places None k ls) ≡ count_in_layers near_pair (live_lots ls)
all_counted lots k [] e = refl
all_counted lots k (l ∷ ls) e = by (is_live l) (all_counted lots (k + 1) ls (left_further lots k l ls e).1)
  where
    places : List ℕ
    places = live_places None (k + 1) ls

    by : (b : Bool) → tests_behind Overlap lots places ≡ count_in_layers near_pair (live_lots ls) → tests_behind Overlap lots (cond (b && true) (k ∷ places) places) ≡ count_in_layers near_pair (cond b (l ∷ live_lots ls) (live_lots ls))
    by true later = ap₂ ◌+◌ (ap₂ (λ ps (ms : List (Lot (Unit {0}))). pairs_with Overlap ps ms) (own_parts lots k l ls e) (behind_first lots k l ls e)) later
    by false later = later

-- ---- walks

-- what follows where the two of a pair share a member, or do not
abbrev pub apart_next : {W : Type 0} → Tester W → List (List Part) → List Pair → Bool → Walk W (Unit {0})
apart_next tester lists ps found = elim found [ true ↦ stop taken_wrong | false ↦ apart_each tester lists ps ]

module _ {W : Type 0} (tester : Tester W) (lots : List (Lot (Unit {0}))) where
  -- the pairs are shown to be apart
  abbrev shown : List Pair → Walk W (Unit {0})
  shown ps = apart_each tester (lot_parts lots) ps

  -- the pairs of a lot with others, and then further ones
  own_shown : (k : ℕ) (js : List ℕ) → AreWithin lots js → (more : List Pair) (w : W) → shown (map (pair_of k) js ++ more) w ≡ after_first (λ _. shown more) (all_apart_from tester (parts_at lots k) (lot_parts (lots_at lots js)) w)
  own_shown k [] h more w = refl
  own_shown k (j ∷ js) h more w =
      let item = get_some lots j h.0 in
      let m = item.0 in
      ap (λ (qs : List Part). after_first (apart_next tester (lot_parts lots) (map (pair_of k) js ++ more)) (common_nearby tester (parts_at lots k) qs w)) (parts_there lots j m item.1)
      ∙ by (common_nearby tester (parts_at lots k) m.parts w) (own_shown k js h.1 more)
      ∙ sym (ap (λ (ls : List (Lot (Unit {0}))). after_first (λ _. shown more) (all_apart_from tester (parts_at lots k) (lot_parts ls) w)) (first_there lots j m item.1 js))
    where
      Later : Type 0
      Later = (v : W) → shown (map (pair_of k) js ++ more) v ≡ after_first (λ _. shown more) (all_apart_from tester (parts_at lots k) (lot_parts (lots_at lots js)) v)

      one : (found : Bool) (v : W) → Later → apart_next tester (lot_parts lots) (map (pair_of k) js ++ more) found v ≡ after_first (λ _. shown more) (apart_on tester (parts_at lots k) (lot_parts (lots_at lots js)) found v)
      one true v later = refl
      one false v later = later v

      by : (o : Outcome W Bool) → Later → after_first (apart_next tester (lot_parts lots) (map (pair_of k) js ++ more)) o ≡ after_first (λ _. shown more) (after_first (apart_on tester (parts_at lots k) (lot_parts (lots_at lots js))) o)
      by (done found v) later = one found v later
      by (stopped s v) later = refl

  -- all live lots are apart where the pairs behind each are
  pub all_shown : (k : ℕ) (ls : List (Lot (Unit {0}))) → drop k lots ≡ ls → (pairs : List Pair) → ArePairsBehind Overlap lots (live_places None k ls) pairs → (w : W) → all_apart tester (live_lots ls) w ≡ apart_each tester (lot_parts lots) pairs w
  all_shown k [] e pairs h w = sym (ap (λ (ps : List Pair). shown ps w) h)
  all_shown k (l ∷ ls) e pairs h w = by (is_live l) (all_shown (k + 1) ls (left_further lots k l ls e).1) pairs h
    where
      places : List ℕ
      places = live_places None (k + 1) ls

      others : List (Lot (Unit {0}))
      others = lots_of_layer l.layer (live_lots ls)

      own : (js : List ℕ) → lots_at lots js ≡ filter (is_near Overlap (parts_at lots k)) (lots_behind lots k) → all_apart_from tester l.parts (lot_parts others) w ≡ all_apart_from tester (parts_at lots k) (lot_parts (lots_at lots js)) w
      own js there =
          sym (ap₂ (λ (ps : List Part) (ms : List (Lot (Unit {0}))). all_apart_from tester ps (lot_parts ms) w) (own_parts lots k l ls e) (behind_first lots k l ls e))
          ∙ sym (apart_near tester (parts_at lots k) (lots_behind lots k) w)
          ∙ sym (ap (λ (ms : List (Lot (Unit {0}))). all_apart_from tester (parts_at lots k) (lot_parts ms) w) there)

      next : (o : Outcome W (Unit {0})) (more : List Pair) → ((v : W) → all_apart tester (live_lots ls) v ≡ shown more v) → after_first (λ _. all_apart tester (live_lots ls)) o ≡ after_first (λ _. shown more) o
      next (done x v) more later = later v
      next (stopped s v) more later = refl

      by : (b : Bool) → ((more : List Pair) → ArePairsBehind Overlap lots places more → (v : W) → all_apart tester (live_lots ls) v ≡ shown more v)
          → (ps : List Pair) → ArePairsBehind Overlap lots (cond (b && true) (k ∷ places) places) ps → all_apart tester (cond b (l ∷ live_lots ls) (live_lots ls)) w ≡ shown ps w
      by true later ps g =
          ap (after_first (λ _. all_apart tester (live_lots ls))) (own g.0 g.3.there)
          ∙ next (all_apart_from tester (parts_at lots k) (lot_parts (lots_at lots g.0)) w) g.1 (later g.1 g.4)
          ∙ sym (own_shown k g.0 g.3.within g.1 w)
          ∙ sym (ap (λ (qs : List Pair). shown qs w) g.2)
      by false later ps g = later ps g w

-- ---- the row

module _ {W : Type 0} (tester : Tester W) (s : PlainState) where
  -- its end
  abbrev told : Walk W Reply
  told = pass (reply (clear (length (live_lots s.lots))))

  -- the row behind its count
  abbrev apart_told : Walk W Reply
  apart_told = all_apart tester (live_lots s.lots) >> told

  module _ (n : ℕ) (w : W) (counted : n ≡ tests_behind Overlap s.lots (live_places None 0 s.lots)) where
    -- the row begins with the count
    audit_begins : IsLeft w (row_audit tester s) w (tester.count n >> apart_told)
    audit_begins = record { same = ap (λ (m : ℕ). after_first (λ _. apart_told) (tester.count m w)) (counted ∙ all_counted s.lots 0 s.lots refl) }

    -- where that stops, so does the row
    pub audit_stops : (e : Stopped) (u : W) → StopsBy e u (tester.count n w) → StopsBy e u (row_audit tester s w)
    audit_stops e u h = stop_left (tester.count n) (λ _. apart_told) audit_begins e u h

    -- behind it the tests of some pairs are left
    pub audit_leaves : (live : ℕ) → live ≡ length (live_places None 0 s.lots) → (pairs : List Pair) → ArePairsBehind Overlap s.lots (live_places None 0 s.lots) pairs → (v : W) → tester.count n w ≡ done tt v →
        row_audit tester s w ≡ after_first (λ _. pass (reply (clear live))) (apart_each tester (lot_parts s.lots) pairs v)
    audit_leaves live many pairs behind v made =
        sym (next_left (tester.count n) (λ _. apart_told) audit_begins made).same
        ∙ ap (after_first (λ _. told)) (all_shown tester s.lots 0 s.lots refl pairs behind v)
        ∙ ap (λ (m : ℕ). after_first (λ _. pass (reply (clear m))) (apart_each tester (lot_parts s.lots) pairs v)) (sym (many ∙ live_counted 0 s.lots))

-- ---- pairs that are judged

-- where no two that share a member can be met, the pairs are shown to be apart by judging each
pub none_meet : {W : Type 0} (tester : Tester W) (lists : List (List Part)) (ps : List Pair) (found : List Bool) (w : W) → ((u : W) → apart_each tester lists ps w ≡ stopped taken_wrong u → ⊥) →
    apart_each tester lists ps w ≡ after_first (λ _. pass tt) (meet_each tester Overlap lists found ps w)
none_meet tester lists [] found w h = refl
none_meet {W = W} tester lists (p ∷ ps) found w h = by (common_nearby tester (get_or lists p.first []) (get_or lists p.second []) w) h (λ more v. none_meet tester lists ps more v)
  where
    Later : Type 0
    Later = (more : List Bool) (v : W) → ((u : W) → apart_each tester lists ps v ≡ stopped taken_wrong u → ⊥) → apart_each tester lists ps v ≡ after_first (λ _. pass tt) (meet_each tester Overlap lists more ps v)

    by : (o : Outcome W Bool) → ((u : W) → after_first (apart_next tester lists ps) o ≡ stopped taken_wrong u → ⊥) → Later → after_first (apart_next tester lists ps) o ≡ after_first (λ _. pass tt) (after_first (λ more. meet_each tester Overlap lists more ps) (after_first (λ b. pass (found ++ b ∷ [])) o))
    by (done true v) k later = absurd (k v refl)
    by (done false v) k later = later (found ++ false ∷ []) v k
    by (stopped s v) k later = refl
