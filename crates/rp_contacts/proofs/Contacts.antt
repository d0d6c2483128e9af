-- The row of neighbours, step by step, whatever answers its tests.
use Rattle.std.proofs.Common.{◌≡◌, ℕ, Bool, cond, List, [], ◌∷◌, map, filter, get_or, Option, Some, None, slice_get, refl, sym, ap, ◌∙◌}
use Rattle.std.specs.Prelude.{option_map}
use Rattle.std.proofs.lemmas.Option.{get_or_from_slice_get, slice_get-map}
use Rattle.rp_geometry.specs.sets.Shape.{Part}
use Rattle.rp_language.specs.Name.{Label}
use Rattle.rp_semantics.specs.Walk.{Outcome, done, stopped, Walk, Tester, pass, after_first, ◌>>=◌, ◌>>◌}
use Rattle.rp_model.specs.states.State.{Lot, PlainState, layer_with_id, bare_lot}
use Rattle.rp_model.specs.commands.Verdict.{Refusal, neighbour_lines}
use Rattle.rp_model.specs.commands.Checks.{check_live}
use Rattle.rp_model.specs.commands.Reply.{Reply, reply_lines, check}
use Rattle.rp_model.specs.commands.Parts.{lot_parts, parts_with_id}
use Rattle.rp_model.specs.commands.Neighbours.{touched_lots, row_neighbours}
use Rattle.rp_proximity.specs.declared.reach.Reach.TheVariants.{Touch}
use Rattle.rp_proximity.specs.Near.{others_in, is_near, pairs_with, lots_at, AreWithin}
use Rattle.rp_proximity.proofs.Skipped.{touch_near}
use Rattle.rp_oracle.specs.declared.stopped.Stopped.{Stopped}
use Rattle.rp_oracle.specs.Refines.{StopsBy}
use Rattle.rp_oracle.proofs.Left.{IsLeft, all_left, left_as, next_left, stop_left}
use Rattle.rp_contacts.specs.Asked.{touch_counted}
use Rattle.rp_contacts.specs.Meets.{pair_of, meet_each, id_at, contact_ids}
use Rattle.rp_contacts.proofs.Meeting.{from_none, touched_met}

-- ---- the lot of an id

-- the parts at a place, as an item of their list
pub parts_item : (lots : List (Lot (Unit {0}))) (k : ℕ) (ps : List Part) → option_map (λ l. l.parts) (slice_get lots k) ≡ Some ps → get_or (lot_parts lots) k [] ≡ ps
parts_item lots k ps e = get_or_from_slice_get (lot_parts lots) k ps [] (slice_get-map (λ (m : Lot (Unit {0})). m.parts) lots k ∙ e)

-- the id at a place stands in the history too
bare_id : (lots : List (Lot (Unit {0}))) (k : ℕ) → id_at (map bare_lot lots) k ≡ id_at lots k
bare_id lots k = ap (λ (o : Option (Lot (Unit {0}))). elim o as (λ _. Label) [ None ↦ [] | Some l ↦ l.id ]) (slice_get-map bare_lot lots k) ∙ by (slice_get lots k)
  where
    by : (o : Option (Lot (Unit {0}))) → (elim (option_map bare_lot o) as (λ _. Label) [ None ↦ [] | Some l ↦ l.id ]) ≡ (elim o as (λ _. Label) [ None ↦ [] | Some l ↦ l.id ])
    by None = refl
    by (Some l) = refl

-- and so do those that meet
pub bare_met : (lots : List (Lot (Unit {0}))) (ks : List ℕ) (met : List Bool) → contact_ids (map bare_lot lots) ks met ≡ contact_ids lots ks met
bare_met lots [] met = refl
bare_met lots (k ∷ ks) [] = refl
bare_met lots (k ∷ ks) (b ∷ met) = λ i. cond b (bare_id lots k i ∷ bare_met lots ks met i) (bare_met lots ks met i)

-- ---- the lots that touch

module _ {W : Type 0} (tester : Tester W) (s : PlainState) (k n : ℕ) (ps : List Part) (others : List (Lot (Unit {0}))) (w : W) (many : n ≡ pairs_with Touch ps others) (own : get_or (lot_parts s.lots) k [] ≡ ps) where
  -- the walk
  abbrev pub looking : Walk W (List Label)
  looking = touch_counted tester (get_or (lot_parts s.lots) k []) others

  -- their count is left
  counting : IsLeft w looking w (tester.count n >> touched_lots tester [] ps others)
  counting =
      left_as (ap (λ (m : ℕ). tester.count m >> touched_lots tester [] ps others) (sym many))
      (left_as (ap (λ (qs : List Part). touch_counted tester qs others) own) (all_left w looking))

  -- it stops
  pub count_stops : (e : Stopped) (u : W) → StopsBy e u (tester.count n w) → StopsBy e u (looking w)
  count_stops e u h = stop_left (tester.count n) (λ _. touched_lots tester [] ps others) counting e u h

  module _ (places : List ℕ) (u : W) (found : lots_at s.lots places ≡ filter (is_near Touch ps) others) (within : AreWithin s.lots places) (made : tester.count n w ≡ done tt u) where
    -- the tests are left
    touching : IsLeft w looking u (touched_lots tester [] ps others)
    touching = next_left (tester.count n) (λ _. touched_lots tester [] ps others) counting made

    -- they are those of the pairs with the near ones
    all_met : touched_lots tester [] ps others u ≡ after_first (λ met. pass (contact_ids s.lots places met)) (meet_each tester Touch (lot_parts s.lots) [] (map (pair_of k) places) u)
    all_met =
        sym (touch_near tester [] ps others u)
        ∙ ap (λ (ls : List (Lot (Unit {0}))). touched_lots tester [] ps ls u) (sym found)
        ∙ touched_met tester s.lots k ps own places within [] u
        ∙ ap (after_first (λ met. pass (contact_ids s.lots places met))) (sym (from_none tester Touch (lot_parts s.lots) (map (pair_of k) places) u))

    -- so they are what is left
    pub pairs_left : looking w ≡ after_first (λ met. pass (contact_ids s.lots places met)) (meet_each tester Touch (lot_parts s.lots) [] (map (pair_of k) places) u)
    pairs_left = sym touching.same ∙ all_met

-- ---- the row

module _ {W : Type 0} (tester : Tester W) (s : PlainState) (x : Label) where
  -- the row
  abbrev pub asking : Walk W Reply
  asking = row_neighbours tester s x

  -- the reply that tells neighbours
  abbrev pub told : List Label → Walk W Reply
  told ids = pass (reply_lines (neighbour_lines ids))

  -- the same where the lots are found first
  abbrev pub found_told : Label → List Part → Walk W Reply
  found_told y ps = touch_counted tester ps (others_in y x s.lots) >>= told

  -- what comes behind two walks comes behind both together
  then_told : (first : Walk W (Unit {0})) (second : Walk W (List Label)) (w : W) → (first >> (second >>= told)) w ≡ ((first >> second) >>= told) w
  then_told first second w = by (first w)
    where
      by : (o : Outcome W (Unit {0})) → after_first (λ _. second >>= told) o ≡ after_first told (after_first (λ _. second) o)
      by (done x v) = refl
      by (stopped e v) = refl

  -- once the lot is known, its neighbours are looked for
  pub begins : (y : Label) (ps : List Part) (w : W) → check_live s x ≡ None → ps ≡ parts_with_id s x → y ≡ layer_with_id s x → IsLeft w asking w (found_told y ps)
  begins y ps w live parts layer = record {
    same = (λ i. found_told (layer i) (parts i) w)
        ∙ sym (then_told (tester.count (pairs_with Touch (parts_with_id s x) (others_in (layer_with_id s x) x s.lots))) (touched_lots tester [] (parts_with_id s x) (others_in (layer_with_id s x) x s.lots)) w)
        ∙ sym (ap (λ (o : Option Refusal). check o (tester.count (pairs_with Touch (parts_with_id s x) (others_in (layer_with_id s x) x s.lots)) >> (touched_lots tester [] (parts_with_id s x) (others_in (layer_with_id s x) x s.lots) >>= told)) w) live);
  }

  -- once its lots are known by the answers of pairs, they are told
  pub told_met : (y : Label) (ps : List Part) (w : W) → check_live s x ≡ None → ps ≡ parts_with_id s x → y ≡ layer_with_id s x
      → (ids : List Bool → List Label) (o : Outcome W (List Bool)) → touch_counted tester ps (others_in y x s.lots) w ≡ after_first (λ met. pass (ids met)) o → asking w ≡ after_first (λ met. told (ids met)) o
  told_met y ps w live parts layer ids o found = sym (begins y ps w live parts layer).same ∙ ap (after_first told) found ∙ twice o
    where
      twice : (o : Outcome W (List Bool)) → after_first told (after_first (λ met. pass (ids met)) o) ≡ after_first (λ met. told (ids met)) o
      twice (done met v) = refl
      twice (stopped e v) = refl
