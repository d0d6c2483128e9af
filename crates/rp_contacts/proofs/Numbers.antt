-- Pairs of numbers that meet, pair by pair, and the ids of lots in a history.
use Rattle.std.proofs.Common.{◌≡◌, ℕ, ◌+◌, ◌<◌, Bool, true, false, cond, List, [], ◌∷◌, ◌++◌, map, length, drop, get_or, Option, Some, None, slice_get, refl, sym, ap, ap₂, ◌∙◌, arith, append_assoc}
use Rattle.std.specs.Prelude.{option_map}
use Rattle.std.specs.List.{AllByRecursion}
use Rattle.std.specs.Option.{option_to_list}
use Rattle.std.proofs.lemmas.List.{get_or_default}
use Rattle.std.proofs.lemmas.Option.{slice_get-map}
use Rattle.rp_algebra.proofs.Lists.{drop_item}
use Rattle.rp_model.specs.states.State.{Lot, bare_lot, ids_of}
use Rattle.rp_access.specs.Chain.{IsBelow}
use Rattle.rp_history.specs.declared.lot.LotLine.{LotLine}
use Rattle.rp_history.specs.Lots.{lot_of}
use Rattle.rp_history.proofs.Bare.{bare_ids}
use Rattle.rp_proximity.specs.Near.{lots_at}
use Rattle.rp_contacts.specs.declared.pair.Pair.{Pair}
use Rattle.rp_contacts.specs.Meets.{id_at}
use Rattle.rp_contacts.specs.Numbers.{AreBelow, links_met}
use Rattle.rp_contacts.proofs.Items.{id_there}
use Rattle.rp_contacts.proofs.Paired.{line_there}

-- ---- lots in a history

-- the id of the line at a place
pub line_id : (lines : List LotLine) (k : ℕ) (line : LotLine) → k < length lines → line ≡ get_or lines k line → id_at (map lot_of lines) k ≡ line.id
line_id lines k line within is = id_there (map lot_of lines) k (lot_of line) (line_there lines k line within is)

-- lots without their parts, at some places
bare_at : (lots : List (Lot (Unit {0}))) (ks : List ℕ) → lots_at (map bare_lot lots) ks ≡ map bare_lot (lots_at lots ks)
bare_at lots [] = refl
bare_at lots (k ∷ ks) = by (slice_get lots k) (slice_get-map bare_lot lots k) (bare_at lots ks)
  where
    by : (o : Option (Lot (Unit {0}))) → slice_get (map bare_lot lots) k ≡ option_map bare_lot o → lots_at (map bare_lot lots) ks ≡ map bare_lot (lots_at lots ks)
        → option_to_list (slice_get (map bare_lot lots) k) ++ lots_at (map bare_lot lots) ks ≡ map bare_lot (option_to_list o ++ lots_at lots ks)
    by None e f = ap₂ (λ (p : Option (Lot (Unit {0}))) (ls : List (Lot (Unit {0}))). option_to_list p ++ ls) e f
    by (Some l) e f = ap₂ (λ (p : Option (Lot (Unit {0}))) (ls : List (Lot (Unit {0}))). option_to_list p ++ ls) e f

-- they have the ids of the lots
pub bare_ids_at : (lots history : List (Lot (Unit {0}))) (ks : List ℕ) → history ≡ map bare_lot lots → ids_of (lots_at history ks) ≡ ids_of (lots_at lots ks)
bare_ids_at lots history ks e = ap (λ (ls : List (Lot (Unit {0}))). ids_of (lots_at ls ks)) e ∙ ap ids_of (bare_at lots ks) ∙ bare_ids (lots_at lots ks)

-- ---- pairs that meet

module _ (ps : List Pair) (met : List Bool) (i : ℕ) (p : Pair) (d : Bool) (here : i < length ps) (each : length ps ≡ length met) (is : p ≡ get_or ps i p) where
  -- the rest
  abbrev pub rest : List (ℕ × ℕ)
  rest = links_met (drop (i + 1) ps) (drop (i + 1) met)

  -- what is left at a pair, by whether it meets
  meet_left : (b : Bool) → get_or met i d ≡ b → links_met (drop i ps) (drop i met) ≡ cond b ((p.first, p.second) ∷ rest) rest
  meet_left b t =
      let there : i < length met = omega (arith, here, each) in
      ap₂ links_met (drop_item ps i p here is) (drop_item met i b there (sym t ∙ get_or_default met i d b there))

  -- one that meets goes behind those found
  pub meet_taken : (found more all : List (ℕ × ℕ)) → get_or met i d ≡ true → more ≡ found ++ (p.first, p.second) ∷ [] → found ++ links_met (drop i ps) (drop i met) ≡ all → more ++ rest ≡ all
  meet_taken found more all t made left =
      ap (λ (ls : List (ℕ × ℕ)). ls ++ rest) made
      ∙ append_assoc found ((p.first, p.second) ∷ []) rest
      ∙ sym (ap (λ (ls : List (ℕ × ℕ)). found ++ ls) (meet_left true t))
      ∙ left

  -- another one is passed over
  pub meet_passed : (found more all : List (ℕ × ℕ)) → get_or met i d ≡ false → more ≡ found → found ++ links_met (drop i ps) (drop i met) ≡ all → more ++ rest ≡ all
  meet_passed found more all t same left = ap (λ (ls : List (ℕ × ℕ)). ls ++ rest) same ∙ sym (ap (λ (ls : List (ℕ × ℕ)). found ++ ls) (meet_left false t)) ∙ left

-- their numbers are below a count where all are
pub meeting_below : (n : ℕ) (ps : List Pair) (met : List Bool) → AllByRecursion (AreBelow n) ps → AllByRecursion (IsBelow n) (links_met ps met)
meeting_below n [] met h = tt
meeting_below n (p ∷ ps) [] h = tt
meeting_below n (p ∷ ps) (b ∷ met) h = by b (meeting_below n ps met h.1)
  where
    by : (b : Bool) → AllByRecursion (IsBelow n) (links_met ps met) → AllByRecursion (IsBelow n) (cond b ((p.first, p.second) ∷ links_met ps met) (links_met ps met))
    by true k = (h.0, k)
    by false k = k
