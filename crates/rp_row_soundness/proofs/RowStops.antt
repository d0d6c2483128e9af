-- In a sound state the row of each command is stopped by limits alone, where the tests are.
use Rattle.std.proofs.Common.{◌≡◌, cond, sym, ℕ, ◌+◌, ℤ, Bool, true, false, List, [], ◌∷◌, length, refl}
use Rattle.std.specs.Prelude.{IsTrue, ◌↔◌, Option, Some, None, nat_le}
use Rattle.std.specs.List.{AllByRecursion}
use Rattle.std.proofs.lemmas.Slice.Eq.{bytes_eq-Decides}
use Rattle.rp_algebra.proofs.Lists.{all_filter}
use Rattle.rp_geometry.specs.Geometry.{HalfSpace}
use Rattle.rp_language.specs.Name.{label_eq}
use Rattle.rp_geometry.specs.sets.Shape.{Shape, Part, shape_of_parts}
use Rattle.rp_geometry.specs.sets.Sets.{Overlaps}
use Rattle.rp_geometry.specs.parts.PartTest.{has_member, slimmed, part_of, part_lines}
use Rattle.rp_geometry.specs.searches.ProofLine.{strict_line}
use Rattle.rp_semantics.specs.Walk.{limit_met, Outcome, done, stopped, Tester, Work, with_lines, most_tests, strict_test, weak_test, part_test, count_tests, slices_found, first_tester}
use Rattle.rp_model.specs.states.State.{Lot, State, live_lots, lots_of_layer}
use Rattle.rp_geometry.specs.parts.Parts.{most_half_spaces, AreOf}
use Rattle.rp_language.specs.Expression.{Command}
use Rattle.rp_semantics.specs.Form.{common_nearby}
use Rattle.rp_model.specs.commands.Parts.{lot_parts}
use Rattle.rp_model.specs.commands.Row.{row}
use Rattle.rp_model.specs.states.Sound.{AreApartInLayers, IsSoundWith}
use Rattle.rp_semantics.specs.FormLaws.{IfDone, WalksAreRight}
use Rattle.rp_geometry.proofs.SameMembers.{overlaps_same}
use Rattle.rp_parametricity.proofs.Forms.{common_nearby_alike}
use Rattle.rp_parametricity.proofs.Trivial.{Any, any_parts}
use Rattle.rp_parametricity.proofs.OneTester.{one_walk, related}
use Rattle.rp_parametricity.proofs.Stopping.{stopping}
use Rattle.rp_parametricity.proofs.Audits.{ListsSearched, LotsSearched, none_found, all_rows_fulfil}
use Rattle.rp_row_soundness.proofs.Neighbours.{live_are_of}
use Rattle.rp_row_soundness.proofs.Stops.{StopsAtLimit, OnlyLimits}

-- ---- lots of one layer

-- one lot more, of the layer or not
apart_one : (l m : Lot Shape) (ls : List (Lot Shape)) (b : Bool) → label_eq m.layer l.layer ≡ b → (l.layer ≡ m.layer → ¬ Overlaps l.set m.set) → AllByRecursion (λ k. ¬ Overlaps l.set k.set) ls → AllByRecursion (λ k. ¬ Overlaps l.set k.set) (cond b (m ∷ ls) ls)
apart_one l m ls true e h rest = (h (sym ((bytes_eq-Decides m.layer l.layer).0 e)), rest)
apart_one l m ls false e h rest = rest

-- what is apart from the lots of its layer is apart from each of them
apart_in_layer : (l : Lot Shape) (ls : List (Lot Shape)) → AllByRecursion (λ m. l.layer ≡ m.layer → ¬ Overlaps l.set m.set) ls → AllByRecursion (λ m. ¬ Overlaps l.set m.set) (lots_of_layer l.layer ls)
apart_in_layer l [] h = tt
apart_in_layer l (m ∷ ls) h = apart_one l m (lots_of_layer l.layer ls) (label_eq m.layer l.layer) refl h.0 (apart_in_layer l ls h.1)

-- ---- an audit finds lots that are apart

module _ {W : Type 0} (t : Tester W) (limits : OnlyLimits t) (P : Part → Type 0) (right : WalksAreRight P t) where
  -- where two sets share no member nothing is found
  not_found : (ps qs : List Part) → ¬ Overlaps (shape_of_parts ps) (shape_of_parts qs) → (o : Outcome W Bool) → IfDone o (λ b. IsTrue b ↔ Overlaps (shape_of_parts ps) (shape_of_parts qs)) → IfDone o (λ b. b ≡ false)
  not_found ps qs n (done true w) h = absurd (n (h.0 refl))
  not_found ps qs n (done false w) h = refl
  not_found ps qs n (stopped e w) h = tt

  -- the first list is apart from each later one
  lists_searched : (a : Shape) (ps : List Part) → AreOf P a ps → (ls : List (Lot Shape)) → AllByRecursion (λ l. AreOf P l.set l.parts) ls → AllByRecursion (λ l. ¬ Overlaps a l.set) ls
      → ListsSearched (one_walk (stopping W)) (none_found (stopping W)) t t ps (lot_parts ls)
  unfolding one_walk none_found
  lists_searched a ps h [] k n = tt
  lists_searched a ps h (l ∷ ls) k n = (
    (λ w. (
      (common_nearby_alike (one_walk (stopping W)) Any t t (related (stopping W) t limits.tests) ps l.parts (any_parts ps) (any_parts l.parts) w).0,
      not_found ps l.parts (λ o. n.0 (overlaps_same (shape_of_parts ps) (shape_of_parts l.parts) a l.set h.members k.0.members o)) (common_nearby t ps l.parts w) (right.commons ps l.parts h.all k.0.all w).1,
    )),
    lists_searched a ps h ls k.1 n.1,
  )

  -- each two lots of one layer are apart
  lots_searched : (ls : List (Lot Shape)) → AllByRecursion (λ l. AreOf P l.set l.parts) ls → AreApartInLayers ls → LotsSearched (one_walk (stopping W)) (none_found (stopping W)) t t ls
  lots_searched [] k n = tt
  lots_searched (l ∷ ls) k n =
      (lists_searched l.set l.parts k.0 (lots_of_layer l.layer ls) (all_filter (λ m. AreOf P m.set m.parts) (λ m. label_eq m.layer l.layer) ls k.1) (apart_in_layer l ls n.0), lots_searched ls k.1 n.1)

  -- in a sound state a row is stopped by limits alone
  pub row_stops : (s : State) → IsSoundWith P s → (c : Command) (w : W) → StopsAtLimit (row t s c w)
  row_stops s sound c w = all_rows_fulfil (stopping W) t limits.tests limits.slices (none_found (stopping W)) s (lots_searched (live_lots s.lots) (live_are_of P s sound) sound.live_lots_apart) c w

-- ---- the first certificates

-- a part test is stopped by a limit alone
part_stops : (cell : List HalfSpace) (w : Work) → StopsAtLimit (part_test cell w)
unfolding part_test
part_stops cell w = by_member (has_member cell) (nat_le (length (slimmed cell).kept) most_half_spaces)
  where
    by_member : (b few : Bool) → StopsAtLimit (elim b as (λ _. Outcome Work (Option Part)) [
      | false ↦ done None (with_lines w (strict_line cell ∷ []))
      | true ↦ elim few as (λ _. Outcome Work (Option Part)) [ true ↦ done (Some (part_of (slimmed cell))) (with_lines w (strict_line cell ∷ part_lines (slimmed cell))) | false ↦ stopped limit_met w ]
    ])
    by_member false few = tt
    by_member true true = tt
    by_member true false = refl

-- a strict test is never stopped
strict_stops : (cell : List HalfSpace) (w : Work) → StopsAtLimit (strict_test cell w)
unfolding strict_test
strict_stops cell w = tt

-- a weak test is never stopped
weak_stops : (cell : List HalfSpace) (w : Work) → StopsAtLimit (weak_test cell w)
unfolding weak_test
weak_stops cell w = tt

-- counting is stopped by a limit alone
count_stops : (n : ℕ) (w : Work) → StopsAtLimit (count_tests n w)
count_stops n w = by_test (nat_le (w.tests + n) most_tests)
  where
    by_test : (b : Bool) → StopsAtLimit (elim b as (λ _. Outcome Work (Unit {0})) [ true ↦ done tt (record { tests = w.tests + n; proofs = w.proofs }) | false ↦ stopped limit_met w ])
    by_test true = tt
    by_test false = refl

-- slices are found without a test
slices_stop : (z : ℤ) (ps : List Part) (w : Work) → StopsAtLimit (slices_found z ps w)
unfolding slices_found
slices_stop z ps w = tt

-- the tests of the first certificates are stopped by limits alone
pub first_only_limits : OnlyLimits first_tester
first_only_limits = record { tests = record { count = count_stops; strict = strict_stops; weak = weak_stops; part = part_stops }; slices = slices_stop }
