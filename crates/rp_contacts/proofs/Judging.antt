-- What follows where the pairs that a walk leaves are judged.
use Rattle.std.proofs.Common.{◌≡◌, ℕ, ◌<◌, Bool, List, [], map, length, sym, ap, ◌∙◌, subst}
use Rattle.std.specs.List.{AllByRecursion}
use Rattle.std.proofs.lemmas.List.{length-map}
use Rattle.rp_geometry.specs.sets.Shape.{Part}
use Rattle.rp_semantics.specs.Walk.{Outcome, done, Walk, Tester, pass, after_first}
use Rattle.rp_model.specs.states.State.{Lot, bare_lot}
use Rattle.rp_model.specs.commands.Parts.{lot_parts}
use Rattle.rp_oracle.specs.declared.stopped.Stopped.{Stopped}
use Rattle.rp_oracle.specs.Refines.{StopsBy}
use Rattle.rp_oracle.proofs.Left.{stops_on}
use Rattle.rp_history.specs.declared.lot.LotLine.{LotLine}
use Rattle.rp_history.specs.Lots.{lot_of}
use Rattle.rp_proximity.specs.declared.reach.Reach.{Reach}
use Rattle.rp_proximity.specs.Near.{AreWithin}
use Rattle.rp_contacts.specs.declared.pair.Pair.{Pair}
use Rattle.rp_contacts.specs.Meets.{meet_each, IsPairWithin}

-- as many lines as lots
pub as_many : (lots history : List (Lot (Unit {0}))) (lines : List LotLine) → history ≡ map bare_lot lots → map lot_of lines ≡ history → length lots ≡ length lines
as_many lots history lines e f = sym (length-map lots bare_lot) ∙ sym (ap length (f ∙ e)) ∙ length-map lines lot_of

-- places within the lots are within their lines
pub within_lines : (lots history : List (Lot (Unit {0}))) (lines : List LotLine) (places read : List ℕ) → history ≡ map bare_lot lots → map lot_of lines ≡ history → read ≡ places → AreWithin lots places → AreWithin lines read
within_lines lots history lines places read e f same h = subst (λ (n : ℕ). AllByRecursion (λ k. k < n) read) (as_many lots history lines e f) (subst (AreWithin lots) (sym same) h)

-- pairs within the lots are within their forms
pub within_forms : {F : Type 0} (view : F → List Part) (lots : List (Lot (Unit {0}))) (forms : List F) (pairs judged : List Pair) → map view forms ≡ lot_parts lots → judged ≡ pairs → AllByRecursion (IsPairWithin lots) pairs → AllByRecursion (IsPairWithin forms) judged
within_forms view lots forms pairs judged e f h =
    let many : length lots ≡ length forms = sym (length-map lots (λ (l : Lot (Unit {0})). l.parts)) ∙ sym (ap length e) ∙ length-map forms view in
    subst (λ (n : ℕ). AllByRecursion (λ (p : Pair). (p.first < n) × (p.second < n)) judged) many (subst (AllByRecursion (IsPairWithin lots)) (sym f) h)

-- the tests of pairs, as a walk over lists of parts
abbrev pub meet_pairs : {W : Type 0} → Tester W → Reach → List (List Part) → List Pair → Walk W (List Bool)
meet_pairs tester r lists pairs = meet_each tester r lists [] pairs

module _ {W A B : Type 0} (walk : List (List Part) → List Pair → Walk W B) (lots : List (Lot (Unit {0}))) (lists : List (List Part)) (pairs judged : List Pair) (end : B → A) (u v : W) (o : Outcome W A) (e : lists ≡ lot_parts lots) (f : judged ≡ pairs)
    (left : o ≡ after_first (λ x. pass (end x)) (walk (lot_parts lots) pairs u)) where
  -- they are those that are left
  judged_left : o ≡ after_first (λ x. pass (end x)) (walk lists judged u)
  judged_left =
      left
      ∙ ap (λ (ls : List (List Part)). after_first (λ x. pass (end x)) (walk ls pairs u)) (sym e)
      ∙ ap (λ (ps : List Pair). after_first (λ x. pass (end x)) (walk lists ps u)) (sym f)

  -- where a test stops, so does the walk
  pub judged_stops : (why : Stopped) → StopsBy why v (walk lists judged u) → StopsBy why v o
  judged_stops why h = subst (λ (p : Outcome W A). StopsBy why v p) (sym judged_left) (stops_on (λ x. pass (end x)) why v (walk lists judged u) h)

  -- where all are judged, it comes to what follows
  pub judged_ends : (x : B) → walk lists judged u ≡ done x v → o ≡ done (end x) v
  judged_ends x h = judged_left ∙ ap (after_first (λ x. pass (end x))) h
