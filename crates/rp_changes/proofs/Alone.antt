-- No lot shares a member with a form: the pairs that are counted, and the search among the near lots.
use Rattle.std.proofs.Common.{◌≡◌, ℕ, Bool, true, false, List, filter, Option, None, refl, sym, ap, ◌∙◌, subst}
use Rattle.std.specs.Prelude.{option_map}
use Rattle.rp_geometry.specs.sets.Shape.{Part}
use Rattle.rp_language.specs.Name.{Label, is_among}
use Rattle.rp_semantics.specs.Walk.{done, Walk, Tester, after_first, ◌>>=◌}
use Rattle.rp_semantics.specs.Form.{near_pair}
use Rattle.rp_model.specs.states.State.{Lot, PlainState, live_lots, lots_of_layer, ids_of}
use Rattle.rp_model.specs.commands.Verdict.{known, overlaps}
use Rattle.rp_model.specs.commands.Checks.{refuse_if, check_new}
use Rattle.rp_model.specs.commands.Reply.{Reply, check}
use Rattle.rp_model.specs.commands.Parts.{lot_parts, count_with_each}
use Rattle.rp_model.specs.commands.Register.{first_overlapped}
use Rattle.rp_proximity.specs.declared.reach.Reach.TheVariants.{Overlap}
use Rattle.rp_proximity.specs.Near.{others_in, is_near, pairs_with}
use Rattle.rp_proximity.proofs.Skipped.{search_near, others_all}
use Rattle.rp_oracle.specs.declared.stopped.Stopped.{Stopped}
use Rattle.rp_oracle.specs.Refines.{StopsBy}
use Rattle.rp_oracle.proofs.Left.{stops_on}
use Rattle.rp_changes.specs.Steps.{lots_tested}

-- an id that may be given is that of no lot
pub new_id : (s : PlainState) (x : Label) → check_new s x ≡ None → is_among x (ids_of s.lots) ≡ false
new_id s x e = by (is_among x (ids_of s.lots)) e
  where
    by : (b : Bool) → refuse_if b (known x) ≡ None → b ≡ false
    by false f = refl
    by true f = absurd (cc)

module _ {W : Type 0} (tester : Tester W) (y x : Label) (lots : List (Lot (Unit {0}))) (ps : List Part) (rest : Walk W Reply) (new : is_among x (ids_of lots) ≡ false) where
  -- the live lots of the layer
  abbrev present : List (Lot (Unit {0}))
  present = lots_of_layer y (live_lots lots)

  -- what follows from the first that shares a member
  abbrev pub told : Option Label → Walk W Reply
  told found = check (option_map overlaps found) rest

  -- the others with another id are all of them
  others : others_in y x lots ≡ present
  others = others_all y x lots new

  -- so are their pairs
  pairs : (n : ℕ) → n ≡ pairs_with Overlap ps (others_in y x lots) → n ≡ count_with_each near_pair ps (lot_parts present)
  pairs n e = e ∙ ap (pairs_with Overlap ps) others

  -- where these are not counted, the row stops
  pub alone_uncounted : (n : ℕ) (e : Stopped) (w v : W) → n ≡ pairs_with Overlap ps (others_in y x lots) → StopsBy e v (tester.count n w) → StopsBy e v (lots_tested tester ps present rest w)
  alone_uncounted n e w v same h =
      stops_on (λ _. first_overlapped tester ps present >>= told) e v (tester.count (count_with_each near_pair ps (lot_parts present)) w) (subst (λ (m : ℕ). StopsBy e v (tester.count m w)) (pairs n same) h)

  -- where they are, the near ones are searched
  pub alone_counted : (n : ℕ) (near : List (Lot (Unit {0}))) (w v : W) → n ≡ pairs_with Overlap ps (others_in y x lots) → near ≡ filter (is_near Overlap ps) (others_in y x lots) → tester.count n w ≡ done tt v
      → lots_tested tester ps present rest w ≡ after_first told (first_overlapped tester ps near v)
  alone_counted n near w v same all h =
      ap (after_first (λ _. first_overlapped tester ps present >>= told)) (ap (λ (m : ℕ). tester.count m w) (sym (pairs n same)) ∙ h)
      ∙ ap (after_first told) (sym (ap (λ (ls : List (Lot (Unit {0}))). first_overlapped tester ps ls v) (all ∙ ap (filter (is_near Overlap ps)) others) ∙ search_near tester ps present v))
