-- What the tests of pairs come to, as the walks over lots have it.
use Rattle.std.proofs.Common.{◌≡◌, ℕ, ◌+◌, ◌<◌, Bool, true, false, cond, List, [], ◌∷◌, ◌++◌, map, length, drop, get_or, Option, Some, None, slice_get, refl, sym, ap, ◌∙◌, subst, append_assoc, append-nil}
use Rattle.std.specs.Prelude.{option_map}
use Rattle.std.specs.List.{AllByRecursion}
use Rattle.std.proofs.lemmas.List.{get_or_default}
use Rattle.std.proofs.lemmas.Option.{slice_get-map, slice_get_read}
use Rattle.rp_algebra.proofs.Lists.{get_some, drop_item}
use Rattle.rp_geometry.specs.sets.Shape.{Part}
use Rattle.rp_language.specs.Name.{Label}
use Rattle.rp_semantics.specs.Walk.{Outcome, done, stopped, Walk, Tester, pass, after_first, ◌>>=◌}
use Rattle.rp_semantics.specs.Form.{touch_nearby}
use Rattle.rp_model.specs.states.State.{Lot}
use Rattle.rp_model.specs.commands.Parts.{lot_parts}
use Rattle.rp_model.specs.commands.Neighbours.{touched_lots}
use Rattle.rp_history.specs.declared.lot.LotLine.{LotLine}
use Rattle.rp_history.specs.Lots.{lot_of}
use Rattle.rp_proximity.specs.declared.reach.Reach.{Reach}
use Rattle.rp_proximity.specs.declared.reach.Reach.TheVariants.{Touch}
use Rattle.rp_proximity.specs.Near.{lots_at, AreWithin}
use Rattle.rp_proximity.proofs.Skipped.{touched_by}
use Rattle.rp_contacts.specs.declared.pair.Pair.{Pair}
use Rattle.rp_contacts.proofs.Items.{parts_there, id_there, first_there}
use Rattle.rp_contacts.specs.Meets.{pair_of, pair_test, meet_each, id_at, contact_ids, IsPairWithin}

-- ---- the answers behind those so far

module _ {W : Type 0} (tester : Tester W) (r : Reach) (lists : List (List Part)) where
  -- the test of a pair
  abbrev pub test_of : Pair → Walk W Bool
  test_of p = pair_test tester r (get_or lists p.first []) (get_or lists p.second [])

  -- the answers of pairs
  abbrev pub answers : List Pair → Walk W (List Bool)
  answers [] = pass []
  answers (p ∷ ps) = test_of p >>= (λ b. answers ps >>= (λ more. pass (b ∷ more)))

  -- behind those so far
  pub behind_found : (found : List Bool) (ps : List Pair) (w : W) → meet_each tester r lists found ps w ≡ after_first (λ more. pass (found ++ more)) (answers ps w)
  behind_found found [] w = ap (λ (bs : List Bool). done bs w) (sym (append-nil found))
  behind_found found (p ∷ ps) w = by (test_of p w) (λ more v. behind_found more ps v)
    where
      Later : Type 0
      Later = (more : List Bool) (v : W) → meet_each tester r lists more ps v ≡ after_first (λ rest. pass (more ++ rest)) (answers ps v)

      two : (b : Bool) (o : Outcome W (List Bool)) → after_first (λ more. pass ((found ++ b ∷ []) ++ more)) o ≡ after_first (λ more. pass (found ++ more)) (after_first (λ more. pass (b ∷ more)) o)
      two b (done more v) = ap (λ (bs : List Bool). done bs v) (append_assoc found (b ∷ []) more)
      two b (stopped s v) = refl

      by : (o : Outcome W Bool) → Later → after_first (λ more. meet_each tester r lists more ps) (after_first (λ b. pass (found ++ b ∷ [])) o) ≡ after_first (λ more. pass (found ++ more)) (after_first (λ b. answers ps >>= (λ more. pass (b ∷ more))) o)
      by (done b v) later = later (found ++ b ∷ []) v ∙ two b (answers ps v)
      by (stopped s v) later = refl

  -- behind none
  pub from_none : (ps : List Pair) (w : W) → meet_each tester r lists [] ps w ≡ answers ps w
  from_none ps w = behind_found [] ps w ∙ same (answers ps w)
    where
      same : (o : Outcome W (List Bool)) → after_first (λ more. pass more) o ≡ o
      same (done more v) = refl
      same (stopped s v) = refl

-- ---- lots in contact with one

module _ {W : Type 0} (tester : Tester W) (lots : List (Lot (Unit {0}))) (j : ℕ) (ps : List Part) (own : get_or (lot_parts lots) j [] ≡ ps) where
  -- the answers of its pairs with the lots at some places
  abbrev pub answers_with : List ℕ → Walk W (List Bool)
  answers_with ks = answers tester Touch (lot_parts lots) (map (pair_of j) ks)

  -- its test with the lot at a place
  test_there : (k : ℕ) (l : Lot (Unit {0})) → slice_get lots k ≡ Some l → (w : W) → test_of tester Touch (lot_parts lots) (pair_of j k) w ≡ touch_nearby tester ps l.parts w
  test_there k l at w = ap (λ (qs : List Part). touch_nearby tester qs (get_or (lot_parts lots) k []) w) own ∙ ap (λ (qs : List Part). touch_nearby tester ps qs w) (parts_there lots k l at)

  -- the walk over them finds the ids of those that meet
  pub touched_met : (ks : List ℕ) → AreWithin lots ks → (found : List Label) (w : W) → touched_lots tester found ps (lots_at lots ks) w ≡ after_first (λ met. pass (found ++ contact_ids lots ks met)) (answers_with ks w)
  touched_met [] h found w = ap (λ (ids : List Label). done ids w) (sym (append-nil found))
  touched_met (k ∷ ks) h found w =
      let item = get_some lots k h.0 in
      let l = item.0 in
      ap (λ (ls : List (Lot (Unit {0}))). touched_lots tester found ps ls w) (first_there lots k l item.1 ks)
      ∙ by l.id (id_there lots k l item.1) (touch_nearby tester ps l.parts w) (touched_met ks h.1)
      ∙ ap (after_first (λ met. pass (found ++ contact_ids lots (k ∷ ks) met))) (ap (after_first (λ b. answers_with ks >>= (λ more. pass (b ∷ more)))) (sym (test_there k l item.1 w)))
    where
      one : (x : Label) → id_at lots k ≡ x → (b : Bool) (o : Outcome W (List Bool)) →
          after_first (λ met. pass ((elim b as (λ _. List Label) [ true ↦ found ++ x ∷ [] | false ↦ found ]) ++ contact_ids lots ks met)) o ≡ after_first (λ met. pass (found ++ contact_ids lots (k ∷ ks) met)) (after_first (λ more. pass (b ∷ more)) o)
      one x e true (done more v) = ap (λ (ids : List Label). done ids v) (append_assoc found (x ∷ []) (contact_ids lots ks more) ∙ ap (λ (y : Label). found ++ y ∷ contact_ids lots ks more) (sym e))
      one x e false (done more v) = refl
      one x e b (stopped s v) = refl

      Later : Type 0
      Later = (found : List Label) (v : W) → touched_lots tester found ps (lots_at lots ks) v ≡ after_first (λ met. pass (found ++ contact_ids lots ks met)) (answers_with ks v)

      by : (x : Label) → id_at lots k ≡ x → (o : Outcome W Bool) → Later →
          after_first (λ more. touched_lots tester more ps (lots_at lots ks)) (after_first (touched_by found x) o) ≡ after_first (λ met. pass (found ++ contact_ids lots (k ∷ ks) met)) (after_first (λ b. answers_with ks >>= (λ more. pass (b ∷ more))) o)
      by x e (done b v) later = later (elim b as (λ _. List Label) [ true ↦ found ++ x ∷ [] | false ↦ found ]) v ∙ one x e b (answers_with ks v)
      by x e (stopped s v) later = refl

-- the pairs of a lot with others are within a list that is as long
pub pairs_within : {A B : Type 0} (xs : List A) (ys : List B) (j : ℕ) (ks : List ℕ) (pairs : List Pair) → length xs ≡ length ys → j < length ys → AreWithin ys ks → pairs ≡ map (pair_of j) ks → AllByRecursion (IsPairWithin xs) pairs
pairs_within {A = A} xs ys j ks pairs many own others is = subst (AllByRecursion (IsPairWithin xs)) (sym is) (by ks others)
  where
    by : (ks : List ℕ) → AreWithin ys ks → AllByRecursion (IsPairWithin xs) (map (pair_of j) ks)
    by [] h = tt
    by (k ∷ ks) h = ((subst (λ (n : ℕ). j < n) (sym many) own, subst (λ (n : ℕ). k < n) (sym many) h.0), by ks h.1)

-- ---- ids, one after the other

module _ (lines : List LotLine) (places : List ℕ) (met : List Bool) (i k d : ℕ) (e : Bool) (here : i < length places) (there : i < length met) (is : k ≡ get_or places i d) where
  -- the rest
  abbrev rest : List Label
  rest = contact_ids (map lot_of lines) (drop (i + 1) places) (drop (i + 1) met)

  -- the next one and the rest are left
  ids_left : (b : Bool) → get_or met i e ≡ b → contact_ids (map lot_of lines) (drop i places) (drop i met) ≡ cond b (id_at (map lot_of lines) k ∷ rest) rest
  ids_left b f = λ j. contact_ids (map lot_of lines) (drop_item places i k here (is ∙ get_or_default places i d k here) j) (drop_item met i b there (sym f ∙ get_or_default met i e b there) j)

  -- the id of a line
  line_id : (line : LotLine) → k < length lines → line ≡ get_or lines k line → id_at (map lot_of lines) k ≡ line.id
  line_id line within at =
      ap (λ (o : Option (Lot (Unit {0}))). elim o as (λ _. Label) [ None ↦ [] | Some l ↦ l.id ]) (slice_get-map lot_of lines k ∙ ap (option_map lot_of) (slice_get_read lines (length lines) k line refl within at))

  -- it is taken
  pub id_taken : (line : LotLine) (ids new all : List Label) → get_or met i e ≡ true → k < length lines → line ≡ get_or lines k line → new ≡ ids ++ line.id ∷ [] → ids ++ contact_ids (map lot_of lines) (drop i places) (drop i met) ≡ all → new ++ rest ≡ all
  id_taken line ids new all f within at more h =
      ap (λ (xs : List Label). xs ++ rest) more
      ∙ append_assoc ids (line.id ∷ []) rest
      ∙ ap (λ (x : Label). ids ++ x ∷ rest) (sym (line_id line within at))
      ∙ sym (ap (λ (xs : List Label). ids ++ xs) (ids_left true f))
      ∙ h

  -- it is passed over
  pub id_passed : (ids new all : List Label) → get_or met i e ≡ false → new ≡ ids → ids ++ contact_ids (map lot_of lines) (drop i places) (drop i met) ≡ all → new ++ rest ≡ all
  id_passed ids new all f same h = ap (λ (xs : List Label). xs ++ rest) same ∙ sym (ap (λ (xs : List Label). ids ++ xs) (ids_left false f)) ∙ h
