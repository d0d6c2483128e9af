-- Access between two lots: the links that weak tests find are those of contact, so that the levels and the chain along them are those of the lots.
use Rattle.std.proofs.Common.{◌≡◌, ℕ, zero, suc, ◌+◌, ◌<◌, ◌≤◌, Bool, true, false, not, cond, ◌&&◌, ◌||◌, ◌⊎◌, inl, inr, ⊎_elim, List, [], ◌∷◌, ◌++◌, length, refl, ap, sym, ◌∙◌, subst, arith, Option}
use Rattle.std.proofs.lemmas.List.{append_assoc, length-map}
use Rattle.std.proofs.lemmas.Bool.{or_cases, or_left, or_right, eqb-true, eq-eqb, cases_order}
use Rattle.std.proofs.lemmas.Slice.Eq.{bytes_eq-Decides}
use Rattle.std.specs.Prelude.{IsTrue, ◌↔◌, ◌==◌, Some, None}
use Rattle.std.specs.List.{AllByRecursion, slice_get}
use Rattle.rp_algebra.proofs.Listed.{Listed, first, later, listed_cases, listed_left, listed_right}
use Rattle.rp_algebra.proofs.Tests.{false_not_true, and_first, and_second, and_true}
use Rattle.rp_language.specs.Name.{Label, label_eq, is_among}
use Rattle.rp_geometry.specs.sets.Shape.{Shape, Part, shape_of_parts}
use Rattle.rp_geometry.specs.sets.Contact.{IsInContact}
use Rattle.rp_geometry.specs.parts.Groups.{is_linked}
use Rattle.rp_geometry.specs.parts.Levels.{levels_along, chain_along}
use Rattle.rp_geometry.specs.sets.Chain.{AreLevelsBy}
use Rattle.rp_geometry.specs.laws.ChainLaws.{AreLinkedBelow}
use Rattle.rp_geometry.specs.parts.Parts.{AreOf}
use Rattle.rp_semantics.specs.Walk.{Outcome, done, stopped, Tester, pass, after_first}
use Rattle.rp_semantics.specs.Form.{touch_nearby, touching_pair}
use Rattle.rp_semantics.specs.FormLaws.{IfDone, WalksAreRight}
use Rattle.rp_semantics.proofs.Outcomes.{then_done, after_done, weaker_done}
use Rattle.rp_model.specs.states.State.{Lot, StateOf, State, live_lots, lots_of_layer, layer_of_lot, layer_with_id, layer_lots, lot_with_id, ids_of, place_among}
use Rattle.rp_model.specs.states.Sound.{IsSoundWith}
use Rattle.rp_model.specs.commands.Verdict.{Refusal, access_lines}
use Rattle.rp_model.specs.commands.Checks.{refuse_if, and_then, check_live, check_layer, check_access}
use Rattle.rp_model.specs.commands.Parts.{numbered_lists, lot_parts, count_among}
use Rattle.rp_model.specs.commands.Access.{links_with_list, links_among_lists, row_access, AreInContactAt, tells_access, rule_access}
use Rattle.rp_algebra.proofs.Filter.{some_passes, passes_some}
use Rattle.rp_geometry.proofs.Members.{contact_turned}
use Rattle.rp_geometry.proofs.SameMembers.{same_back, contact_same}
use Rattle.rp_model.proofs.Refusals.{neither}
use Rattle.rp_chains.proofs.Related.{AreStepsOf, levels_there, chosen_there}
use Rattle.rp_chains.proofs.Levels.{levels_are_found_spec}
use Rattle.rp_chains.proofs.Down.{chain_is_found_spec}
use Rattle.rp_row_soundness.proofs.Outcomes.{names_done}
use Rattle.rp_row_soundness.proofs.Neighbours.{live_of_layer_are_of}
use Rattle.rp_language.specs.Expression.{ask_access, access_verb}
use Rattle.rp_model.specs.commands.Definition.{nothing_formed}
use Rattle.rp_model.specs.commands.Rule.{rule_after_labels}
use Rattle.rp_chains.proofs.One.{levels_are_one_by_spec, chain_is_one_by_spec}
use Rattle.rp_row_soundness.proofs.Stopped.{stopped_passed}
use Rattle.rp_row_soundness.proofs.OneAnswer.{IsOneAtMost, one_after_names}
use Rattle.rp_row_soundness.proofs.AfterForms.{asked}
use Rattle.rp_row_soundness.proofs.Laws.{Meets}
use Rattle.rp_row_soundness.proofs.Spoken.{IsSpoken, answers_speak, names_speak}

-- ---- the items of a list that is numbered from some number

-- the item has the number j in the list whose first number is m
data At {A : Type 0} (x : A) (j : ℕ) : ℕ → List A → Type 0 where
  here : {xs : List A} → At x j j (x ∷ xs)
  there : {m : ℕ} {y : A} {xs : List A} → At x j (m + 1) xs → At x j m (y ∷ xs)

-- nothing stands in an empty list
nowhere : {A : Type 0} (x : A) (j m : ℕ) → At x j m [] → ⊥
nowhere x j m a = elim a [ ]

-- the number is at least the first one
at_least : {A : Type 0} (x : A) (j m : ℕ) (xs : List A) → At x j m xs → m ≤ j
at_least x j m xs here = omega arith
at_least x j m (y ∷ xs) (there a) = let h = at_least x j (m + 1) xs a in omega (arith, h)

-- an item at a place has the number that the place gives
at_place : {A : Type 0} (xs : List A) (x : A) (m k : ℕ) → slice_get xs k ≡ Some x → At x (k + m) m xs
at_place [] x m k e = absurd (cc)
at_place (y ∷ xs) x m zero e =
    let same : x ≡ y = cc in
    let number : m ≡ zero + m = omega arith in
    subst (λ j. At x j m (y ∷ xs)) number (subst (λ z. At x m m (z ∷ xs)) same here)
at_place (y ∷ xs) x m (suc k) e =
    let number : k + (m + 1) ≡ suc k + m = omega arith in
    subst (λ j. At x j m (y ∷ xs)) number (there (at_place xs x (m + 1) k e))

-- the place of a number
record Place {A : Type 0} (x : A) (j m : ℕ) (xs : List A) : Type 0 where
  place : ℕ
  number : j ≡ place + m
  is : slice_get xs place ≡ Some x
  below : place < length xs

-- an item with a number stands at its place
place_at : {A : Type 0} (x : A) (j m : ℕ) (xs : List A) → At x j m xs → Place x j m xs
place_at x j m [] a = elim a [ ]
place_at x j m (y ∷ xs) here = record { place = 0; number = omega arith; is = refl; below = omega arith }
place_at x j m (y ∷ xs) (there a) =
    let r = place_at x j (m + 1) xs a in
    let e = r.number in
    let h = r.below in
    record { place = suc r.place; number = omega (arith, e); is = r.is; below = omega (arith, h) }

-- an item with a number, counted from 0
record Counted {A : Type 0} (x : A) (j : ℕ) (xs : List A) : Type 0 where
  is : slice_get xs j ≡ Some x
  below : j < length xs

-- it stands there
counted : {A : Type 0} (x : A) (j : ℕ) (xs : List A) → At x j 0 xs → Counted x j xs
counted x j xs a =
    let r = place_at x j 0 xs a in
    let e = r.number in
    let same : r.place ≡ j = omega (arith, e) in
    record { is = subst (λ k. slice_get xs k ≡ Some x) same r.is; below = subst (λ k. k < length xs) same r.below }

-- an item at a place, counted from 0
at_counted : {A : Type 0} (xs : List A) (x : A) (j : ℕ) → slice_get xs j ≡ Some x → At x j 0 xs
at_counted xs x j e = let number : j + 0 ≡ j = omega arith in subst (λ k. At x k 0 xs) number (at_place xs x 0 j e)

-- ---- the links of one lot, and of all

-- a link from the number k to a lot in contact with the set
record Reaches (k : ℕ) (a : Shape) (m : ℕ) (ls : List (Lot Shape)) (l : ℕ × ℕ) : Type 0 where
  from : l.0 ≡ k
  lot : Lot Shape
  at : At lot l.1 m ls
  touch : IsInContact a lot.set

-- a link between two lots in contact, the first of them before the other
record Ends (m : ℕ) (ls : List (Lot Shape)) (l : ℕ × ℕ) : Type 0 where
  one : Lot Shape
  other : Lot Shape
  one_at : At one l.0 m ls
  other_at : At other l.1 m ls
  rising : l.0 < l.1
  touch : IsInContact one.set other.set

-- the links for which the fact holds, behind those found before
record LinksBehind (F : ℕ × ℕ → Type 0) (found more : List (ℕ × ℕ)) : Type 0 where
  links : List (ℕ × ℕ)
  behind : more ≡ found ++ links
  there : (l : ℕ × ℕ) → Listed l links → F l
  back : (l : ℕ × ℕ) → F l → Listed l links

-- no links
no_links : (F : ℕ × ℕ → Type 0) (found : List (ℕ × ℕ)) → ((l : ℕ × ℕ) → F l → ⊥) → LinksBehind F found found
no_links F found none = record { links = []; behind = sym (append_nil found); there = λ l x. elim x [ ]; back = λ l f. absurd (none l f) }
  where
    append_nil : (xs : List (ℕ × ℕ)) → xs ++ [] ≡ xs
    append_nil [] = refl
    append_nil (x ∷ xs) = ap (λ ys. x ∷ ys) (append_nil xs)

module _ {W : Type 0} (P : Part → Type 0) (t : Tester W) (right : WalksAreRight P t) where
  -- the links of one lot with further ones
  links_with : (k : ℕ) (a : Shape) (ps : List Part) → AreOf P a ps → (m : ℕ) (ls : List (Lot Shape)) → AllByRecursion (λ l. AreOf P l.set l.parts) ls → (found : List (ℕ × ℕ)) (w : W)
      → IfDone (links_with_list t found (k, ps) (numbered_lists m (lot_parts ls)) w) (LinksBehind (Reaches k a m ls) found)
  links_with k a ps h m [] all found w = no_links (Reaches k a m []) found (λ l r. nowhere r.lot l.1 m r.at)
  links_with k a ps h m (b ∷ ls) all found w = by_touch (touch_nearby t ps b.parts w) (right.touches ps b.parts h.all all.0.all w).1 (links_with k a ps h (m + 1) ls all.1)
    where
      touches_set : IsInContact (shape_of_parts ps) (shape_of_parts b.parts) → IsInContact a b.set
      touches_set = contact_same (shape_of_parts ps) (shape_of_parts b.parts) a b.set h.members all.0.members

      touches_parts : IsInContact a b.set → IsInContact (shape_of_parts ps) (shape_of_parts b.parts)
      touches_parts = contact_same a b.set (shape_of_parts ps) (shape_of_parts b.parts) (same_back (shape_of_parts ps) a h.members) (same_back (shape_of_parts b.parts) b.set all.0.members)

      Rest : Type 0
      Rest = (found : List (ℕ × ℕ)) (w : W) → IfDone (links_with_list t found (k, ps) (numbered_lists (m + 1) (lot_parts ls)) w) (LinksBehind (Reaches k a (m + 1) ls) found)

      on : (l : ℕ × ℕ) → Reaches k a (m + 1) ls l → Reaches k a m (b ∷ ls) l
      on l r = record { from = r.from; lot = r.lot; at = there r.at; touch = r.touch }

      with_one : (more : List (ℕ × ℕ)) → IsInContact a b.set → LinksBehind (Reaches k a (m + 1) ls) (found ++ (k, m) ∷ []) more → LinksBehind (Reaches k a m (b ∷ ls)) found more
      with_one more c r = record { links = (k, m) ∷ r.links; behind = r.behind ∙ append_assoc found ((k, m) ∷ []) r.links; there = told; back = λ l f. listed l f.from f.lot f.at f.touch }
        where
          told : (l : ℕ × ℕ) → Listed l ((k, m) ∷ r.links) → Reaches k a m (b ∷ ls) l
          told l first = record { from = refl; lot = b; at = here; touch = c }
          told l (later x) = on l (r.there l x)

          listed : (l : ℕ × ℕ) → l.0 ≡ k → (d : Lot Shape) → At d l.1 m (b ∷ ls) → IsInContact a d.set → Listed l ((k, m) ∷ r.links)
          listed (i, j) e d here f = subst (λ v. Listed (v, j) ((k, j) ∷ r.links)) (sym e) first
          listed (i, j) e d (there x) f = later (r.back (i, j) (record { from = e; lot = d; at = x; touch = f }))

      without_one : (more : List (ℕ × ℕ)) → (IsInContact a b.set → ⊥) → LinksBehind (Reaches k a (m + 1) ls) found more → LinksBehind (Reaches k a m (b ∷ ls)) found more
      without_one more n r = record { links = r.links; behind = r.behind; there = λ l x. on l (r.there l x); back = λ l f. listed l f.from f.lot f.at f.touch }
        where
          listed : (l : ℕ × ℕ) → l.0 ≡ k → (d : Lot Shape) → At d l.1 m (b ∷ ls) → IsInContact a d.set → Listed l r.links
          listed (i, j) e d here f = absurd (n f)
          listed (i, j) e d (there x) f = r.back (i, j) (record { from = e; lot = d; at = x; touch = f })

      by_test : (c : Bool) (v : W) → IsTrue c ↔ IsInContact (shape_of_parts ps) (shape_of_parts b.parts) → Rest
          → IfDone (links_with_list t (elim c as (λ _. List (ℕ × ℕ)) [ true ↦ found ++ (k, m) ∷ [] | false ↦ found ]) (k, ps) (numbered_lists (m + 1) (lot_parts ls)) v) (LinksBehind (Reaches k a m (b ∷ ls)) found)
      by_test true v f rest =
          weaker_done (LinksBehind (Reaches k a (m + 1) ls) (found ++ (k, m) ∷ [])) (LinksBehind (Reaches k a m (b ∷ ls)) found) (links_with_list t (found ++ (k, m) ∷ []) (k, ps) (numbered_lists (m + 1) (lot_parts ls)) v)
          (rest (found ++ (k, m) ∷ []) v) (λ more. with_one more (touches_set (f.0 refl)))
      by_test false v f rest =
          weaker_done (LinksBehind (Reaches k a (m + 1) ls) found) (LinksBehind (Reaches k a m (b ∷ ls)) found) (links_with_list t found (k, ps) (numbered_lists (m + 1) (lot_parts ls)) v)
          (rest found v) (λ more. without_one more (λ c. false_not_true false (f.1 (touches_parts c)) refl))

      by_touch : (o : Outcome W Bool) → IfDone o (λ c. IsTrue c ↔ IsInContact (shape_of_parts ps) (shape_of_parts b.parts)) → Rest
          → IfDone (after_first (λ more. links_with_list t more (k, ps) (numbered_lists (m + 1) (lot_parts ls))) (after_first (λ touches. pass (elim touches as (λ _. List (ℕ × ℕ)) [ true ↦ found ++ (k, m) ∷ [] | false ↦ found ])) o))
          (LinksBehind (Reaches k a m (b ∷ ls)) found)
      by_touch (done c v) f rest = by_test c v f rest
      by_touch (stopped e v) f rest = tt

  -- the links of each two lots
  links_among : (m : ℕ) (ls : List (Lot Shape)) → AllByRecursion (λ l. AreOf P l.set l.parts) ls → (found : List (ℕ × ℕ)) (w : W) → IfDone (links_among_lists t found (numbered_lists m (lot_parts ls)) w) (LinksBehind (Ends m ls) found)
  links_among m [] all found w = no_links (Ends m []) found (λ l r. nowhere r.one l.0 m r.one_at)
  links_among m (a ∷ ls) all found w =
      then_done (LinksBehind (Reaches m a.set (m + 1) ls) found) (LinksBehind (Ends m (a ∷ ls)) found) (links_with_list t found (m, a.parts) (numbered_lists (m + 1) (lot_parts ls)) w) _
      (links_with m a.set a.parts all.0 (m + 1) ls all.1 found w)
      (λ more v r. weaker_done (LinksBehind (Ends (m + 1) ls) more) (LinksBehind (Ends m (a ∷ ls)) found) (links_among_lists t more (numbered_lists (m + 1) (lot_parts ls)) v) (links_among (m + 1) ls all.1 more v) (λ last. both more last r))
    where
      both : (more last : List (ℕ × ℕ)) → LinksBehind (Reaches m a.set (m + 1) ls) found more → LinksBehind (Ends (m + 1) ls) more last → LinksBehind (Ends m (a ∷ ls)) found last
      both more last r q = record {
        links = r.links ++ q.links;
        behind = q.behind ∙ ap (λ xs. xs ++ q.links) r.behind ∙ append_assoc found r.links q.links;
        there = λ l x. ⊎_elim (λ y. of_first l (r.there l y)) (λ y. of_later l (q.there l y)) (listed_cases l r.links q.links x);
        back = λ l e. listed l e.one e.other e.one_at e.other_at e.rising e.touch;
      }
        where
          of_first : (l : ℕ × ℕ) → Reaches m a.set (m + 1) ls l → Ends m (a ∷ ls) l
          of_first (i, j) e =
              let above = at_least e.lot j (m + 1) ls e.at in
              let from : i ≡ m = e.from in
              record { one = a; other = e.lot; one_at = subst (λ v. At a v m (a ∷ ls)) (sym from) here; other_at = there e.at; rising = omega (arith, above, from); touch = e.touch }

          of_later : (l : ℕ × ℕ) → Ends (m + 1) ls l → Ends m (a ∷ ls) l
          of_later l e = record { one = e.one; other = e.other; one_at = there e.one_at; other_at = there e.other_at; rising = e.rising; touch = e.touch }

          listed : (l : ℕ × ℕ) (c d : Lot Shape) → At c l.0 m (a ∷ ls) → At d l.1 m (a ∷ ls) → l.0 < l.1 → IsInContact c.set d.set → Listed l (r.links ++ q.links)
          listed (i, j) c d here here h f = absurd (omega (arith, h))
          listed (i, j) c d here (there y) h f = listed_left (i, j) r.links q.links (r.back (i, j) (record { from = refl; lot = d; at = y; touch = f }))
          listed (i, j) c d (there x) here h f = absurd (let k = at_least c i (j + 1) ls x in omega (arith, k, h))
          listed (i, j) c d (there x) (there y) h f = listed_right (i, j) r.links q.links (q.back (i, j) (record { one = c; other = d; one_at = x; other_at = y; rising = h; touch = f }))

-- ---- steps from lot to lot

-- two numbers are those of a pair, in one order or the other
abbrev are_ends : ℕ → ℕ → ℕ × ℕ → Bool
are_ends i j l = (l.0 == i && l.1 == j) || (l.0 == j && l.1 == i)

-- the links are those of contact, but for a lot and itself
steps_are_contacts : (ls : List (Lot Shape)) (links : List (ℕ × ℕ)) → LinksBehind (Ends 0 ls) [] links → AreStepsOf (AreLinkedBelow links (length ls)) (AreInContactAt ls)
steps_are_contacts ls links r = record { there = to; back = from }
  where
    to : (i j : ℕ) → AreLinkedBelow links (length ls) i j → AreInContactAt ls i j
    to i j (a, b, e) =
        let s = some_passes (are_ends i j) links e in
        let l = s.item in
        let d = r.there l (subst (λ xs. Listed l xs) r.behind s.listed) in
        ⊎_elim
        (λ (k : (l.0 == i && l.1 == j) ≡ true).
        let x : l.0 ≡ i = eqb-true l.0 i (and_first (l.0 == i) (l.1 == j) k) in
        let y : l.1 ≡ j = eqb-true l.1 j (and_second (l.0 == i) (l.1 == j) k) in
        (d.one, d.other, (counted d.one i ls (subst (λ v. At d.one v 0 ls) x d.one_at)).is, (counted d.other j ls (subst (λ v. At d.other v 0 ls) y d.other_at)).is, d.touch))
        (λ (k : (l.0 == j && l.1 == i) ≡ true).
        let x : l.0 ≡ j = eqb-true l.0 j (and_first (l.0 == j) (l.1 == i) k) in
        let y : l.1 ≡ i = eqb-true l.1 i (and_second (l.0 == j) (l.1 == i) k) in
        (d.other, d.one, (counted d.other i ls (subst (λ v. At d.other v 0 ls) y d.other_at)).is, (counted d.one j ls (subst (λ v. At d.one v 0 ls) x d.one_at)).is, contact_turned d.one.set d.other.set d.touch))
        (or_cases (l.0 == i && l.1 == j) (l.0 == j && l.1 == i) s.passes)

    listed : (l : ℕ × ℕ) → Ends 0 ls l → Listed l links
    listed l e = subst (λ xs. Listed l xs) (sym r.behind) (r.back l e)

    in_order : (i j : ℕ) (one other : Lot Shape) → At one i 0 ls → At other j 0 ls → IsInContact one.set other.set → i < j → is_linked links i j ≡ true
    in_order i j one other x y c h =
        passes_some (are_ends i j) links (i, j) (listed (i, j) (record { one = one; other = other; one_at = x; other_at = y; rising = h; touch = c }))
        (or_left (i == i && j == j) (i == j && j == i) (and_true (i == i) (j == j) (eq-eqb i i refl) (eq-eqb j j refl)))

    turned : (i j : ℕ) (one other : Lot Shape) → At one i 0 ls → At other j 0 ls → IsInContact one.set other.set → j < i → is_linked links i j ≡ true
    turned i j one other x y c h =
        passes_some (are_ends i j) links (j, i) (listed (j, i) (record { one = other; other = one; one_at = y; other_at = x; rising = h; touch = contact_turned one.set other.set c }))
        (or_right (j == i && i == j) (j == j && i == i) (and_true (j == j) (i == i) (eq-eqb j j refl) (eq-eqb i i refl)))

    from : (i j : ℕ) → AreInContactAt ls i j → AreLinkedBelow links (length ls) i j ⊎ (i ≡ j)
    from i j (one, other, e, f, c) =
        let x = at_counted ls one i e in
        let y = at_counted ls other j f in
        let a = (counted one i ls x).below in
        let b = (counted other j ls y).below in
        ⊎_elim
        (λ (s : i ≡ j). inr s)
        (⊎_elim
        (λ (h : i < j). inl (a, b, in_order i j one other x y c h))
        (λ (h : j < i). inl (a, b, turned i j one other x y c h)))
        (cases_order i j)

-- ---- the places of ids

-- an id that stands in a list has its place there
among_place : (x : Label) (xs : List Label) → is_among x xs ≡ true → place_among x xs < length xs
among_place x [] e = absurd (cc)
among_place x (y ∷ xs) e = by_test (label_eq x y) e (among_place x xs)
  where
    by_test : (b : Bool) → (b || is_among x xs) ≡ true → (is_among x xs ≡ true → place_among x xs < length xs) → (elim b as (λ _. ℕ) [ true ↦ 0 | false ↦ suc (place_among x xs) ]) < suc (length xs)
    by_test true f rest = omega arith
    by_test false f rest = let h = rest f in omega (arith, h)

-- the id of a lot stands among those of the lots of its layer
among_layer : {S : Type 0} (x : Label) (d : Label) (ls : List (Lot S)) → is_among x (ids_of ls) ≡ true → is_among x (ids_of (lots_of_layer (layer_of_lot d (lot_with_id x ls)) ls)) ≡ true
among_layer x d [] e = absurd (cc)
among_layer {S = S} x d (l ∷ ls) e = by_id (label_eq x l.id) refl e (among_layer x d ls)
  where
    kept : (b : Bool) (rest : List (Lot S)) → b ≡ true → label_eq x l.id ≡ true → is_among x (ids_of (cond b (l ∷ rest) rest)) ≡ true
    kept true rest f g = or_left (label_eq x l.id) (is_among x (ids_of rest)) g
    kept false rest f g = absurd (cc)

    still : (b : Bool) (rest : List (Lot S)) → is_among x (ids_of rest) ≡ true → is_among x (ids_of (cond b (l ∷ rest) rest)) ≡ true
    still true rest f = or_right (label_eq x l.id) (is_among x (ids_of rest)) f
    still false rest f = f

    by_id : (b : Bool) → label_eq x l.id ≡ b → (b || is_among x (ids_of ls)) ≡ true → (is_among x (ids_of ls) ≡ true → is_among x (ids_of (lots_of_layer (layer_of_lot d (lot_with_id x ls)) ls)) ≡ true)
        → is_among x (ids_of (lots_of_layer (layer_of_lot d (elim b [ true ↦ Some l | false ↦ lot_with_id x ls ])) (l ∷ ls))) ≡ true
    by_id true g f rest = kept (label_eq l.layer l.layer) (lots_of_layer l.layer ls) ((bytes_eq-Decides l.layer l.layer).1 refl) g
    by_id false g f rest = still (label_eq l.layer (layer_of_lot d (lot_with_id x ls))) (lots_of_layer (layer_of_lot d (lot_with_id x ls)) ls) (rest f)

-- a check that refused nothing
refused_nothing : (b : Bool) (r : Refusal) → refuse_if (not b) r ≡ None → b ≡ true
refused_nothing true r e = refl
refused_nothing false r e = absurd (cc)

-- both ids have a place among the lots of the layer, where the checks refuse nothing
pub places_below : {S : Type 0} (s : StateOf S) (x y : Label) → check_access s x y ≡ None → (place_among x (ids_of (layer_lots s x)) < length (ids_of (layer_lots s x))) × (place_among y (ids_of (layer_lots s x)) < length (ids_of (layer_lots s x)))
places_below s x y e =
    let a = neither (check_live s x) (and_then (check_live s y) (check_layer s (layer_with_id s x) y)) e in
    let b = neither (check_live s y) (check_layer s (layer_with_id s x) y) a.1 in
    let x_live : is_among x (ids_of (live_lots s.lots)) ≡ true = refused_nothing (is_among x (ids_of (live_lots s.lots))) _ a.0 in
    let y_live : is_among y (ids_of (live_lots s.lots)) ≡ true = refused_nothing (is_among y (ids_of (live_lots s.lots))) _ b.0 in
    let one_layer : layer_with_id s y ≡ layer_with_id s x = (bytes_eq-Decides (layer_with_id s y) (layer_with_id s x)).0 (refused_nothing (label_eq (layer_with_id s y) (layer_with_id s x)) _ b.1) in
    let y_among : is_among y (ids_of (layer_lots s x)) ≡ true = subst (λ z. is_among y (ids_of (lots_of_layer z (live_lots s.lots))) ≡ true) one_layer (among_layer y s.layer (live_lots s.lots) y_live) in
    (among_place x (ids_of (layer_lots s x)) (among_layer x s.layer (live_lots s.lots) x_live), among_place y (ids_of (layer_lots s x)) y_among)

-- ---- the row

-- the links of the lots tell the chain and the levels
links_tell : (ls : List (Lot Shape)) (x y : Label) (links : List (ℕ × ℕ)) → place_among x (ids_of ls) < length (ids_of ls) → place_among y (ids_of ls) < length (ids_of ls) → AreStepsOf (AreLinkedBelow links (length ls)) (AreInContactAt ls)
    → tells_access ls x y (access_lines (ids_of ls) (chain_along links (length (ids_of ls)) (place_among x (ids_of ls)) (place_among y (ids_of ls))) (levels_along links (length (ids_of ls)) (place_among y (ids_of ls))))
links_tell ls x y links x_below y_below steps = (
  chain_along links n from last,
  levels_along links n last,
  chosen_there (AreLinkedBelow links n) (AreInContactAt ls) there from last (chain_along links n from last) (chain_is_found_spec links n from last x_below y_below),
  subst (λ k. AreLevelsBy (AreInContactAt ls) k last (levels_along links n last)) as_many (levels_there (AreLinkedBelow links n) (AreInContactAt ls) there n last (levels_along links n last) (levels_are_found_spec links n last y_below)),
  refl,
)
  where
    n : ℕ
    n = length (ids_of ls)

    from : ℕ
    from = place_among x (ids_of ls)

    last : ℕ
    last = place_among y (ids_of ls)

    as_many : n ≡ length ls
    as_many = length-map ls (λ l. l.id)

    there : AreStepsOf (AreLinkedBelow links n) (AreInContactAt ls)
    there = subst (λ k. AreStepsOf (AreLinkedBelow links k) (AreInContactAt ls)) (sym as_many) steps

-- the access between two lots
pub access_meets : {W : Type 0} (P : Part → Type 0) (t : Tester W) → WalksAreRight P t → (s : State) → IsSoundWith P s → (x y : Label) (w : W) → IfDone (row_access t s x y w) (λ r. rule_access s x y r.verdicts)
access_meets P t right s sound x y w =
    weaker_done (λ r. rule_access s x y r.verdicts × Unit {0}) (λ r. rule_access s x y r.verdicts) (row_access t s x y w)
    (names_done (λ _. Unit {0}) (check_access s x y) (tells_access (layer_lots s x) x y) _ w (λ r. tt)
    (λ e. let below = places_below s x y e in
    after_done (λ r. tells_access (layer_lots s x) x y r.verdicts × Unit {0}) (t.count (count_among touching_pair (lot_parts (layer_lots s x))) w) _
    (λ _ v. then_done (LinksBehind (Ends 0 (layer_lots s x)) []) (λ r. tells_access (layer_lots s x) x y r.verdicts × Unit {0}) (links_among_lists t [] (numbered_lists 0 (lot_parts (layer_lots s x))) v) _
    (links_among P t right 0 (layer_lots s x) (live_of_layer_are_of P s sound (layer_with_id s x)) [] v)
    (λ links u b. (links_tell (layer_lots s x) x y links below.0 below.1 (steps_are_contacts (layer_lots s x) links b), tt)))))
    (λ r k. k.0)

-- the chain and the levels of some lots
one_access : (ls : List (Lot Shape)) (x y : Label) → IsOneAtMost (tells_access ls x y)
one_access ls x y given other (chosen, levels, is, are, e) (chosen_too, levels_too, is_too, are_too, f) =
    e ∙ ap (λ o. access_lines (ids_of ls) o levels) (chain_is_one_by_spec (AreInContactAt ls) (place_among x (ids_of ls)) (place_among y (ids_of ls)) chosen chosen_too is is_too)
    ∙ ap (λ ks. access_lines (ids_of ls) chosen_too ks) (levels_are_one_by_spec (AreInContactAt ls) (length ls) (place_among y (ids_of ls)) levels levels_too are are_too) ∙ sym f

-- a chain, or that there is none
access_speaks : (ids : List Label) (chosen : Option (List ℕ)) (levels : List (Option ℕ)) → IsSpoken (access_lines ids chosen levels)
access_speaks ids None levels = tt
access_speaks ids (Some places) levels = tt

-- the laws of access
pub access_laws : Meets access_verb
access_laws = record {
  replies = λ P t right s sound (x, (y, end)) kept w. asked P t right s sound (rule_after_labels s nothing_formed (ask_access x y)) (row_access t s x y w) (access_meets P t right s sound x y w);
  passed = λ P t right s sound (x, (y, end)) kept w. stopped_passed (check_access s x y) _ w;
  one = λ exclude pieces s formed h (x, (y, end)). one_after_names (check_access s x y) (tells_access (layer_lots s x) x y) (one_access (layer_lots s x) x y);
  speaks = λ s formed (x, (y, end)). names_speak (check_access s x y) _ (λ given h. answers_speak _ (access_speaks _ h.0 h.1) given h.4);
}
