-- Lots are found by their ids.
use Rattle.std.proofs.Common.{◌≡◌, ℕ, zero, suc, ◌+◌, ◌-◌, ◌≤◌, Bool, true, false, ◌||◌, cond, not, List, [], ◌∷◌, filter, Option, Some, None, slice_get, is_some, is_none, refl, sym, ap, ◌∙◌, subst, arith}
use Rattle.std.specs.Prelude.{IsTrue, IfSome, position}
use Rattle.std.specs.List.{position_from}
use Rattle.std.specs.Option.{option_and_then}
use Rattle.std.proofs.lemmas.Bool.{or_parts, or_left, or_right, not-true}
use Rattle.std.proofs.lemmas.Iterator.Adapters.{position_from-zero}
use Rattle.rp_algebra.proofs.Tests.{and_first, and_second}
use Rattle.rp_language.specs.Name.{Label, label_eq, is_among}
use Rattle.rp_model.specs.states.State.{Lot, is_live, live_lots, live_lot, lot_with_id, ids_of}
use Rattle.rp_model.specs.states.Sound.{are_distinct}
use Rattle.rp_states.proofs.Picked.{pick}
use Rattle.rp_states.proofs.Listing.{all_passed, all_true}
use Rattle.rp_states.proofs.Looked.{true_of_found}
use Rattle.rp_states.proofs.Labels.{label_is, label_itself}

-- what is none, as a test
pub none_if_not_some : {A : Type 0} (o : Option A) (b : Bool) → is_some o ≡ not b → is_none o ≡ b
none_if_not_some None true e = refl
none_if_not_some None false e = absurd (cc)
none_if_not_some (Some x) true e = absurd (cc)
none_if_not_some (Some x) false e = refl

module _ {S : Type 0} where
  -- the lot at a place, where places are numbered from n
  abbrev pub lot_from : ℕ → List (Lot S) → Option ℕ → Option (Lot S)
  lot_from n ls r = option_and_then (λ k. slice_get ls (k - n)) r

  -- a place behind the first
  later_place : (n : ℕ) (l : Lot S) (ls : List (Lot S)) (r : Option ℕ) → IfSome r (λ k. n + 1 ≤ k) → lot_from n (l ∷ ls) r ≡ lot_from (n + 1) ls r
  later_place n l ls None h = refl
  later_place n l ls (Some k) h =
      let e : k - n ≡ suc (k - (n + 1)) = omega arith in
      ap (slice_get (l ∷ ls)) e

  -- the first place of an id, numbered from n
  first_place : (x : Label) (n : ℕ) (ls : List (Lot S)) → (lot_from n ls (position_from (label_eq x) n (ids_of ls)) ≡ lot_with_id x ls) × IfSome (position_from (label_eq x) n (ids_of ls)) (λ k. n ≤ k)
  first_place x n [] = (refl, tt)
  first_place x n (l ∷ ls) = by (label_eq x l.id) (first_place x (n + 1) ls)
    where
      at_once : slice_get (l ∷ ls) (n - n) ≡ Some l
      at_once = let e : n - n ≡ 0 = omega arith in ap (slice_get (l ∷ ls)) e

      above : (r : Option ℕ) → IfSome r (λ k. n + 1 ≤ k) → IfSome r (λ k. n ≤ k)
      above None h = tt
      above (Some k) h = omega arith

      by : (b : Bool) → (lot_from (n + 1) ls (position_from (label_eq x) (n + 1) (ids_of ls)) ≡ lot_with_id x ls) × IfSome (position_from (label_eq x) (n + 1) (ids_of ls)) (λ k. n + 1 ≤ k) →
          (lot_from n (l ∷ ls) (cond b (Some n) (position_from (label_eq x) (n + 1) (ids_of ls))) ≡ pick b (Some l) (lot_with_id x ls)) × IfSome (cond b (Some n) (position_from (label_eq x) (n + 1) (ids_of ls))) (λ k. n ≤ k)
      by true later = (at_once, omega arith)
      by false later = (later_place n l ls (position_from (label_eq x) (n + 1) (ids_of ls)) later.1 ∙ later.0, above (position_from (label_eq x) (n + 1) (ids_of ls)) later.1)

  -- the place of an id has its lot
  pub found_at_place : (x : Label) (ls : List (Lot S)) → option_and_then (λ k. slice_get ls k) (position (label_eq x) (ids_of ls)) ≡ lot_with_id x ls
  found_at_place x ls =
      ap (option_and_then (λ k. slice_get ls k)) (position_from-zero (label_eq x) (ids_of ls))
      ∙ same (position_from (label_eq x) 0 (ids_of ls))
      ∙ (first_place x 0 ls).0
    where
      same : (r : Option ℕ) → option_and_then (λ k. slice_get ls k) r ≡ lot_from 0 ls r
      same None = refl
      same (Some k) = let e : k ≡ k - 0 = omega arith in ap (slice_get ls) e

  -- a lot that is found has the id
  pub found_has_id : (x : Label) (ls : List (Lot S)) (l : Lot S) → lot_with_id x ls ≡ Some l → label_eq x l.id ≡ true
  found_has_id x [] l e = absurd (cc)
  found_has_id x (h ∷ ls) l e = by (label_eq x h.id) refl e (found_has_id x ls l)
    where
      by : (b : Bool) → label_eq x h.id ≡ b → pick b (Some h) (lot_with_id x ls) ≡ Some l → (lot_with_id x ls ≡ Some l → label_eq x l.id ≡ true) → label_eq x l.id ≡ true
      by true f g later = let same : h ≡ l = cc in subst (λ (k : Lot S). label_eq x k.id ≡ true) same f
      by false f g later = later g

  -- no lot is found under an id that is not there
  pub none_found : (x : Label) (ls : List (Lot S)) → is_among x (ids_of ls) ≡ false → lot_with_id x ls ≡ None
  none_found x [] e = refl
  none_found x (l ∷ ls) e = let p = or_parts (label_eq x l.id) (is_among x (ids_of ls)) e in ap (λ (b : Bool). pick b (Some l) (lot_with_id x ls)) p.0 ∙ none_found x ls p.1

  -- an id is there where a lot is found
  pub there_if_found : (x : Label) (ls : List (Lot S)) (l : Lot S) → lot_with_id x ls ≡ Some l → is_among x (ids_of ls) ≡ true
  there_if_found x ls l e = by (is_among x (ids_of ls)) refl
    where
      by : (b : Bool) → is_among x (ids_of ls) ≡ b → is_among x (ids_of ls) ≡ true
      by true f = f
      by false f = let n = none_found x ls f in absurd (cc)

  -- no lot is found: the id is not there
  pub not_there : (x : Label) (ls : List (Lot S)) → lot_with_id x ls ≡ None → is_among x (ids_of ls) ≡ false
  not_there x [] e = refl
  not_there x (l ∷ ls) e = by (label_eq x l.id) e (not_there x ls)
    where
      by : (b : Bool) → pick b (Some l) (lot_with_id x ls) ≡ None → (lot_with_id x ls ≡ None → is_among x (ids_of ls) ≡ false) → (b || is_among x (ids_of ls)) ≡ false
      by true f later = absurd (cc)
      by false f later = later f

  -- the lot, if the test passes it
  abbrev pub if_passed : (Lot S → Bool) → Option (Lot S) → Option (Lot S)
  if_passed test None = None
  if_passed test (Some l) = pick (test l) (Some l) None

  -- ids of picked lots are ids of lots
  pub picked_not_there : (test : Lot S → Bool) (x : Label) (ls : List (Lot S)) → is_among x (ids_of ls) ≡ false → is_among x (ids_of (filter test ls)) ≡ false
  picked_not_there test x [] e = e
  picked_not_there test x (l ∷ ls) e =
      let p = or_parts (label_eq x l.id) (is_among x (ids_of ls)) e in
      by (test l) p.0 (picked_not_there test x ls p.1)
    where
      by : (b : Bool) → label_eq x l.id ≡ false → is_among x (ids_of (filter test ls)) ≡ false → is_among x (ids_of (cond b (l ∷ filter test ls) (filter test ls))) ≡ false
      by true f later = ap (λ (b : Bool). b || is_among x (ids_of (filter test ls))) f ∙ later
      by false f later = later

  -- the first id stands not among the later ones
  pub first_alone : (l : Lot S) (ls : List (Lot S)) → IsTrue (are_distinct (ids_of (l ∷ ls))) → is_among l.id (ids_of ls) ≡ false
  first_alone l ls d = not-true _ (and_first _ _ d)

  -- the later ids are distinct
  pub rest_distinct : (l : Lot S) (ls : List (Lot S)) → IsTrue (are_distinct (ids_of (l ∷ ls))) → IsTrue (are_distinct (ids_of ls))
  rest_distinct l ls d = and_second (not (is_among l.id (ids_of ls))) _ d

  -- the picked lot with an id is the lot with the id, if it is picked
  pub picked_lot : (test : Lot S → Bool) (x : Label) (ls : List (Lot S)) → IsTrue (are_distinct (ids_of ls)) → lot_with_id x (filter test ls) ≡ if_passed test (lot_with_id x ls)
  picked_lot test x [] d = refl
  picked_lot test x (l ∷ ls) d = by (picked_lot test x ls (rest_distinct l ls d)) (label_eq x l.id) refl (test l) refl
    where
      by : lot_with_id x (filter test ls) ≡ if_passed test (lot_with_id x ls) → (b : Bool) → label_eq x l.id ≡ b → (p : Bool) → test l ≡ p → lot_with_id x (cond p (l ∷ filter test ls) (filter test ls)) ≡ if_passed test (pick b (Some l) (lot_with_id x ls))
      by later true e true f = ap (λ (b : Bool). pick b (Some l) (lot_with_id x (filter test ls))) e ∙ sym (ap (λ (b : Bool). pick b (Some l) None) f)
      by later true e false f =
          none_found x (filter test ls) (picked_not_there test x ls (subst (λ (y : Label). is_among y (ids_of ls) ≡ false) (sym (label_is x l.id e)) (first_alone l ls d)))
          ∙ sym (ap (λ (b : Bool). pick b (Some l) None) f)
      by later false e true f = ap (λ (b : Bool). pick b (Some l) (lot_with_id x (filter test ls))) e ∙ later
      by later false e false f = later

  -- an id is among those of picked lots where its lot is picked
  pub picked_there : (test : Lot S → Bool) (x : Label) (ls : List (Lot S)) → IsTrue (are_distinct (ids_of ls)) → (l : Lot S) → lot_with_id x ls ≡ Some l → is_among x (ids_of (filter test ls)) ≡ test l
  picked_there test x ls d l e = by (test l) refl
    where
      found : lot_with_id x (filter test ls) ≡ if_passed test (Some l)
      found = picked_lot test x ls d ∙ ap (if_passed test) e

      by : (b : Bool) → test l ≡ b → is_among x (ids_of (filter test ls)) ≡ test l
      by true f = there_if_found x (filter test ls) l (found ∙ ap (λ (b : Bool). pick b (Some l) None) f) ∙ sym f
      by false f = not_there x (filter test ls) (found ∙ ap (λ (b : Bool). pick b (Some l) None) f) ∙ sym f

  -- the lot of a place is the live lot with the id, if it is live
  pub live_at_place : (x : Label) (ls : List (Lot S)) → IsTrue (are_distinct (ids_of ls)) → (k : ℕ) (l : Lot S) → slice_get ls k ≡ Some l → slice_get ls k ≡ lot_with_id x ls → live_lot x ls ≡ pick (is_live l) (Some l) None
  live_at_place x ls d k l at same = picked_lot is_live x ls d ∙ ap (if_passed is_live) (sym same ∙ at)

  -- no lot, and so no live lot
  pub none_live : (x : Label) (ls : List (Lot S)) → lot_with_id x ls ≡ None → live_lot x ls ≡ None
  none_live x ls e = none_found x (live_lots ls) (picked_not_there is_live x ls (not_there x ls e))

  -- a live lot that is found is live
  pub found_is_live : (x : Label) (ls : List (Lot S)) (l : Lot S) → live_lot x ls ≡ Some l → is_live l ≡ true
  found_is_live x ls l e = true_of_found (λ (m : Lot S). is_live m ≡ true) x (live_lots ls) l (all_passed (λ (m : Lot S). is_live m ≡ true) is_live ls (all_true (λ (m : Lot S). is_live m ≡ true → is_live m ≡ true) (λ m f. f) ls)) e

-- the id of an item is there
pub there : {S : Type 0} (ls : List (Lot S)) (k : ℕ) (l : Lot S) → slice_get ls k ≡ Some l → is_among l.id (ids_of ls) ≡ true
there [] k l e = absurd (cc)
there (h ∷ ls) zero l e = let same : h ≡ l = cc in or_left (label_eq l.id h.id) (is_among l.id (ids_of ls)) (subst (λ (m : Lot _). label_eq l.id m.id ≡ true) (sym same) (label_itself l.id))
there (h ∷ ls) (suc k) l e = or_right (label_eq l.id h.id) (is_among l.id (ids_of ls)) (there ls k l e)

-- an item is the lot with its id
pub own_place : {S : Type 0} (ls : List (Lot S)) → IsTrue (are_distinct (ids_of ls)) → (k : ℕ) (l : Lot S) → slice_get ls k ≡ Some l → lot_with_id l.id ls ≡ Some l
own_place [] d k l e = absurd (cc)
own_place (h ∷ ls) d zero l e = let same : h ≡ l = cc in by (label_eq l.id h.id) (subst (λ (m : Lot _). label_eq l.id m.id ≡ true) (sym same) (label_itself l.id)) same
  where
    by : (b : Bool) → b ≡ true → h ≡ l → pick b (Some h) (lot_with_id l.id ls) ≡ Some l
    by true f same = ap Some same
    by false f same = absurd (cc)
own_place (h ∷ ls) d (suc k) l e = by (label_eq l.id h.id) refl (own_place ls (rest_distinct h ls d) k l e) (there ls k l e)
  where
    by : (b : Bool) → label_eq l.id h.id ≡ b → lot_with_id l.id ls ≡ Some l → is_among l.id (ids_of ls) ≡ true → pick b (Some h) (lot_with_id l.id ls) ≡ Some l
    by true f later t =
        let twice : is_among h.id (ids_of ls) ≡ true = subst (λ (y : Label). is_among y (ids_of ls) ≡ true) (label_is l.id h.id f) t in
        let alone = first_alone h ls d in
        absurd (cc)
    by false f later t = later

-- the first lot does not stand again behind itself
not_again : {S : Type 0} (h : Lot S) (ls : List (Lot S)) → IsTrue (are_distinct (ids_of (h ∷ ls))) → (k : ℕ) (l : Lot S) → Some h ≡ Some l → slice_get ls k ≡ Some l → ⊥
not_again {S = S} h ls d k l e f =
    let same : h ≡ l = cc in
    let alone = first_alone h ls d in
    let twice : is_among h.id (ids_of ls) ≡ true = subst (λ (m : Lot S). is_among m.id (ids_of ls) ≡ true) (sym same) (there ls k l f) in
    cc (alone, twice)

-- a lot has one place
pub one_place : {S : Type 0} (lots : List (Lot S)) → IsTrue (are_distinct (ids_of lots)) → (j k : ℕ) (l : Lot S) → slice_get lots j ≡ Some l → slice_get lots k ≡ Some l → j ≡ k
one_place [] d j k l e f = absurd (cc)
one_place (h ∷ ls) d zero zero l e f = refl
one_place (h ∷ ls) d zero (suc k) l e f = absurd (not_again h ls d k l e f)
one_place (h ∷ ls) d (suc j) zero l e f = absurd (not_again h ls d j l f e)
one_place (h ∷ ls) d (suc j) (suc k) l e f = ap suc (one_place ls (rest_distinct h ls d) j k l e f)
