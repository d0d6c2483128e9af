-- Lots have their boxes moved, id by id, in the index of a layer.
use Rattle.std.proofs.Common.{◌≡◌, ℕ, zero, suc, ◌/◌, ◌%◌, Bool, true, false, ◌||◌, List, [], ◌∷◌, ◌++◌, Some, None, is_some, slice_get, refl, sym, ap, ◌∙◌, subst, arith}
use Rattle.std.specs.Prelude.{IsTrue}
use Rattle.std.proofs.lemmas.Option.{slice_get_within}
use Rattle.rp_algebra.proofs.Tests.{false_not_true, false_unless}
use Rattle.rp_language.specs.Name.{Label, label_eq, is_among}
use Rattle.rp_model.specs.states.State.{Lot, lot_with_id, ids_of}
use Rattle.rp_model.specs.states.Sound.{are_distinct}
use Rattle.rp_states.proofs.Labels.{label_is, label_is_not, among_left, among_right, among_neither}
use Rattle.rp_history.proofs.Found.{first_alone, rest_distinct, found_has_id, there, own_place}
use Rattle.rp_boxindex.specs.Boxes.{Boxes}
use Rattle.rp_lotindex.specs.Indexed.{box_at, boxes_for, IsSettled, AreSettledAt}

-- two lots with one id stand at one place
one_place : {S : Type 0} (ls : List (Lot S)) → IsTrue (are_distinct (ids_of ls)) → (i k : ℕ) (l m : Lot S) → slice_get ls i ≡ Some l → slice_get ls k ≡ Some m → l.id ≡ m.id → i ≡ k
one_place [] d i k l m e f same = absurd (cc)
one_place (h ∷ ls) d zero zero l m e f same = refl
one_place (h ∷ ls) d zero (suc k) l m e f same =
    let own : h ≡ l = cc in
    absurd (false_not_true (is_among h.id (ids_of ls)) (subst (λ (x : Label). is_among x (ids_of ls) ≡ true) (sym (ap (λ (a : Lot _). a.id) own ∙ same)) (there ls k m f)) (first_alone h ls d))
one_place (h ∷ ls) d (suc i) zero l m e f same =
    let own : h ≡ m = cc in
    absurd (false_not_true (is_among h.id (ids_of ls)) (subst (λ (x : Label). is_among x (ids_of ls) ≡ true) (sym (ap (λ (a : Lot _). a.id) own ∙ sym same)) (there ls i l e)) (first_alone h ls d))
one_place (h ∷ ls) d (suc i) (suc k) l m e f same = let rest = one_place ls (rest_distinct h ls d) i k l m e f same in omega (arith, rest)

-- ---- one id

module _ (y : Label) (lots : List (Lot (Unit {0}))) (x : Label) (distinct : IsTrue (are_distinct (ids_of lots))) where
  -- the lot with the id is found at its place
  own_lot : (k : ℕ) (l : Lot (Unit {0})) → slice_get lots k ≡ Some l → label_eq l.id x ≡ true → lot_with_id x lots ≡ Some l
  own_lot k l at e = subst (λ (z : Label). lot_with_id z lots ≡ Some l) (label_is l.id x e) (own_place lots distinct k l at)

  -- the boxes at its place are moved
  pub place_settled : (p : ℕ) (m : Lot (Unit {0})) (old new : Boxes) → slice_get lots p ≡ Some m → label_eq m.id x ≡ true → IsSettled old new p (boxes_for y m) → AreSettledAt y lots (λ z. label_eq z x) old new
  place_settled p m old new there its h = let found = own_lot p m there its in record {
    settled = λ id l at e has.
        let own : m ≡ l = (let f = own_lot (id / 16) l at e in cc (found, f)) in
        let same : p ≡ id / 16 = one_place lots distinct p (id / 16) m l there at (ap (λ (n : Lot (Unit {0})). n.id) own) in
        h.here id (sym same) (has ∙ ap (λ (n : Lot (Unit {0})). is_some (slice_get (boxes_for y n) (id % 16))) (sym own)) ∙ ap (λ (n : Lot (Unit {0})). slice_get (boxes_for y n) (id % 16)) own;
    kept = λ id l at e. h.rest id (λ same. label_is_not l.id x e (sym (label_is x l.id (found_has_id x lots l (found ∙ sym there ∙ subst (λ (i : ℕ). slice_get lots i ≡ Some l) same at)))));
    rest = λ id f. h.rest id (λ same. absurd (let within = slice_get_within lots p m there in omega (arith, f, within, same)));
  }

  -- there is no lot with the id
  pub none_settled : (m : Boxes) → lot_with_id x lots ≡ None → AreSettledAt y lots (λ z. label_eq z x) m m
  none_settled m none = record {
    settled = λ id l at e has. absurd (let found = own_lot (id / 16) l at e in cc (none, found));
    kept = λ id l at e. refl;
    rest = λ id f. refl;
  }

-- ---- several ids

-- one id more
pub settled_next : (y : Label) (lots : List (Lot (Unit {0}))) (xs ys : List Label) (x : Label) (old m new : Boxes) → ys ≡ xs ++ x ∷ [] → AreSettledAt y lots (λ z. is_among z xs) old m → AreSettledAt y lots (λ z. label_eq z x) m new → AreSettledAt y lots (λ z. is_among z ys) old new
settled_next y lots xs ys x old m new same h one = record {
  settled = λ id l at e has. by id l at (subst (λ (zs : List Label). is_among l.id zs ≡ true) same e) has (label_eq l.id x) refl;
  kept = λ id l at e. let g = subst (λ (zs : List Label). is_among l.id zs ≡ false) same e in one.kept id l at (not_last l.id g) ∙ h.kept id l at (not_left l.id g);
  rest = λ id f. one.rest id f ∙ h.rest id f;
}
  where
    or_false : (b : Bool) → (b || false) ≡ b
    or_false true = refl
    or_false false = refl

    not_left : (z : Label) → is_among z (xs ++ x ∷ []) ≡ false → is_among z xs ≡ false
    not_left z e = false_unless (is_among z xs) (λ f. false_not_true (is_among z (xs ++ x ∷ [])) (among_left z xs (x ∷ []) f) e)

    not_last : (z : Label) → is_among z (xs ++ x ∷ []) ≡ false → label_eq z x ≡ false
    not_last z e = false_unless (label_eq z x) (λ f. false_not_true (is_among z (xs ++ x ∷ [])) (among_right z xs (x ∷ []) (or_false (label_eq z x) ∙ f)) e)

    -- a lot has as many boxes in between, too
    between : (id : ℕ) (l : Lot (Unit {0})) → slice_get lots (id / 16) ≡ Some l → is_some (box_at old id) ≡ is_some (slice_get (boxes_for y l) (id % 16)) → (b : Bool) → is_among l.id xs ≡ b → is_some (box_at m id) ≡ is_some (slice_get (boxes_for y l) (id % 16))
    between id l at has true f = ap is_some (h.settled id l at f has)
    between id l at has false f = ap is_some (h.kept id l at f) ∙ has

    by : (id : ℕ) (l : Lot (Unit {0})) → slice_get lots (id / 16) ≡ Some l → is_among l.id (xs ++ x ∷ []) ≡ true → is_some (box_at old id) ≡ is_some (slice_get (boxes_for y l) (id % 16)) → (b : Bool) → label_eq l.id x ≡ b → box_at new id ≡ slice_get (boxes_for y l) (id % 16)
    by id l at e has true g = one.settled id l at g (between id l at has (is_among l.id xs) refl)
    by id l at e has false g = one.kept id l at g ∙ h.settled id l at (earlier (is_among l.id xs) refl) has
      where
        earlier : (b : Bool) → is_among l.id xs ≡ b → is_among l.id xs ≡ true
        earlier true i = i
        earlier false i = absurd (false_not_true (is_among l.id (xs ++ x ∷ [])) e (among_neither l.id xs (x ∷ []) i (or_false (label_eq l.id x) ∙ g)))
