-- A lot that ends, at its place.
use Rattle.std.proofs.Common.{◌≡◌, ℕ, zero, suc, Bool, true, false, ◌&&◌, ◌||◌, cond, List, [], ◌∷◌, map, Some, None, slice_get, slice_set, refl, sym, ap, ap₂, ◌∙◌, subst}
use Rattle.std.specs.Prelude.{IsTrue}
use Rattle.std.proofs.lemmas.Bool.{or_parts}
use Rattle.rp_algebra.proofs.Tests.{and_true}
use Rattle.rp_language.specs.Name.{Label, label_eq, is_among}
use Rattle.rp_model.specs.states.State.{Lot, is_live, live_lots, live_lot, lot_with_id, ids_of, ended_at}
use Rattle.rp_model.specs.states.Sound.{are_distinct}
use Rattle.rp_states.proofs.Picked.{pick, ended_yes, ended_no}
use Rattle.rp_states.proofs.Labels.{label_is, label_itself, label_turned}
use Rattle.rp_history.proofs.Found.{first_alone, rest_distinct, found_has_id, found_is_live}

module _ {S : Type 0} (n : ℕ) (x : Label) where
  -- a lot with another id stays
  stays : (l : Lot S) → label_eq x l.id ≡ false → ended_at n (x ∷ []) l ≡ l
  stays l e = by (is_live l) (label_turned x l.id e)
    where
      by : (live : Bool) → label_eq l.id x ≡ false → (elim (live && (label_eq l.id x || false)) as (λ _. Lot S) [ true ↦ record l { ended = Some n } | false ↦ l ]) ≡ l
      by live f = ap (λ (b : Bool). elim (live && (b || false)) as (λ _. Lot S) [ true ↦ record l { ended = Some n } | false ↦ l ]) f ∙ none live
        where
          none : (live : Bool) → (elim (live && false) as (λ _. Lot S) [ true ↦ record l { ended = Some n } | false ↦ l ]) ≡ l
          none true = refl
          none false = refl

  -- lots with other ids stay
  all_stay : (ls : List (Lot S)) → is_among x (ids_of ls) ≡ false → map (ended_at n (x ∷ [])) ls ≡ ls
  all_stay [] e = refl
  all_stay (l ∷ ls) e = let p = or_parts (label_eq x l.id) (is_among x (ids_of ls)) e in ap₂ ◌∷◌ (stays l p.0) (all_stay ls p.1)

  -- a live lot with the id ends
  ends : (l : Lot S) → label_eq x l.id ≡ true → is_live l ≡ true → ended_at n (x ∷ []) l ≡ record l { ended = Some n }
  ends l e live = ended_yes n (x ∷ []) l (and_true _ _ live (ap (λ (b : Bool). b || false) (subst (λ (y : Label). label_eq l.id y ≡ true) (sym (label_is x l.id e)) (label_itself l.id))))

  -- the live lot with the id ends at its place, and all others stay
  pub end_at_place : (ls : List (Lot S)) → IsTrue (are_distinct (ids_of ls)) → (k : ℕ) (l : Lot S) → slice_get ls k ≡ Some l → label_eq x l.id ≡ true → is_live l ≡ true → slice_set ls k (record l { ended = Some n }) ≡ map (ended_at n (x ∷ [])) ls
  end_at_place [] d k l at e live = absurd (cc)
  end_at_place (h ∷ ls) d zero l at e live =
      let same : h ≡ l = cc in
      let others = all_stay ls (subst (λ (y : Label). is_among y (ids_of ls) ≡ false) (ap (λ (m : Lot S). m.id) same ∙ sym (label_is x l.id e)) (first_alone h ls d)) in
      ap₂ ◌∷◌ (sym (ends l e live) ∙ ap (ended_at n (x ∷ [])) (sym same)) (sym others)
  end_at_place (h ∷ ls) d (suc k) l at e live = ap₂ ◌∷◌ (sym (stays h other)) (end_at_place ls (rest_distinct h ls d) k l at e live)
    where
      there : (ms : List (Lot S)) (j : ℕ) → slice_get ms j ≡ Some l → is_among l.id (ids_of ms) ≡ true
      there [] j f = absurd (cc)
      there (m ∷ ms) zero f = let same : m ≡ l = cc in ap (λ (b : Bool). b || is_among l.id (ids_of ms)) (subst (λ (y : Lot S). label_eq l.id y.id ≡ true) (sym same) (label_itself l.id))
      there (m ∷ ms) (suc j) f = either (label_eq l.id m.id) (there ms j f)
        where
          either : (b : Bool) {c : Bool} → c ≡ true → (b || c) ≡ true
          either true g = refl
          either false g = g

      other : label_eq x h.id ≡ false
      other = by (label_eq x h.id) refl
        where
          by : (b : Bool) → label_eq x h.id ≡ b → b ≡ false
          by false f = refl
          by true f =
              let same : h.id ≡ l.id = sym (label_is x h.id f) ∙ label_is x l.id e in
              let twice : is_among h.id (ids_of ls) ≡ true = subst (λ (y : Label). is_among y (ids_of ls) ≡ true) (sym same) (there ls k at) in
              let alone = first_alone h ls d in
              absurd (cc)

  -- a lot that has ended stays
  pub stays_ended : (l : Lot S) → is_live l ≡ false → ended_at n (x ∷ []) l ≡ l
  stays_ended l e = ended_no n (x ∷ []) l (ap (λ (b : Bool). b && is_among l.id (x ∷ [])) e)

  -- where no live lot has the id, nothing ends
  pub none_ends : (ls : List (Lot S)) → live_lot x ls ≡ None → map (ended_at n (x ∷ [])) ls ≡ ls
  none_ends [] e = refl
  none_ends (l ∷ ls) e = by (none_ends ls) (is_live l) refl (label_eq x l.id) refl e
    where
      by : (live_lot x ls ≡ None → map (ended_at n (x ∷ [])) ls ≡ ls) → (live : Bool) → is_live l ≡ live → (b : Bool) → label_eq x l.id ≡ b → lot_with_id x (cond live (l ∷ live_lots ls) (live_lots ls)) ≡ None → map (ended_at n (x ∷ [])) (l ∷ ls) ≡ l ∷ ls
      by later false f b g h = ap₂ ◌∷◌ (stays_ended l f) (later h)
      by later true f false g h = ap₂ ◌∷◌ (stays l g) (later (sym (ap (λ (b : Bool). pick b (Some l) (lot_with_id x (live_lots ls))) g) ∙ h))
      by later true f true g h = let found : Some l ≡ None = sym (ap (λ (b : Bool). pick b (Some l) (lot_with_id x (live_lots ls))) g) ∙ h in absurd (cc)

-- one lot ends first, and then the others
pub ends_first : {S : Type 0} (n : ℕ) (x : Label) (xs : List Label) (ls : List (Lot S)) → map (ended_at n xs) (map (ended_at n (x ∷ [])) ls) ≡ map (ended_at n (x ∷ xs)) ls
ends_first n x xs [] = refl
ends_first {S = S} n x xs (l ∷ ls) = ap₂ ◌∷◌ (one (is_live l) refl (label_eq l.id x) refl) (ends_first n x xs ls)
  where
    after : (b : Bool) → label_eq l.id x ≡ b → (is_live l && is_among l.id (x ∷ [])) ≡ (is_live l && (b || false))
    after b f = ap (λ (c : Bool). is_live l && (c || false)) f

    all : (b : Bool) → label_eq l.id x ≡ b → (is_live l && is_among l.id (x ∷ xs)) ≡ (is_live l && (b || is_among l.id xs))
    all b f = ap (λ (c : Bool). is_live l && (c || is_among l.id xs)) f

    one : (live : Bool) → is_live l ≡ live → (b : Bool) → label_eq l.id x ≡ b → ended_at n xs (ended_at n (x ∷ []) l) ≡ ended_at n (x ∷ xs) l
    one false e b f =
        ap (ended_at n xs) (stays_ended n x l e) ∙ ended_no n xs l (ap (λ (c : Bool). c && is_among l.id xs) e) ∙ sym (ended_no n (x ∷ xs) l (ap (λ (c : Bool). c && is_among l.id (x ∷ xs)) e))
    one true e true f =
        ap (ended_at n xs) (ended_yes n (x ∷ []) l (after true f ∙ ap (λ (c : Bool). c && true) e))
        ∙ ended_no n xs (record l { ended = Some n }) refl
        ∙ sym (ended_yes n (x ∷ xs) l (all true f ∙ ap (λ (c : Bool). c && true) e))
    one true e false f =
        ap (ended_at n xs) (ended_no n (x ∷ []) l (after false f ∙ ap (λ (c : Bool). c && false) e))
        ∙ ap (λ (c : Bool). pick (is_live l && c) (record l { ended = Some n }) l) (sym (ap (λ (c : Bool). c || is_among l.id xs) f))

-- nothing ends where no ids are given
pub ends_none : {S : Type 0} (n : ℕ) (ls : List (Lot S)) → map (ended_at n []) ls ≡ ls
ends_none n [] = refl
ends_none {S = S} n (l ∷ ls) = ap₂ ◌∷◌ (one (is_live l)) (ends_none n ls)
  where
    one : (live : Bool) → pick (live && false) (record l { ended = Some n }) l ≡ l
    one true = refl
    one false = refl

-- the live lot of a place ends there
pub ended_there : {S : Type 0} (n : ℕ) (x : Label) (ls : List (Lot S)) → IsTrue (are_distinct (ids_of ls)) → (k : ℕ) (l : Lot S) → slice_get ls k ≡ Some l → slice_get ls k ≡ live_lot x ls → slice_set ls k (record l { ended = Some n }) ≡ map (ended_at n (x ∷ [])) ls
ended_there n x ls d k l at same = let found = sym same ∙ at in end_at_place n x ls d k l at (found_has_id x (live_lots ls) l found) (found_is_live x ls l found)
