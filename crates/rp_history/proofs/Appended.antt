-- Lots that are put behind others one after the other.
use Rattle.std.proofs.Common.{◌≡◌, ℕ, ◌+◌, ◌≤◌, Bool, false, ◌||◌, None, List, [], ◌∷◌, ◌++◌, map, length, refl, sym, ap, ◌∙◌, subst, arith}
use Rattle.std.specs.Prelude.{IsTrue}
use Rattle.std.specs.List.{AllByRecursion}
use Rattle.std.proofs.lemmas.Bool.{or_parts}
use Rattle.std.proofs.lemmas.List.{append_assoc, append-nil, map-append}
use Rattle.rp_language.specs.Name.{Label, is_among}
use Rattle.rp_model.specs.states.State.{Lot, NewLot, ids_of, born_at}
use Rattle.rp_model.specs.states.Sound.{are_distinct}
use Rattle.rp_states.proofs.Labels.{label_turned, among_neither}
use Rattle.rp_history.specs.declared.lot.LotLine.{LotLine}
use Rattle.rp_history.specs.Lots.{lot_of}
use Rattle.rp_history.proofs.Found.{first_alone, rest_distinct}

-- lots that are born are live
pub born_live : (n : ℕ) (new : List (NewLot (Unit {0}))) → AllByRecursion (λ l. l.ended ≡ None) (map (born_at n) new)
born_live n [] = tt
born_live n (a ∷ new) = (refl, born_live n new)

-- lots still to come go behind those that stand there; there is room for them, and their ids are new and distinct
pub record AreToCome (lots : List (Lot (Unit {0}))) (spare : ℕ) (rest : List LotLine) (whole : List (Lot (Unit {0}))) : Type 0 where
  pub together : lots ++ map lot_of rest ≡ whole
  pub room : length rest ≤ spare
  pub live : AllByRecursion (λ l. l.ended ≡ None) (map lot_of rest)
  pub fresh : AllByRecursion (λ k. is_among k.id (ids_of lots) ≡ false) (map lot_of rest)
  pub distinct : IsTrue (are_distinct (ids_of (map lot_of rest)))

-- one lot was put behind the others
pub next_come : (lots new : List (Lot (Unit {0}))) (spare left : ℕ) (l : LotLine) (rest : List LotLine) (whole : List (Lot (Unit {0}))) → AreToCome lots spare (l ∷ rest) whole → new ≡ lots ++ lot_of l ∷ [] → spare ≤ left + 1 → AreToCome new left rest whole
next_come lots new spare left l rest whole h e room = record {
  together = ap (λ (ls : List (Lot (Unit {0}))). ls ++ map lot_of rest) e ∙ append_assoc lots (lot_of l ∷ []) (map lot_of rest) ∙ h.together;
  room = let r = h.room in omega (arith, r, room);
  live = h.live.1;
  fresh = subst (λ (ls : List (Lot (Unit {0}))). AllByRecursion (λ k. is_among k.id (ids_of ls) ≡ false) (map lot_of rest)) (sym e) (others (map lot_of rest) h.fresh.1 (first_alone (lot_of l) (map lot_of rest) h.distinct));
  distinct = rest_distinct (lot_of l) (map lot_of rest) h.distinct;
}
  where
    others : (ks : List (Lot (Unit {0}))) → AllByRecursion (λ k. is_among k.id (ids_of lots) ≡ false) ks → is_among l.id (ids_of ks) ≡ false → AllByRecursion (λ k. is_among k.id (ids_of (lots ++ lot_of l ∷ [])) ≡ false) ks
    others [] f g = tt
    others (k ∷ ks) f g =
        let p = or_parts _ (is_among l.id (ids_of ks)) g in (
          subst (λ (xs : List Label). is_among k.id xs ≡ false) (sym (map-append (λ (m : Lot (Unit {0})). m.id) lots (lot_of l ∷ [])))
              (among_neither k.id (ids_of lots) (l.id ∷ []) f.0 (ap (λ (b : Bool). b || false) (label_turned l.id k.id p.0))),
          others ks f.1 p.1,
        )

-- none is left
pub none_come : (lots : List (Lot (Unit {0}))) (spare : ℕ) (rest : List LotLine) (whole : List (Lot (Unit {0}))) → AreToCome lots spare rest whole → rest ≡ [] → lots ≡ whole
none_come lots spare rest whole h e = sym (append-nil lots) ∙ ap (λ (ls : List LotLine). lots ++ map lot_of ls) (sym e) ∙ h.together
