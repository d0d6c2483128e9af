-- The indexes of layers, as boxes are put into one of them or taken out.
use Rattle.std.proofs.Common.{◌≡◌, ◌≢◌, ℕ, ◌+◌, ◌/◌, ◌%◌, Bool, true, false, cond, List, [], ◌∷◌, ◌++◌, ⊎_elim, length, Option, Some, None, is_some, slice_get, refl, sym, ap, ◌∙◌, subst, arith}
use Rattle.std.specs.Prelude.{unwrap_or}
use Rattle.std.specs.FinMap.{empty}
use Rattle.std.specs.Map.{lookup}
use Rattle.std.proofs.lemmas.Option.{slice_get_past}
use Rattle.rp_algebra.proofs.Numbers.{same_or_not}
use Rattle.rp_geometry.specs.Geometry.{IntegerBox}
use Rattle.rp_language.specs.Name.{Label, label_eq}
use Rattle.rp_states.proofs.Labels.{label_is, label_itself}
use Rattle.rp_boxindex.specs.Boxes.{Boxes}
use Rattle.rp_boxindex.proofs.Known.{none_of}
use Rattle.rp_lotindex.specs.declared.boxes.LotBoxes.{LotBoxes}
use Rattle.rp_lotindex.specs.Indexed.{box_at, index_of, is_layer, OthersStay, IsTakenOut, IsSettled, AreRemoved}
use Rattle.rp_lotindex.proofs.Put.{last_at, last_apart}

-- ---- the table of layers

module _ (old new : LotBoxes) (y : Label) (w : Boxes) (h : (x : Label) → lookup (label_eq x) new.layers.entries ≡ cond (label_eq y x) (Some w) (lookup (label_eq x) old.layers.entries)) where
  -- the layer has the index that was written
  pub written_here : index_of new y ≡ w
  written_here = ap (λ (o : Option Boxes). unwrap_or o empty) (h y ∙ ap (λ (b : Bool). cond b (Some w) (lookup (label_eq y) old.layers.entries)) (label_itself y))

  -- each other one has what it had
  pub written_others : OthersStay y (index_of old) (index_of new)
  written_others x other = ap (λ (o : Option Boxes). unwrap_or o empty) (h x ∙ ap (λ (b : Bool). cond b (Some w) (lookup (label_eq x) old.layers.entries)) other)

-- an index with no boxes, for a layer that has none, changes no boxes
pub opened : (old new : LotBoxes) (y : Label) → lookup (label_eq y) old.layers.entries ≡ None → ((x : Label) → lookup (label_eq x) new.layers.entries ≡ cond (label_eq y x) (Some empty) (lookup (label_eq x) old.layers.entries)) → (x : Label) → index_of new x ≡ index_of old x
opened old new y none h x = by (label_eq y x) refl
  where
    by : (b : Bool) → label_eq y x ≡ b → index_of new x ≡ index_of old x
    by true e =
        subst (λ (z : Label). index_of new z ≡ index_of old z) (label_is y x e)
        (written_here old new y empty h ∙ sym (ap (λ (o : Option Boxes). unwrap_or o empty) none))
    by false e = written_others old new y empty h x e

-- ---- boxes of lots that end

-- where a place has no boxes it still has none
pub settled_apart : (old new : Boxes) (p : ℕ) → new ≡ old → IsSettled old new p []
settled_apart old new p stays = record {
  here = λ id own same. ap (λ (m : Boxes). box_at m id) stays ∙ none_of (box_at old id) same;
  rest = λ id other. ap (λ (m : Boxes). box_at m id) stays;
}

-- ---- lots taken out, one after the other

-- at first none
pub removed_first : (m : Label → Boxes) (first : ℕ) → AreRemoved m m first []
removed_first m first = record { gone = λ y id k at e. absurd (cc); kept = λ y id k at e. refl; rest = λ y id f. refl }

-- one more
pub removed_next : (old m new : Label → Boxes) (first place : ℕ) (xs : List Label) (x : Label) → AreRemoved old m first xs → place ≡ first + length xs → IsTakenOut (m x) (new x) place → OthersStay x m new → AreRemoved old new first (xs ++ x ∷ [])
removed_next old m new first place xs x h at taken others = record {
  gone = λ y id k own e. ⊎_elim
      (λ same. here y id (omega (arith, own, at, same)) (sym (ap (λ (o : Option Label). is_layer o y) (last_at xs x k same)) ∙ e))
      (λ other. apart y id (λ f. other (omega (arith, own, at, f))) ∙ h.gone y id k own (sym (ap (λ (o : Option Label). is_layer o y) (last_apart xs x k other)) ∙ e))
      (same_or_not k (length xs));
  kept = λ y id k own e. ⊎_elim
      (λ same.
      ap (λ (b : Boxes). box_at b id) (others y (sym (ap (λ (o : Option Label). is_layer o y) (last_at xs x k same)) ∙ e))
      ∙ h.kept y id k own (ap (λ (o : Option Label). is_layer o y) (slice_get_past xs k (omega (arith, same)))))
      (λ other. apart y id (λ f. other (omega (arith, own, at, f))) ∙ h.kept y id k own (sym (ap (λ (o : Option Label). is_layer o y) (last_apart xs x k other)) ∙ e))
      (same_or_not k (length xs));
  rest = λ y id f. apart y id (λ e. absurd (omega (arith, f, e, at))) ∙ h.rest y id f;
}
  where
    -- the place has no box in the layer
    here : (y : Label) (id : ℕ) → id / 16 ≡ place → label_eq x y ≡ true → box_at (new y) id ≡ None
    here y id own e = subst (λ (z : Label). box_at (new z) id ≡ None) (label_is x y e) (taken.gone id own)

    -- other places have what they had
    apart : (y : Label) (id : ℕ) → id / 16 ≢ place → box_at (new y) id ≡ box_at (m y) id
    apart y id other = by (label_eq x y) refl
      where
        by : (b : Bool) → label_eq x y ≡ b → box_at (new y) id ≡ box_at (m y) id
        by true e = subst (λ (z : Label). box_at (new z) id ≡ box_at (m z) id) (label_is x y e) (taken.rest id other)
        by false e = ap (λ (b : Boxes). box_at b id) (others y e)
