-- Pairs of parts are counted among near lots alone.
use Rattle.std.proofs.Common.{◌≡◌, ℕ, ◌+◌, ◌-◌, ◌==◌, eqb, Bool, true, false, ◌&&◌, not, cond, List, [], ◌∷◌, filter, refl, sym, ap, ◌∙◌, arith}
use Rattle.std.proofs.lemmas.Bool.Decides.{Decides-eqb}
use Rattle.std.proofs.lemmas.List.Sums.{sum_by-cons}
use Rattle.rp_algebra.proofs.Listed.{first}
use Rattle.rp_geometry.specs.sets.Shape.{Part}
use Rattle.rp_language.specs.Name.{Label, label_eq}
use Rattle.rp_model.specs.states.State.{Lot, is_live, live_lots, lots_of_layer, other_lots}
use Rattle.rp_model.specs.commands.Parts.{count_pairs, lot_parts}
use Rattle.rp_proximity.specs.declared.reach.Reach.{Reach}
use Rattle.rp_proximity.specs.Near.{may_meet, others_in, pairs_with, is_near, is_other_in}

-- the first lot is among the others, or not
pub others_first : {S : Type 0} (y x : Label) (l : Lot S) (ls : List (Lot S)) → others_in y x (l ∷ ls) ≡ cond (is_other_in y x l) (l ∷ others_in y x ls) (others_in y x ls)
others_first {S = S} y x l ls = by (is_live l) refl (label_eq l.layer y) refl (not (label_eq x l.id)) refl
  where
    by : (a : Bool) → is_live l ≡ a → (b : Bool) → label_eq l.layer y ≡ b → (d : Bool) → not (label_eq x l.id) ≡ d →
        other_lots x (lots_of_layer y (cond a (l ∷ live_lots ls) (live_lots ls))) ≡ cond (a && (b && d)) (l ∷ others_in y x ls) (others_in y x ls)
    by false e b f d g = refl
    by true e false f d g = ap (λ (c : Bool). other_lots x (cond c (l ∷ lots_of_layer y (live_lots ls)) (lots_of_layer y (live_lots ls)))) f
    by true e true f d g =
        ap (λ (c : Bool). other_lots x (cond c (l ∷ lots_of_layer y (live_lots ls)) (lots_of_layer y (live_lots ls)))) f
        ∙ ap (λ (c : Bool). cond c (l ∷ others_in y x ls) (others_in y x ls)) g

-- pairs of all lots are those of the near ones
pub pairs_near : (r : Reach) (ps : List Part) (ls : List (Lot (Unit {0}))) → pairs_with r ps ls ≡ pairs_with r ps (filter (is_near r ps) ls)
pairs_near r ps [] = refl
pairs_near r ps (l ∷ ls) = sum_by-cons count l.parts (lot_parts ls) ∙ ap (λ (n : ℕ). count l.parts + n) (pairs_near r ps ls) ∙ by (count l.parts == 0) refl
  where
    count : List Part → ℕ
    count qs = count_pairs (may_meet r) ps qs

    near : List (Lot (Unit {0}))
    near = filter (is_near r ps) ls

    none : (n m : ℕ) → (n == 0) ≡ true → n + m ≡ m
    none n m e = let f = (Decides-eqb n 0).0 e in omega (arith, f)

    by : (b : Bool) → (count l.parts == 0) ≡ b → count l.parts + pairs_with r ps near ≡ pairs_with r ps (cond (not b) (l ∷ near) near)
    by true e = none (count l.parts) (pairs_with r ps near) e
    by false e = sym (sum_by-cons count l.parts (lot_parts near))

-- so lists with the same near lots have as many
pub pairs_same : (r : Reach) (ps : List Part) (ls ms : List (Lot (Unit {0}))) → filter (is_near r ps) ls ≡ filter (is_near r ps) ms → pairs_with r ps ls ≡ pairs_with r ps ms
pairs_same r ps ls ms e = pairs_near r ps ls ∙ ap (pairs_with r ps) e ∙ sym (pairs_near r ps ms)
