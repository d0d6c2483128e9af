-- What the row of a cut comes to, whatever answers its tests.
use Rattle.std.proofs.Common.{◌≡◌, ℕ, ◌+◌, List, [], ◌∷◌, length, map, None, sym, ap, ◌∙◌, arith}
use Rattle.rp_geometry.specs.sets.Shape.{Part}
use Rattle.rp_language.specs.Name.{Label}
use Rattle.rp_semantics.specs.Walk.{Walk, Tester, pass, ◌>>◌}
use Rattle.rp_semantics.specs.Form.{join, subtract}
use Rattle.rp_model.specs.states.State.{NewLot, PlainState, layer_with_id, parts_under_lots, lots_replaced, most_kept_parts}
use Rattle.rp_model.specs.commands.Checks.{check_cut}
use Rattle.rp_model.specs.commands.Reply.{Reply, accepted, check, check_size}
use Rattle.rp_model.specs.commands.Parts.{new_lot, parts_with_id}
use Rattle.rp_model.specs.commands.Cut.{row_cut}
use Rattle.rp_history.specs.declared.lot.Birth.{Birth}
use Rattle.rp_history.specs.Parts.{new_lots}
use Rattle.rp_changes.specs.Steps.{with_side}

-- what a cut changes
abbrev pub cut_lots : PlainState → Label → Label → Label → List Part → List Part → List (NewLot (Unit {0}))
cut_lots s x first second inner outer = new_lot (layer_with_id s x) first inner (x ∷ []) ∷ new_lot (layer_with_id s x) second outer (x ∷ []) ∷ []

-- its reply
abbrev pub cut_reply : PlainState → Label → Label → Label → List Part → List Part → Reply
cut_reply s x first second inner outer = accepted (lots_replaced (x ∷ []) (cut_lots s x first second inner outer))

-- a birth of the lot from one origin
abbrev pub IsBornOf : Label → Label → Label → Birth → Type 0
IsBornOf layer origin x b = (b.id ≡ x) × (b.layer ≡ layer) × (b.origins.items ≡ origin ∷ [])

-- two births with their forms, as lots
pub two_born : {F : Type 0} (view : F → List Part) (layer origin first second : Label) (births : List Birth) (forms : List F) (b d : Birth) (f g : F) → births ≡ b ∷ d ∷ [] → forms ≡ f ∷ g ∷ [] → IsBornOf layer origin first b → IsBornOf layer origin second d
    → new_lots births (map view forms) ≡ new_lot layer first (view f) (origin ∷ []) ∷ new_lot layer second (view g) (origin ∷ []) ∷ []
two_born view layer origin first second births forms b d f g e h p q =
    (λ i. new_lots (e i) (map view (h i)))
    ∙ (λ i. new_lot (p.1 i) (p.0 i) (view f) (p.2 i) ∷ new_lot (q.1 i) (q.0 i) (view g) (q.2 i) ∷ [])

module _ {W : Type 0} (tester : Tester W) (s : PlainState) (x first second : Label) (whole ps : List Part) where
  -- the inner side is made: the outer one is next, and then the room for both
  abbrev pub with_outer : List Part → List Part → Walk W Reply
  with_outer inner outer = check_size (parts_under_lots s.lots + length inner + length outer) most_kept_parts >> pass (cut_reply s x first second inner outer)

  -- the checks passed: the inner side is next
  abbrev pub with_inner : List Part → Walk W Reply
  with_inner inner = with_side 2 (subtract tester whole ps) (with_outer inner)

  -- a cut whose checks pass begins with its inner side
  pub cut_begins : (t : W) → check_cut s x first second ≡ None → whole ≡ parts_with_id s x → row_cut tester s x ps first second t ≡ with_side 1 (join tester whole ps) with_inner t
  cut_begins t checked parts =
      ap (λ o. check o (with_side 1 (join tester (parts_with_id s x) ps) (λ inner. with_side 2 (subtract tester (parts_with_id s x) ps) (with_outer inner))) t) checked
      ∙ ap (λ qs. with_side 1 (join tester qs ps) (λ inner. with_side 2 (subtract tester qs ps) (with_outer inner)) t) (sym parts)

  -- the room is asked for both sides together
  both_sized : (inner outer : List Part) (w : W) → with_outer inner outer w ≡ (check_size (parts_under_lots s.lots + (length inner + length outer)) most_kept_parts >> pass (cut_reply s x first second inner outer)) w
  both_sized inner outer w =
      let together : parts_under_lots s.lots + length inner + length outer ≡ parts_under_lots s.lots + (length inner + length outer) = omega arith in
      ap (λ (n : ℕ). (check_size n most_kept_parts >> pass (cut_reply s x first second inner outer)) w) together

  -- the inner side is made: the outer one is next
  pub outer_begins : (t u : W) (inner : List Part) → check_cut s x first second ≡ None → whole ≡ parts_with_id s x → ((next : List Part → Walk W Reply) → with_side 1 (join tester whole ps) next t ≡ next inner u)
      → row_cut tester s x ps first second t ≡ with_inner inner u
  outer_begins t u inner checked parts h = cut_begins t checked parts ∙ h with_inner

  -- the outer side is made: the room for both is next
  pub room_begins : (t u v : W) (inner outer : List Part) → check_cut s x first second ≡ None → whole ≡ parts_with_id s x → ((next : List Part → Walk W Reply) → with_side 1 (join tester whole ps) next t ≡ next inner u)
      → ((next : List Part → Walk W Reply) → with_side 2 (subtract tester whole ps) next u ≡ next outer v)
      → row_cut tester s x ps first second t ≡ (check_size (parts_under_lots s.lots + (length inner + length outer)) most_kept_parts >> pass (cut_reply s x first second inner outer)) v
  room_begins t u v inner outer checked parts h k = outer_begins t u inner checked parts h ∙ k (with_outer inner) ∙ both_sized inner outer v
