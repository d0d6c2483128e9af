-- Pairs of lots, judged one after the other.
use Rattle.std.proofs.Common.{◌≡◌, ℕ, zero, suc, ◌+◌, ◌<◌, ◌≤◌, Bool, List, [], ◌∷◌, ◌++◌, length, map, get_or, drop, refl, sym, ap, ◌∙◌, arith}
use Rattle.std.specs.List.{AllByRecursion}
use Rattle.std.proofs.lemmas.List.{get_or-map, drop_more, at_drop_all}
use Rattle.rp_geometry.specs.sets.Shape.{Part}
use Rattle.rp_semantics.specs.Walk.{Walk, Tester, pass, done, after_first, ◌>>=◌}
use Rattle.rp_oracle.proofs.Left.{IsLeft, left_as, next_left, end_left}
use Rattle.rp_proximity.specs.declared.reach.Reach.{Reach}
use Rattle.rp_contacts.specs.declared.pair.Pair.{Pair}
use Rattle.rp_contacts.specs.Meets.{pair_of, pair_test, meet_each, IsPairWithin}

-- a pair of the list
abbrev pub pair_in : List Pair → ℕ → Pair
pair_in pairs i = get_or pairs i (pair_of 0 0)

-- its places are within the list of forms
pub within_at : {F : Type 0} (forms : List F) (pairs : List Pair) (i : ℕ) → AllByRecursion (IsPairWithin forms) pairs → i < length pairs → IsPairWithin forms (pair_in pairs i)
within_at forms [] i a h = absurd (omega (arith, h))
within_at forms (p ∷ pairs) zero a h = a.0
within_at forms (p ∷ pairs) (suc i) a h = within_at forms pairs i a.1 (omega (arith, h))

module _ {W F : Type 0} (tester : Tester W) (reach : Reach) (view : F → List Part) (forms : List F) where
  -- the answers so far, and that of two forms
  abbrev pub met_with : List Bool → F → F → Walk W (List Bool)
  met_with found f g = pair_test tester reach (view f) (view g) >>= (λ meets. pass (found ++ meets ∷ []))

  -- the answers to the pairs that are left
  abbrev pub met_from : List Pair → List Bool → Walk W (List Bool)
  met_from pairs found = meet_each tester reach (map view forms) found pairs

  -- the pair at a place and the rest are left
  pub pair_left : {start now : W} {whole : Walk W (List Bool)} (found : List Bool) (pairs : List Pair) (i : ℕ) (f g : F) → AllByRecursion (IsPairWithin forms) pairs → i < length pairs
      → f ≡ get_or forms (pair_in pairs i).first f → g ≡ get_or forms (pair_in pairs i).second g → IsLeft start whole now (met_from (drop i pairs) found) → IsLeft start whole now (met_with found f g >>= met_from (drop (i + 1) pairs))
  pair_left found pairs i f g within h at_first at_second l =
      let p = pair_in pairs i in
      let places = within_at forms pairs i within h in
      let first = get_or-map view forms p.first f [] places.0 ∙ sym (ap view at_first) in
      let second = get_or-map view forms p.second g [] places.1 ∙ sym (ap view at_second) in
      left_as (ap (λ ps. met_from ps found) (drop_more pairs i (pair_of 0 0) h)
      ∙ (λ j. (pair_test tester reach (first j) (second j) >>= (λ meets. pass (found ++ meets ∷ []))) >>= met_from (drop (i + 1) pairs))) l

  -- the rest is left where the pair is judged
  pub rest_left : {start now new : W} {whole : Walk W (List Bool)} (found more : List Bool) (rest : List Pair) (f g : F) (meets : Bool)
      → IsLeft start whole now (met_with found f g >>= met_from rest) → pair_test tester reach (view f) (view g) now ≡ done meets new → more ≡ found ++ meets ∷ [] → IsLeft start whole new (met_from rest more)
  rest_left found more rest f g meets l m e =
      left_as (ap (met_from rest) (sym e)) (next_left (met_with found f g) (met_from rest) l (ap (after_first (λ met. pass (found ++ met ∷ []))) m))

  -- where no pair is left, the answers are those so far
  pub none_left : {start now : W} {whole : Walk W (List Bool)} (found : List Bool) (pairs : List Pair) (i : ℕ) → length pairs ≤ i → IsLeft start whole now (met_from (drop i pairs) found) → whole start ≡ done found now
  none_left {now = now} found pairs i h l = end_left (done found now) (left_as (at_drop_all (λ ps. met_from ps found) pairs i h) l) refl
