-- Walks that look at whether lists of parts are empty.
use Rattle.std.proofs.Common.{◌≡◌, ◌==◌, ◌<◌, ◌≤◌, true, false, List, [], ◌∷◌, length, map, get_or, refl, sym, ap, arith}
use Rattle.std.proofs.lemmas.Bool.Decides.{nat_tests}
use Rattle.rp_algebra.proofs.Tests.{false_not_true}
use Rattle.rp_geometry.specs.sets.Shape.{Part}
use Rattle.rp_geometry.specs.sets.Relation.{EQ, PO}
use Rattle.rp_semantics.specs.Walk.{Tester, pass, after_first, ◌>>◌}
use Rattle.rp_semantics.specs.Compare.{show_then_no, relation_by_rests, relation_part, relation_whole, touches_outside}

-- a list with an item is not empty
pub not_empty : {X : Type 0} (x : X) (xs : List X) → true ≡ (length (x ∷ xs) == 0) → ⊥
not_empty x xs e = false_not_true (length (x ∷ xs) == 0) (sym e) (grind (arith, nat_tests))

module _ {W X : Type 0} (tester : Tester W) (seen : X → Part) where
  -- there is no part
  pub none_shown : (xs : List X) → length xs < 1 → show_then_no tester (map seen xs) ≡ pass true
  none_shown [] l = refl
  none_shown (x ∷ xs) l = absurd (omega (arith, l))

  -- there is a first part
  pub first_shown : (xs : List X) (x : X) → 1 ≤ length xs → x ≡ get_or xs 0 x → show_then_no tester (map seen xs) ≡ tester.strict (seen x).cell >> pass false
  first_shown [] x l e = absurd (omega (arith, l))
  first_shown (y ∷ xs) x l e = ap (λ z. tester.strict (seen z).cell >> pass false) (sym e)

  module _ (ps qs : List Part) where
    -- nothing is left of both
    pub both_empty : (ds es : List X) → true ≡ (length ds == 0) → true ≡ (length es == 0) → relation_by_rests tester ps qs (map seen ds) (map seen es) ≡ pass EQ
    both_empty [] [] d e = refl
    both_empty [] (y ∷ es) d e = absurd (not_empty y es e)
    both_empty (x ∷ ds) es d e = absurd (not_empty x ds d)

    -- something is left of each
    pub none_empty : (ds es : List X) → false ≡ (length ds == 0) → false ≡ (length es == 0) → relation_by_rests tester ps qs (map seen ds) (map seen es) ≡ pass PO
    none_empty [] es d e = absurd (cc)
    none_empty (x ∷ ds) [] d e = absurd (cc)
    none_empty (x ∷ ds) (y ∷ es) d e = refl

    -- nothing is left of the first alone
    pub first_empty : (ds es : List X) → true ≡ (length ds == 0) → false ≡ (length es == 0) → (w : W)
        → relation_by_rests tester ps qs (map seen ds) (map seen es) w ≡ after_first (λ touches. pass (relation_part touches)) (touches_outside tester ps qs w)
    first_empty [] [] d e w = absurd (cc)
    first_empty [] (y ∷ es) d e w = refl
    first_empty (x ∷ ds) es d e w = absurd (not_empty x ds d)

    -- nothing is left of the second alone
    pub second_empty : (ds es : List X) → false ≡ (length ds == 0) → true ≡ (length es == 0) → (w : W)
        → relation_by_rests tester ps qs (map seen ds) (map seen es) w ≡ after_first (λ touches. pass (relation_whole touches)) (touches_outside tester qs ps w)
    second_empty [] es d e w = absurd (cc)
    second_empty (x ∷ ds) [] d e w = refl
    second_empty (x ∷ ds) (y ∷ es) d e w = absurd (not_empty y es e)
