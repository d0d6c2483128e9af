-- The relation of two lists of parts, of which each must have one.
use Rattle.std.proofs.Common.{◌≡◌, ◌==◌, Bool, true, false, List, [], ◌∷◌, length, map, refl, sym, ap, ◌∙◌}
use Rattle.std.proofs.lemmas.List.{length-map}
use Rattle.rp_geometry.specs.sets.Shape.{Part}
use Rattle.rp_semantics.specs.Walk.{Tester, pass, after_first}
use Rattle.rp_semantics.specs.Compare.{relation_of_parts}
use Rattle.rp_model.specs.commands.Verdict.{Verdict, empty_region}
use Rattle.rp_model.specs.commands.Reply.{refusal, reply}
use Rattle.rp_model.specs.commands.Rcc.{row_relation}
use Rattle.rp_eval.proofs.Rests.{not_empty}

-- a list is as empty as what it shows
pub as_empty : {X : Type 0} (seen : X → Part) (xs : List X) (ps : List Part) → map seen xs ≡ ps → (b c : Bool) → c ≡ (length xs == 0) → c ≡ b → b ≡ (length ps == 0)
as_empty seen xs ps e b c h f = sym f ∙ h ∙ ap (λ n. n == 0) (sym (length-map xs seen) ∙ ap length e)

module _ {W : Type 0} (tester : Tester W) where
  -- the first has none
  pub first_missing : (ps qs : List Part) → true ≡ (length ps == 0) → row_relation tester ps qs ≡ pass (refusal (empty_region 1))
  first_missing [] qs e = refl
  first_missing (p ∷ ps) qs e = absurd (not_empty p ps e)

  -- the second has none
  pub second_missing : (ps qs : List Part) → false ≡ (length ps == 0) → true ≡ (length qs == 0) → row_relation tester ps qs ≡ pass (refusal (empty_region 2))
  second_missing [] qs d e = absurd (cc)
  second_missing (p ∷ ps) [] d e = refl
  second_missing (p ∷ ps) (q ∷ qs) d e = absurd (not_empty q qs e)

  -- both have one
  pub both_there : (ps qs : List Part) → false ≡ (length ps == 0) → false ≡ (length qs == 0) → (w : W)
      → row_relation tester ps qs w ≡ after_first (λ r. pass (reply (Verdict.relation r))) (relation_of_parts tester ps qs w)
  both_there [] qs d e w = absurd (cc)
  both_there (p ∷ ps) [] d e w = absurd (cc)
  both_there (p ∷ ps) (q ∷ qs) d e w = refl
