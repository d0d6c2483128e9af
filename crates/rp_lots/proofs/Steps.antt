-- What the checks of a registration and of a subdivision come to, before any test.
use Rattle.std.proofs.Common.{◌≡◌, ◌+◌, ℕ, Option, Some, None, ap, ap₂, sym, ◌∙◌, subst}
use Rattle.rp_semantics.specs.Walk.{done, Walk, after_first, ◌>>◌}
use Rattle.rp_model.specs.states.State.{most_kept_parts}
use Rattle.rp_model.specs.commands.Verdict.{Refusal}
use Rattle.rp_model.specs.commands.Checks.{and_then}
use Rattle.rp_model.specs.commands.Reply.{Reply, refusal, check, check_size}
use Rattle.rp_oracle.specs.declared.stopped.Stopped.{Stopped}
use Rattle.rp_oracle.specs.Refines.{StopsBy}
use Rattle.rp_oracle.proofs.Left.{stops_on}

module _ {W : Type 0} (rest : Walk W Reply) (w : W) where
  -- two checks are passed, and the size is looked at
  sized : (o p : Option Refusal) (n : ℕ) → o ≡ None → p ≡ None → check (and_then o p) (check_size n most_kept_parts >> rest) w ≡ after_first (λ _. rest) (check_size n most_kept_parts w)
  sized o p n f g = ap₂ (λ (q r : Option Refusal). check (and_then q r) (check_size n most_kept_parts >> rest) w) f g

  -- there is no room for some more
  pub no_room : (o p : Option Refusal) (m n k : ℕ) (e : Stopped) → o ≡ None → p ≡ None → n ≡ k → StopsBy e w (check_size (m + n) most_kept_parts w) → StopsBy e w (check (and_then o p) (check_size (m + k) most_kept_parts >> rest) w)
  no_room o p m n k e f g same h = subst (StopsBy e w) (sym (sized o p (m + k) f g)) (stops_on (λ _. rest) e w (check_size (m + k) most_kept_parts w) (subst (λ (j : ℕ). StopsBy e w (check_size (m + j) most_kept_parts w)) same h))

  -- there is room for them
  pub has_room : (o p : Option Refusal) (m n k : ℕ) → o ≡ None → p ≡ None → n ≡ k → check_size (m + n) most_kept_parts w ≡ done tt w → check (and_then o p) (check_size (m + k) most_kept_parts >> rest) w ≡ rest w
  has_room o p m n k f g same h = sized o p (m + k) f g ∙ ap (after_first (λ _. rest)) (ap (λ (j : ℕ). check_size (m + j) most_kept_parts w) (sym same) ∙ h)

  -- the second check is failed
  pub second_fails : (o p : Option Refusal) (r : Refusal) (walk : Walk W Reply) → o ≡ None → p ≡ Some r → check (and_then o p) walk w ≡ done (refusal r) w
  second_fails o p r walk f g = ap₂ (λ (q s : Option Refusal). check (and_then q s) walk w) f g
