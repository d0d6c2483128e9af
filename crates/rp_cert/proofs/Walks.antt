-- What is left of a ring at a step.
use Rattle.std.proofs.Common.{◌≡◌, ℕ, zero, suc, ◌+◌, ◌<◌, ◌≤◌, true, ◌&&◌, List, [], ◌∷◌, length, get_or, drop, refl, sym, ap, ◌∙◌, arith}
use Rattle.std.specs.Prelude.{nat_le}
use Rattle.std.specs.List.{list_all}
use Rattle.std.proofs.lemmas.List.{drop_more}
use Rattle.rp_geometry.specs.sections.Ring.{RingStep, Turn, turn_of, turns_to, is_turn, angles_rise}

-- the turns from a step on
abbrev pub turns_left : ℕ → List RingStep → List Turn
turns_left i [] = []
turns_left i (s ∷ steps) = turns_to s (drop i (s ∷ steps))

-- a step, the next one, and what is behind them
two_left : (steps : List RingStep) (i : ℕ) (d e : RingStep) → i + 1 < length steps → d ≡ get_or steps i d → e ≡ get_or steps (i + 1) e → drop i steps ≡ d ∷ e ∷ drop (i + 1 + 1) steps
two_left steps i d e l p q =
    drop_more steps i d (omega (arith, l)) ∙ ap (λ rest. get_or steps i d ∷ rest) (drop_more steps (i + 1) e l)
    ∙ (λ k. sym p k ∷ sym q k ∷ drop (i + 1 + 1) steps)

-- a turn, and the turns behind it
pub turns_more : (steps : List RingStep) (i : ℕ) (d e : RingStep) → i + 1 < length steps → d ≡ get_or steps i d → e ≡ get_or steps (i + 1) e
    → list_all is_turn (turns_left i steps) ≡ (is_turn (turn_of d e) && list_all is_turn (turns_left (i + 1) steps))
turns_more [] i d e l p q = absurd (omega (arith, l))
turns_more (s ∷ steps) i d e l p q =
    ap (λ rest. list_all is_turn (turns_to s rest)) (two_left (s ∷ steps) i d e l p q)
    ∙ ap (λ rest. is_turn (turn_of d e) && list_all is_turn (turns_to s rest)) (sym one_left)
  where
    one_left : drop (i + 1) (s ∷ steps) ≡ e ∷ drop (i + 1 + 1) (s ∷ steps)
    one_left = drop_more (s ∷ steps) (i + 1) e l ∙ (λ k. sym q k ∷ drop (i + 1 + 1) (s ∷ steps))

-- the last step rises
pub rising_last : (steps : List RingStep) (i : ℕ) → length steps ≤ i + 1 → angles_rise (drop i steps) ≡ true
rising_last [] i l = none i
  where
    none : (i : ℕ) → angles_rise (drop i []) ≡ true
    none zero = refl
    none (suc i) = refl
rising_last (s ∷ []) zero l = refl
rising_last (s ∷ r ∷ steps) zero l = absurd (omega (arith, l))
rising_last (s ∷ steps) (suc i) l = rising_last steps i (omega (arith, l))

-- three or more
pub many_true : (n : ℕ) → 3 ≤ n → nat_le 3 n ≡ true
many_true n h = grind (arith)
