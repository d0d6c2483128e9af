-- An answer by its echo: the number and the text.
use Rattle.std.proofs.Common.{◌≡◌, ℕ, ◌<◌, ◌≤◌, Bool, true, false, nat_lt, Option, Some, None, sym, ap, ◌∙◌, subst, arith}
use Rattle.rp_language.specs.Grammar.{Version}
use Rattle.rp_semantics.specs.Walk.{done, line_wrong, Walk, after_first, pass, stop}
use Rattle.rp_model.specs.states.State.{PlainState}
use Rattle.rp_reports.specs.ProofText.{Echo}
use Rattle.rp_reports.specs.Check.{Trail, Progress, with_no_tests, follow_echo, follow_numbered, next_echo, follow_answer}
use Rattle.rp_checker.specs.declared.halt.Halt.{Halt}
use Rattle.rp_checker.specs.Answers.{IsWrongAt, HaltsBy}
use Rattle.rp_checker.proofs.Ahead.{halts_on}

-- ---- echoes

module _ (v : Version) (q : Progress) where
  -- the walk behind an echo, by whether its number is above the last one
  abbrev numbered_by : Echo → Bool → Walk Trail Progress
  numbered_by e b = elim b [ false ↦ stop line_wrong | true ↦ (λ t. after_first (λ s. pass (record { last = e.number; state = s })) (follow_echo v e.number q.state e.text (with_no_tests t))) ]

  -- the line is wrong where it is no echo
  pub no_echo : (t : Trail) (n : ℕ) → n ≡ t.number → next_echo t.lines ≡ None → IsWrongAt n (follow_answer v q t)
  unfolding follow_answer
  no_echo t n same e = record { at = t; stops = ap (λ (o : Option Echo). follow_numbered v q o t) e; number = same }

  -- it is wrong where its number is not above the last one
  pub low_echo : (t : Trail) (n : ℕ) (e : Echo) → n ≡ t.number → next_echo t.lines ≡ Some e → e.number ≤ q.last → IsWrongAt n (follow_answer v q t)
  unfolding follow_answer
  low_echo t n e same f low = record { at = t; stops = ap (λ (o : Option Echo). follow_numbered v q o t) f ∙ ap (λ (b : Bool). numbered_by e b t) (not_above q.last e.number low); number = same }
    where
      not_above : (m k : ℕ) → k ≤ m → nat_lt m k ≡ false
      not_above m k h = grind arith

  -- else the answer follows
  pub high_echo : (t : Trail) (e : Echo) → next_echo t.lines ≡ Some e → q.last < e.number → follow_answer v q t ≡ after_first (λ s. pass (record { last = e.number; state = s })) (follow_echo v e.number q.state e.text (with_no_tests t))
  unfolding follow_answer
  high_echo t e f high = ap (λ (o : Option Echo). follow_numbered v q o t) f ∙ ap (λ (b : Bool). numbered_by e b t) (above q.last e.number high)
    where
      above : (m k : ℕ) → m < k → nat_lt m k ≡ true
      above m k h = grind arith

  -- where the answer halts, so does the numbered one
  pub echo_halts : (t u : Trail) (e : Echo) (h : Halt) → next_echo t.lines ≡ Some e → q.last < e.number → u ≡ with_no_tests t → HaltsBy h (follow_echo v e.number q.state e.text u) → HaltsBy h (follow_answer v q t)
  echo_halts t u e h f high begun m =
      subst (HaltsBy h) (sym (high_echo t e f high))
      (halts_on (λ s. pass (record { last = e.number; state = s })) h (follow_echo v e.number q.state e.text (with_no_tests t)) (subst (λ (w : Trail). HaltsBy h (follow_echo v e.number q.state e.text w)) begun m))

  -- where the answer ends, so does the numbered one
  pub echo_ends : (t u w : Trail) (e : Echo) (after : PlainState) → next_echo t.lines ≡ Some e → q.last < e.number → u ≡ with_no_tests t → follow_echo v e.number q.state e.text u ≡ done after w
      → follow_answer v q t ≡ done (record { last = e.number; state = after }) w
  echo_ends t u w e after f high begun m =
      high_echo t e f high ∙ ap (λ (x : Trail). after_first (λ s. pass (record { last = e.number; state = s })) (follow_echo v e.number q.state e.text x)) (sym begun) ∙ ap (after_first (λ s. pass (record { last = e.number; state = s }))) m
