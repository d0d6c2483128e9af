-- Whole answers over two lists of lines that begin alike.
use Rattle.std.proofs.Common.{◌≡◌, ℕ, suc, ℤ, ◌+◌, ◌-◌, ◌≤◌, ◌<◌, nat_lt, Bool, true, false, ◌&&◌, ◌⊎◌, inl, inr, ⊎_elim, List, [], ◌∷◌, ◌++◌, map, length, drop, Option, Some, None, refl, sym, ap, ◌∙◌, subst, arith}
use Rattle.rp_language.specs.Name.{label_eq}
use Rattle.rp_semantics.specs.Walk.{Stop, limit_met, limit_told, line_wrong, taken_wrong, Outcome, done, stopped, after_first, Walk, pass, stop, ◌>>=◌}
use Rattle.rp_language.specs.Expression.{Command}
use Rattle.rp_model.specs.states.State.{PlainState, changed}
use Rattle.rp_geometry.specs.sets.Shape.{Part}
use Rattle.rp_model.specs.commands.Verdict.{Refusal, Verdict, limit}
use Rattle.rp_language.specs.Grammar.{Version, Fault, too_long, Reading, blank, command, bad, reading}
use Rattle.rp_reports.specs.Text.{verdict_text}
use Rattle.rp_reports.specs.ProofText.{Echo, echo_read}
use Rattle.rp_reports.specs.Check.{Trail, refusal_line, tells_limit, taken, taken_if, one_back, follow_line, follow_lines, limit_allowed, follow_limit, follow_reply, follow_verdicts, follow_command, follow_fault, follow_reading, may_be_echoed, follow_text, follow_echo, Progress, with_no_tests, follow_numbered, next_echo, follow_answer, line_tester}
use Rattle.rp_checker_completeness.proofs.Due.{Due, DueHas, replied, sliced, due_row}
use Rattle.rp_checker_completeness.proofs.Commands.{Any, AnyLabel, any_state, any_command}
use Rattle.rp_checker_completeness.proofs.Beside.{StaysLost, Near, Ended, StopNear, SameOutcome, step, tell_alike}
use Rattle.rp_checker_completeness.proofs.LimitAhead.{row_beside}
use Rattle.rp_checker_completeness.proofs.Beyond.{Past, StopPast, past}
use Rattle.rp_checker_completeness.proofs.Shown.{reply_at, follow_due, command_is_due, slice_line, follow_each, follow_shown, section_reply}

module _ (number : ℕ) (some : 0 < number) (one two : List (List ℕ)) where
  -- near each other, with the two lists behind what is shared
  abbrev pub Close : Trail → Trail → Type 0
  Close t u = Near number one two (past number two) t u

  -- the second walk is past what is shared
  abbrev pub TopLost : {A : Type 0} → Outcome Trail A → Type 0
  TopLost (done x u) = Past number two u
  TopLost (stopped s u) = (number ≤ u.number) × (u.number ≤ number + length two)

  -- the same result near each other, or a stop at the same number, before the end of what is shared
  abbrev pub TopSame : {A : Type 0} → Outcome Trail A → Outcome Trail A → Type 0
  TopSame (done x t) (done y u) = (x ≡ y) × Close t u
  TopSame (stopped s t) (stopped z u) = (t.number ≡ u.number) × (u.number < number)
  TopSame (done x t) (stopped z u) = ⊥
  TopSame (stopped s t) (done y u) = ⊥

  -- two walks that are near each other, or past what is shared
  pub record Top {A : Type 0} (m k : Walk Trail A) : Type 0 where
    pub near : (t u : Trail) → Close t u → TopLost (k u) ⊎ TopSame (m t) (k u)
    pub lost : (u : Trail) → Past number two u → TopLost (k u)

  -- ---- one after the other

  -- past what is shared, one walk after the other
  top_lost_then : {A B : Type 0} (next other : A → Walk Trail B) → ((x : A) → Top (next x) (other x)) → (p : Outcome Trail A) → TopLost p → TopLost (after_first other p)
  top_lost_then next other g (done x u) l = (g x).lost u l
  top_lost_then next other g (stopped s u) l = l

  -- near each other, one walk after the other
  top_near_then : {A B : Type 0} (next other : A → Walk Trail B) → ((x : A) → Top (next x) (other x)) → (o p : Outcome Trail A) → TopSame o p → TopLost (after_first other p) ⊎ TopSame (after_first next o) (after_first other p)
  top_near_then next other g (done x t) (done y u) s = subst (λ z. TopLost (other z u) ⊎ TopSame (next x t) (other z u)) s.0 ((g x).near t u s.1)
  top_near_then next other g (stopped e t) (stopped z u) s = inr s
  top_near_then next other g (done x t) (stopped z u) s = absurd s
  top_near_then next other g (stopped e t) (done y u) s = absurd s

  -- one walk after the other
  pub top_then : {A B : Type 0} (m k : Walk Trail A) (next other : A → Walk Trail B) → Top m k → ((x : A) → Top (next x) (other x)) → Top (m >>= next) (k >>= other)
  top_then m k next other h g = record {
    near = λ t u n. ⊎_elim (λ l. inl (top_lost_then next other g (k u) l)) (λ s. top_near_then next other g (m t) (k u) s) (h.near t u n);
    lost = λ u l. top_lost_then next other g (k u) (h.lost u l);
  }

  -- a walk that makes no test
  pub top_pass : {A : Type 0} (x : A) → Top (pass x) (pass x)
  top_pass x = record { near = λ t u n. inr (refl, n); lost = λ u l. l }

  -- a stop before the end of what is shared
  close_below : (t u : Trail) → Close t u → u.number < number
  close_below t u n = below u.number (length n.shared) n.place
    where
      below : (a b : ℕ) → a + suc b ≡ number → a < number
      below a b e = omega (arith, e)

  -- a stop past it
  past_stop : (u : Trail) → Past number two u → (number ≤ u.number) × (u.number ≤ number + length two)
  past_stop u p = (p.reached, few u.number (length u.lines) p.left)
    where
      few : (a b : ℕ) → a + b ≡ number + length two → a ≤ number + length two
      few a b e = omega (arith, e)

  -- a walk that is stopped
  pub top_stop : {A : Type 0} (s : Stop) → Top {A = A} (stop s) (stop s)
  top_stop s = record { near = λ t u n. inr (n.numbers, close_below t u n); lost = λ u l. past_stop u l }

  -- ---- lines that are wanted

  -- the next line is taken if a test passes
  top_taken : {A : Type 0} (b : Bool) (x : A) (t u : Trail) → Close t u → TopLost (taken_if b x u) ⊎ TopSame (taken_if b x t) (taken_if b x u)
  unfolding past
  top_taken true x t u n = ⊎_elim (λ m. inr (refl, m)) (λ e. inl ((past number two).enters (taken u) e.place e.lines)) (step number one two (past number two) t u n)
  top_taken false x t u n = inr (n.numbers, close_below t u n)

  -- behind one line more
  past_taken : (u : Trail) (line : List ℕ) (lines : List (List ℕ)) → u.lines ≡ line ∷ lines → Past number two u → Past number two (taken u)
  past_taken u line lines e p = record { reached = omega (arith, p.reached); left = more u.number (length lines) (length (drop 1 u.lines)) (ap (λ ls. length (drop 1 ls)) e) (ap (λ ls. u.number + length ls) (sym e) ∙ p.left) }
    where
      more : (n k l : ℕ) → l ≡ k → n + suc k ≡ number + length two → (n + 1) + l ≡ number + length two
      more n k l f g = omega (arith, f, g)

  -- the line that is wanted, past what is shared
  past_line : (want : List ℕ) (u : Trail) → Past number two u → TopLost (follow_line want u.lines u)
  past_line want u p = here u.lines refl
    where
      by_test : (line : List ℕ) (lines : List (List ℕ)) → u.lines ≡ line ∷ lines → (b : Bool) → TopLost {A = Unit {0}} (taken_if b tt u)
      by_test line lines e true = past_taken u line lines e p
      by_test line lines e false = past_stop u p

      here : (lines : List (List ℕ)) → u.lines ≡ lines → TopLost (follow_line want lines u)
      here [] e = past_stop u p
      here (line ∷ lines) e = by_test line lines e (label_eq want line)

  -- the line that is wanted
  pub top_line : (want : List ℕ) → Top (λ t. follow_line want t.lines t) (λ t. follow_line want t.lines t)
  top_line want = record {
    near = λ t u n. subst (λ ls. TopLost (follow_line want u.lines u) ⊎ TopSame (follow_line want ls t) (follow_line want u.lines u)) (sym n.first)
        (subst (λ ks. TopLost (follow_line want ks u) ⊎ TopSame (follow_line want (n.line ∷ n.shared ++ one) t) (follow_line want ks u)) (sym n.second) (top_taken (label_eq want n.line) tt t u n));
    lost = λ u l. past_line want u l;
  }

  -- several lines that are wanted
  pub top_lines : (wanted : List (List ℕ)) → Top (follow_lines wanted) (follow_lines wanted)
  top_lines [] = top_pass tt
  top_lines (want ∷ wanted) = top_then _ _ (λ _. follow_lines wanted) (λ _. follow_lines wanted) (top_line want) λ _. top_lines wanted

  -- a limit that is told
  pub top_limit : (s : PlainState) → Top (follow_limit s) (follow_limit s)
  top_limit s = top_then _ _ (λ _. pass s) (λ _. pass s) (top_lines (refusal_line limit ∷ [])) λ _. top_pass s

  -- a walk that comes to what another one comes to
  top_same : {A : Type 0} (m k : Walk Trail A) → ((t : Trail) → m t ≡ k t) → Top k k → Top m m
  top_same m k e h = record {
    near = λ t u n. subst (λ o. TopLost (m u) ⊎ TopSame o (m u)) (sym (e t)) (subst (λ p. TopLost p ⊎ TopSame (k t) p) (sym (e u)) (h.near t u n));
    lost = λ u l. subst TopLost (sym (e u)) (h.lost u l);
  }

  -- the line that is wanted for a slice
  top_slice : (z : ℤ) (p : Part) → Top (λ t. follow_line (slice_line z p t.lines) t.lines t) (λ t. follow_line (slice_line z p t.lines) t.lines t)
  top_slice z p = record {
    near = λ t u n. subst (λ ls. TopLost (follow_line (slice_line z p u.lines) u.lines u) ⊎ TopSame (follow_line (slice_line z p ls) ls t) (follow_line (slice_line z p u.lines) u.lines u)) (sym n.first)
        (subst (λ ks. TopLost (follow_line (slice_line z p ks) ks u) ⊎ TopSame (follow_line (slice_line z p (n.line ∷ n.shared ++ one)) (n.line ∷ n.shared ++ one) t) (follow_line (slice_line z p ks) ks u)) (sym n.second)
        (top_taken (label_eq (slice_line z p (n.line ∷ [])) n.line) tt t u n));
    lost = λ u l. past_line (slice_line z p u.lines) u l;
  }

  -- those for several slices
  top_each : (z : ℤ) (ps : List Part) → Top (follow_each z ps) (follow_each z ps)
  top_each z [] = top_pass tt
  top_each z (p ∷ ps) = top_then _ _ (λ _. follow_each z ps) (λ _. follow_each z ps) (top_slice z p) λ _. top_each z ps

  -- the verdict lines of a section
  top_shown : (z : ℤ) (ps : List Part) → Top (follow_shown z ps) (follow_shown z ps)
  top_shown z ps = top_then _ _ (λ _. follow_each z ps) (λ _. follow_each z ps) (top_line (verdict_text (Verdict.sections (length ps)))) λ _. top_each z ps

  -- the verdict lines of a reply
  top_reply : (n : ℕ) (s : PlainState) (d : Due) → Top (λ t. follow_reply n s (reply_at d t) t) (λ t. follow_reply n s (reply_at d t) t)
  top_reply n s (replied r) = top_then _ _ (λ _. pass (changed n s r.change)) (λ _. pass (changed n s r.change)) (top_lines (map verdict_text r.verdicts)) λ _. top_pass (changed n s r.change)
  top_reply n s (sliced z ps) =
      top_same (λ t. follow_reply n s (reply_at (sliced z ps) t) t) (λ t. after_first (λ _. pass s) (follow_shown z ps t)) (section_reply n s z ps)
      (top_then _ _ (λ _. pass s) (λ _. pass s) (top_shown z ps) λ _. top_pass s)

  -- the verdict lines, or a limit in their place
  top_verdicts : (n : ℕ) (s : PlainState) (allowed : Bool) (d : Due) → Top (λ t. follow_verdicts n s allowed (reply_at d t) t) (λ t. follow_verdicts n s allowed (reply_at d t) t)
  top_verdicts n s allowed d = record {
    near = λ t u m. subst (λ b. TopLost (follow_verdicts n s allowed (reply_at d u) u) ⊎ TopSame (elim (allowed && b) as (λ _. Outcome Trail PlainState) [ true ↦ follow_limit s t | false ↦ follow_reply n s (reply_at d t) t ]) (follow_verdicts n s allowed (reply_at d u) u)) (sym (tell_alike number one two (past number two) t u m)) (here t u m (allowed && tells_limit u.lines));
    lost = λ u l. past_here u l (allowed && tells_limit u.lines);
  }
    where
      here : (t u : Trail) → Close t u → (b : Bool) → TopLost (elim b as (λ _. Outcome Trail PlainState) [ true ↦ follow_limit s u | false ↦ follow_reply n s (reply_at d u) u ]) ⊎ TopSame (elim b as (λ _. Outcome Trail PlainState) [ true ↦ follow_limit s t | false ↦ follow_reply n s (reply_at d t) t ]) (elim b as (λ _. Outcome Trail PlainState) [ true ↦ follow_limit s u | false ↦ follow_reply n s (reply_at d u) u ])
      here t u m true = (top_limit s).near t u m
      here t u m false = (top_reply n s d).near t u m

      past_here : (u : Trail) → Past number two u → (b : Bool) → TopLost (elim b as (λ _. Outcome Trail PlainState) [ true ↦ follow_limit s u | false ↦ follow_reply n s (reply_at d u) u ])
      past_here u l true = (top_limit s).lost u l
      past_here u l false = (top_reply n s d).lost u l

  -- ---- commands

  -- a limit that is met
  top_allowed : (s : PlainState) (allowed : Bool) → Top (λ t. elim allowed as (λ _. Outcome Trail PlainState) [ true ↦ follow_limit s t | false ↦ stopped line_wrong t ]) (λ t. elim allowed as (λ _. Outcome Trail PlainState) [ true ↦ follow_limit s t | false ↦ stopped line_wrong t ])
  top_allowed s true = top_limit s
  top_allowed s false = top_stop line_wrong

  -- the line before a wrong one
  back_past : (u : Trail) → StopPast number two taken_wrong u → TopLost {A = PlainState} (stopped line_wrong (one_back u))
  back_past u p = let q = past_stop u p.1 in (omega (arith, p.0), omega (arith, q.1))

  -- what a row comes to past what is shared
  pub walk_lost : (n : ℕ) (s : PlainState) (allowed : Bool) (p : Outcome Trail Due) → StaysLost (Past number two) (StopPast number two) (DueHas Any AnyLabel) p → TopLost (follow_due n s allowed p)
  walk_lost n s allowed (done r u) l = (top_verdicts n s allowed r).lost u l.1
  walk_lost n s allowed (stopped line_wrong u) l = past_stop u l
  walk_lost n s allowed (stopped taken_wrong u) l = back_past u l
  walk_lost n s allowed (stopped limit_met u) l = (top_allowed s allowed).lost u l
  walk_lost n s allowed (stopped limit_told u) l = (top_allowed s allowed).lost u l

  -- a row that is stopped on both sides
  stop_near : (n : ℕ) (s : PlainState) (allowed : Bool) (e : Stop) (t u : Trail) → StopNear number one two (past number two) e t u → TopLost (follow_due n s allowed (stopped e u)) ⊎ TopSame (follow_due n s allowed (stopped e t)) (follow_due n s allowed (stopped e u))
  stop_near n s allowed line_wrong t u m = inr (m.numbers, close_below t u m)
  stop_near n s allowed taken_wrong t u m = ⊎_elim (λ c. inr (ap (λ k. k - 1) c.numbers, let b = close_below t u c in omega (arith, b))) (λ e. inr (ap (λ k. k - 1) e.numbers, let p = e.place in omega (arith, p, some))) m
  stop_near n s allowed limit_met t u m = (top_allowed s allowed).near t u m
  stop_near n s allowed limit_told t u m = (top_allowed s allowed).near t u m

  -- what a row comes to on both sides
  walk_near : (n : ℕ) (s : PlainState) (allowed : Bool) (o p : Outcome Trail Due) → SameOutcome number one two (past number two) (DueHas Any AnyLabel) o p → TopLost (follow_due n s allowed p) ⊎ TopSame (follow_due n s allowed o) (follow_due n s allowed p)
  walk_near n s allowed (done r t) (done y u) m = subst (λ z. TopLost (follow_verdicts n s allowed (reply_at z u) u) ⊎ TopSame (follow_verdicts n s allowed (reply_at r t) t) (follow_verdicts n s allowed (reply_at z u) u)) m.0 ((top_verdicts n s allowed r).near t u m.2)
  walk_near n s allowed (stopped e t) (stopped z u) m = subst (λ y. TopLost (follow_due n s allowed (stopped y u)) ⊎ TopSame (follow_due n s allowed (stopped e t)) (follow_due n s allowed (stopped y u))) m.0 (stop_near n s allowed e t u m.1)
  walk_near n s allowed (done r t) (stopped z u) m = absurd m
  walk_near n s allowed (stopped e t) (done y u) m = absurd m

  -- what a row comes to, up to its slices and then with them
  top_due : (n : ℕ) (s : PlainState) (c : Command) → Top (λ t. follow_due n s (limit_allowed s c) (due_row line_tester s c t)) (λ t. follow_due n s (limit_allowed s c) (due_row line_tester s c t))
  unfolding past
  top_due n s c =
      let b = row_beside number one two (past number two) AnyLabel s (any_state s) c (any_command c) in
      record {
        near = λ t u m. ⊎_elim (λ l. inl (walk_lost n s (limit_allowed s c) (due_row line_tester s c u) l)) (λ q. walk_near n s (limit_allowed s c) (due_row line_tester s c t) (due_row line_tester s c u) q) (b.near t u m);
        lost = λ u l. walk_lost n s (limit_allowed s c) (due_row line_tester s c u) (b.lost u l);
      }

  -- the answer to a command
  pub top_command : (n : ℕ) (s : PlainState) (c : Command) → Top (follow_command n s c) (follow_command n s c)
  top_command n s c = top_same (follow_command n s c) (λ t. follow_due n s (limit_allowed s c) (due_row line_tester s c t)) (command_is_due n s c) (top_due n s c)

  -- ---- answers

  -- the answer to a line that is no command
  pub top_fault : (s : PlainState) (f : Fault) → Top (follow_fault s f) (follow_fault s f)
  top_fault s f = top_then _ _ (λ _. pass s) (λ _. pass s) (top_lines (refusal_line (Refusal.bad f) ∷ [])) λ _. top_pass s

  -- the answer to a text that is read so
  pub top_reading : (n : ℕ) (s : PlainState) (r : Reading) → Top (follow_reading n s r) (follow_reading n s r)
  top_reading n s (command c) = top_command n s c
  top_reading n s (bad f) = top_fault s f
  top_reading n s blank = top_stop line_wrong

  -- a walk from a trail on which a line stands
  pub record TopFilled {A : Type 0} (m k : Walk Trail A) : Type 0 where
    pub near : (t u : Trail) → Close t u → TopLost (k u) ⊎ TopSame (m t) (k u)
    pub lost : (u : Trail) (line : List ℕ) (lines : List (List ℕ)) → u.lines ≡ line ∷ lines → Past number two u → TopLost (k u)

  -- where what is shared ends, the second walk is past it
  ended_past : (t u : Trail) → Ended number one two (past number two) t u → Past number two u
  unfolding past
  ended_past t u e = (past number two).enters u e.place e.lines

  -- behind a line that is taken
  behind_taken : {A : Type 0} (m : Walk Trail A) → Top m m → TopFilled (λ t. m (taken t)) (λ t. m (taken t))
  behind_taken m h = record {
    near = λ t u n. ⊎_elim (λ c. h.near (taken t) (taken u) c) (λ e. inl (h.lost (taken u) (ended_past (taken t) (taken u) e))) (step number one two (past number two) t u n);
    lost = λ u line lines e p. h.lost (taken u) (past_taken u line lines e p);
  }

  -- a stop, on a trail on which a line stands
  filled_stop : {A : Type 0} (s : Stop) → TopFilled {A = A} (stop s) (stop s)
  filled_stop {A} s = record { near = (top_stop {A = A} s).near; lost = λ u line lines e p. (top_stop {A = A} s).lost u p }

  -- the answer to an echo that has a text
  top_text : (n : ℕ) (s : PlainState) (r : Reading) → TopFilled (follow_text n s r) (follow_text n s r)
  top_text n s r = here (may_be_echoed r)
    where
      here : (b : Bool) → TopFilled (λ t. elim b as (λ _. Outcome Trail PlainState) [ true ↦ follow_reading n s r (taken t) | false ↦ stopped line_wrong t ]) (λ t. elim b as (λ _. Outcome Trail PlainState) [ true ↦ follow_reading n s r (taken t) | false ↦ stopped line_wrong t ])
      here true = behind_taken (follow_reading n s r) (top_reading n s r)
      here false = filled_stop line_wrong

  -- the answer to an echo
  top_echo : (v : Version) (n : ℕ) (s : PlainState) (o : Option (List ℕ)) → TopFilled (follow_echo v n s o) (follow_echo v n s o)
  top_echo v n s None = behind_taken (follow_fault s too_long) (top_fault s too_long)
  top_echo v n s (Some text) = top_text n s (reading v text)

  -- the state after an answer
  abbrev answered : Version → Progress → Echo → Walk Trail Progress
  answered v q e = do
    s ← λ t. follow_echo v e.number q.state e.text (with_no_tests t)
    pass (record { last = e.number; state = s })

  -- near each other at the beginning of a command
  close_again : (t u : Trail) → Close t u → Close (with_no_tests t) (with_no_tests u)
  close_again t u n = record { line = n.line; shared = n.shared; first = n.first; second = n.second; numbers = n.numbers; tests = refl; place = n.place }

  -- an answer whose number is higher
  top_answered : (v : Version) (q : Progress) (e : Echo) → TopFilled (answered v q e) (answered v q e)
  top_answered v q e =
      let h = top_echo v e.number q.state e.text in
      record {
        near = λ t u n. ⊎_elim (λ l. inl (top_lost_then (ended q e) (ended q e) (λ s. top_pass (told q e s)) (follow_echo v e.number q.state e.text (with_no_tests u)) l)) (λ r. top_near_then (ended q e) (ended q e) (λ s. top_pass (told q e s)) (follow_echo v e.number q.state e.text (with_no_tests t)) (follow_echo v e.number q.state e.text (with_no_tests u)) r) (h.near (with_no_tests t) (with_no_tests u) (close_again t u n));
        lost = λ u line lines f p. top_lost_then (ended q e) (ended q e) (λ s. top_pass (told q e s)) (follow_echo v e.number q.state e.text (with_no_tests u)) (h.lost (with_no_tests u) line lines f (record { reached = p.reached; left = p.left }));
      }
    where
      told : Progress → Echo → PlainState → Progress
      told q e s = record { last = e.number; state = s }

      ended : Progress → Echo → PlainState → Walk Trail Progress
      ended q e s = pass (told q e s)

  -- an answer whose echo is read so
  top_numbered : (v : Version) (q : Progress) (o : Option Echo) → TopFilled (follow_numbered v q o) (follow_numbered v q o)
  top_numbered v q None = filled_stop line_wrong
  top_numbered v q (Some e) = here (nat_lt q.last e.number)
    where
      here : (b : Bool) → TopFilled (elim b as (λ _. Walk Trail Progress) [ false ↦ stop line_wrong | true ↦ answered v q e ]) (elim b as (λ _. Walk Trail Progress) [ false ↦ stop line_wrong | true ↦ answered v q e ])
      here true = top_answered v q e
      here false = filled_stop line_wrong

  -- whole answers
  pub top_answer : (v : Version) (q : Progress) → Top (follow_answer v q) (follow_answer v q)
  unfolding follow_answer
  top_answer v q = record {
    near = λ t u n. subst (λ o. TopLost (follow_numbered v q (next_echo u.lines) u) ⊎ TopSame (follow_numbered v q o t) (follow_numbered v q (next_echo u.lines) u)) (sym (ap next_echo n.first ∙ sym (ap next_echo n.second))) ((top_numbered v q (next_echo u.lines)).near t u n);
    lost = λ u p. here u p u.lines refl;
  }
    where
      here : (u : Trail) → Past number two u → (lines : List (List ℕ)) → u.lines ≡ lines → TopLost (follow_numbered v q (next_echo lines) u)
      here u p [] e = past_stop u p
      here u p (line ∷ lines) e = (top_numbered v q (echo_read line)).lost u line lines e p
