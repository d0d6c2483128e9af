-- Before the wrong line an accepted report begins with the lines so far.
use Rattle.std.proofs.Common.{◌≡◌, ℕ, suc, ℤ, ◌+◌, ◌-◌, ◌≤◌, ◌<◌, nat_lt, Bool, true, false, ◌&&◌, inl, inr, ⊎_elim, List, [], ◌∷◌, ◌++◌, map, length, Option, Some, None, refl, sym, ap, ◌∙◌, subst, arith}
use Rattle.rp_language.specs.Name.{label_eq}
use Rattle.rp_semantics.specs.Walk.{Stop, limit_met, limit_told, line_wrong, taken_wrong, Outcome, done, stopped, after_first, Walk, pass, stop}
use Rattle.rp_language.specs.Expression.{Command}
use Rattle.rp_geometry.specs.sets.Shape.{Part}
use Rattle.rp_model.specs.states.State.{PlainState, changed}
use Rattle.rp_model.specs.commands.Verdict.{Refusal, Verdict, refused, section_lines}
use Rattle.rp_model.specs.commands.Row.{row}
use Rattle.rp_language.specs.Grammar.{Version, Fault, too_long, Reading, blank, command, bad, reading}
use Rattle.rp_reports.specs.Text.{verdict_text}
use Rattle.rp_reports.specs.ProofText.{Echo, echo_read}
use Rattle.rp_reports.specs.Check.{Trail, AreLines, refusal_line, tells_limit, taken_if, follow_line, follow_lines, limit_allowed, follow_limit, follow_reply, follow_walk, follow_command, follow_fault, follow_reading, may_be_echoed, follow_text, follow_echo, Progress, with_no_tests, follow_numbered, follow_answer, line_tester}
use Rattle.rp_parametricity.proofs.Kept.{StateHas, CommandHas, ReplyHas}
use Rattle.rp_checker_completeness.proofs.Due.{Due, DueHas, replied, sliced, due_row, due_is_ready}
use Rattle.rp_checker_completeness.proofs.Shown.{reply_at, follow_due, command_is_due, slice_line, follow_each, follow_shown, section_reply, found_slices, each_taken, shown_taken}
use Rattle.rp_checker_completeness.proofs.LooseWords.{++-none}
use Rattle.rp_checker_completeness.proofs.TakenParts.{trail}
use Rattle.rp_checker_completeness.proofs.Commands.{Any, AnyLabel, any_state, any_command, ready, row_is_ready}
use Rattle.rp_checker_completeness.proofs.Beside.{Near, StopNear, SameOutcome, Pair}
use Rattle.rp_checker_completeness.proofs.LimitAhead.{row_beside, limit_line, AtLimit, row_at_limit, limit_ahead, row_near_limit}
use Rattle.rp_checker_completeness.proofs.ReadNames.{Named}
use Rattle.rp_checker_completeness.proofs.LineTexts.{verdicts_are_lines}
use Rattle.rp_checker_completeness.proofs.StatesNamed.{RowNamed, row_named, reply_of, NamedReply, told_lines, ReadsNames, reads_names}
use Rattle.rp_checker_completeness.proofs.ToldLines.{lines_taken}
use Rattle.rp_checker_completeness.proofs.CommandTaken.{limit_accepted, slices_proper}
use Rattle.rp_checker_completeness.proofs.Beyond.{StopPast, past}
use Rattle.rp_checker_completeness.proofs.AnswersBeside.{TopLost}

-- ---- ends

-- some lines more bring a walk to a result where no line is left
pub record EndsWith {A : Type 0} (m : Walk Trail A) (shared : List (List ℕ)) (n tests : ℕ) : Type 0 where
  pub more : List (List ℕ)
  pub are_lines : AreLines more
  pub result : A
  pub after : ℕ
  pub counted : ℕ
  pub is : m (trail (shared ++ more) n tests) ≡ done result (trail [] after counted)

-- ---- what is shared is the same

-- two beginnings of one list that are as long are the same
pub same_beginning : (a b two : List (List ℕ)) → a ++ two ≡ b ++ two → length a ≡ length b → a ≡ b
same_beginning [] [] two e l = refl
same_beginning [] (y ∷ b) two e l = absurd (none (length b) l)
  where
    none : (n : ℕ) → 0 ≡ suc n → ⊥
    none n e = omega (arith, e)
same_beginning (x ∷ a) [] two e l = absurd (none (length a) l)
  where
    none : (n : ℕ) → suc n ≡ 0 → ⊥
    none n e = omega (arith, e)
same_beginning (x ∷ a) (y ∷ b) two e l = λ i. heads x y (a ++ two) (b ++ two) e i ∷ same_beginning a b two (tails x y (a ++ two) (b ++ two) e) (less (length a) (length b) l) i
  where
    heads : (x y : List ℕ) (k m : List (List ℕ)) → x ∷ k ≡ y ∷ m → x ≡ y
    heads x y k m e = cc

    tails : (x y : List ℕ) (k m : List (List ℕ)) → x ∷ k ≡ y ∷ m → k ≡ m
    tails x y k m e = cc

    less : (m n : ℕ) → suc m ≡ suc n → m ≡ n
    less m n e = omega (arith, e)

module _ (number : ℕ) (some : 0 < number) (two : List (List ℕ)) where
  -- past what is shared
  abbrev LostAt : {A : Type 0} → Outcome Trail A → Type 0
  LostAt o = TopLost number some [] two o

  -- the number of a trail before the end of what is shared
  before_end : (n : ℕ) (c : List (List ℕ)) → n + suc (length c) ≡ number → number ≤ n → ⊥
  before_end n c e l = here n (length c) e l
    where
      here : (a b : ℕ) → a + suc b ≡ number → number ≤ a → ⊥
      here a b e l = omega (arith, e, l)

  -- ---- lines that are wanted

  -- the lines that are wanted go on
  lines_go_on : (wanted shared : List (List ℕ)) → AreLines wanted → (n tests : ℕ) → n + length shared ≡ number → LostAt (follow_lines wanted (trail (shared ++ two) n tests)) → EndsWith (follow_lines wanted) shared n tests
  lines_go_on wanted [] al n tests p l = let t = lines_taken wanted [] n tests in record { more = wanted; are_lines = al; result = tt; after = t.0; counted = tests; is = ap (λ ls. follow_lines wanted (trail ls n tests)) (sym (++-none wanted)) ∙ t.1 }
  lines_go_on [] (line ∷ shared) al n tests p l = absurd (before_end n shared p l.reached)
  lines_go_on (want ∷ wanted) (line ∷ shared) al n tests p l = by_test (label_eq want line) refl (λ m. lines_go_on wanted shared al.1 (n + 1) tests (place n (length shared) p) m) l
    where
      place : (a b : ℕ) → a + suc b ≡ number → (a + 1) + b ≡ number
      place a b e = omega (arith, e)

      goes : (b : Bool) → label_eq want line ≡ b → b ≡ true → EndsWith (follow_lines wanted) shared (n + 1) tests → EndsWith (follow_lines (want ∷ wanted)) (line ∷ shared) n tests
      goes b e f r = record { more = r.more; are_lines = r.are_lines; result = r.result; after = r.after; counted = r.counted; is = ap (λ (c : Bool). after_first (λ _. follow_lines wanted) (taken_if c tt (trail (line ∷ shared ++ r.more) n tests))) (e ∙ f) ∙ r.is }

      by_test : (b : Bool) → label_eq want line ≡ b → (LostAt (follow_lines wanted (trail (shared ++ two) (n + 1) tests)) → EndsWith (follow_lines wanted) shared (n + 1) tests)
          → LostAt (after_first (λ _. follow_lines wanted) (taken_if {A = Unit {0}} b tt (trail (line ∷ shared ++ two) n tests))) → EndsWith (follow_lines (want ∷ wanted)) (line ∷ shared) n tests
      by_test true e rest m = goes true e refl (rest m)
      by_test false e rest m = absurd (before_end n shared p m.0)

  -- lines that are wanted, and then a state
  lost_before : (s : PlainState) (o : Outcome Trail (Unit {0})) → LostAt (after_first (λ _. pass s) o) → LostAt o
  lost_before s (done x u) l = l
  lost_before s (stopped z u) l = l

  -- lines that are wanted, and then a state, go on
  pub told_go_on : (wanted : List (List ℕ)) → AreLines wanted → (s : PlainState) (shared : List (List ℕ)) (n tests : ℕ) → n + length shared ≡ number → LostAt (after_first (λ _. pass s) (follow_lines wanted (trail (shared ++ two) n tests)))
      → EndsWith (λ t. after_first (λ _. pass s) (follow_lines wanted t)) shared n tests
  told_go_on wanted al s shared n tests p l =
      let r = lines_go_on wanted shared al n tests p (lost_before s (follow_lines wanted (trail (shared ++ two) n tests)) l) in
      record { more = r.more; are_lines = r.are_lines; result = s; after = r.after; counted = r.counted; is = ap (after_first (λ _. pass s)) r.is }

  -- ---- slices

  -- a line that is wanted, and then a walk that goes on
  line_goes_on : (want : List (List ℕ) → List ℕ) (w line : List ℕ) → ((ls : List (List ℕ)) → want (line ∷ ls) ≡ w) → (next : Walk Trail (Unit {0})) (shared : List (List ℕ)) (n tests : ℕ) → n + suc (length shared) ≡ number
      → (LostAt (next (trail (shared ++ two) (n + 1) tests)) → EndsWith next shared (n + 1) tests)
      → LostAt (after_first (λ _. next) (taken_if {A = Unit {0}} (label_eq w line) tt (trail (line ∷ shared ++ two) n tests))) → EndsWith (λ t. after_first (λ _. next) (follow_line (want t.lines) t.lines t)) (line ∷ shared) n tests
  line_goes_on want w line same next shared n tests p rest l = by_test (label_eq w line) refl l
    where
      goes : label_eq w line ≡ true → EndsWith next shared (n + 1) tests → EndsWith (λ t. after_first (λ _. next) (follow_line (want t.lines) t.lines t)) (line ∷ shared) n tests
      goes e r = record {
        more = r.more;
        are_lines = r.are_lines;
        result = r.result;
        after = r.after;
        counted = r.counted;
        is = ap (λ (x : List ℕ). after_first (λ _. next) (taken_if {A = Unit {0}} (label_eq x line) tt (trail (line ∷ shared ++ r.more) n tests))) (same (shared ++ r.more))
            ∙ ap (λ (c : Bool). after_first (λ _. next) (taken_if {A = Unit {0}} c tt (trail (line ∷ shared ++ r.more) n tests))) e
            ∙ r.is;
      }

      by_test : (b : Bool) → label_eq w line ≡ b → LostAt (after_first (λ _. next) (taken_if {A = Unit {0}} b tt (trail (line ∷ shared ++ two) n tests))) → EndsWith (λ t. after_first (λ _. next) (follow_line (want t.lines) t.lines t)) (line ∷ shared) n tests
      by_test true e m = goes e (rest m)
      by_test false e m = absurd (before_end n shared p m.0)

  -- the place of the next line
  next_place : (a b : ℕ) → a + suc b ≡ number → (a + 1) + b ≡ number
  next_place a b e = omega (arith, e)

  -- the lines of slices go on: where none is shared, with those of the slices that are found
  each_go_on : (z : ℤ) (ps : List Part) (shared : List (List ℕ)) (n tests : ℕ) → n + length shared ≡ number → LostAt (follow_each z ps (trail (shared ++ two) n tests)) → EndsWith (follow_each z ps) shared n tests
  each_go_on z ps [] n tests p l =
      let t = each_taken z ps [] n tests in
      record {
        more = map verdict_text (map Verdict.slice (found_slices z ps));
        are_lines = verdicts_are_lines (map Verdict.slice (found_slices z ps)) (slices_proper Named (found_slices z ps));
        result = tt;
        after = t.0;
        counted = tests;
        is = ap (λ ls. follow_each z ps (trail ls n tests)) (sym (++-none (map verdict_text (map Verdict.slice (found_slices z ps))))) ∙ t.1;
      }
  each_go_on z [] (line ∷ shared) n tests p l = absurd (before_end n shared p l.reached)
  each_go_on z (part ∷ ps) (line ∷ shared) n tests p l =
      line_goes_on (slice_line z part) (slice_line z part (line ∷ [])) line (λ ls. refl) (follow_each z ps) shared n tests p (λ m. each_go_on z ps shared (n + 1) tests (next_place n (length shared) p) m) l

  -- the verdict lines of a section go on
  shown_go_on : (z : ℤ) (ps : List Part) (shared : List (List ℕ)) (n tests : ℕ) → n + length shared ≡ number → LostAt (follow_shown z ps (trail (shared ++ two) n tests)) → EndsWith (follow_shown z ps) shared n tests
  shown_go_on z ps [] n tests p l =
      let t = shown_taken z ps [] n tests in
      record {
        more = map verdict_text (section_lines (found_slices z ps));
        are_lines = verdicts_are_lines (section_lines (found_slices z ps)) (tt, slices_proper Named (found_slices z ps));
        result = tt;
        after = t.0;
        counted = tests;
        is = ap (λ ls. follow_shown z ps (trail ls n tests)) (sym (++-none (map verdict_text (section_lines (found_slices z ps))))) ∙ t.1;
      }
  shown_go_on z ps (line ∷ shared) n tests p l =
      line_goes_on (λ _. verdict_text (Verdict.sections (length ps))) (verdict_text (Verdict.sections (length ps))) line (λ ls. refl) (follow_each z ps) shared n tests p (λ m. each_go_on z ps shared (n + 1) tests (next_place n (length shared) p) m) l

  -- the verdict lines of a reply go on
  reply_goes_on : (n : ℕ) (s : PlainState) (d : Due) → DueHas Any Named d → (shared : List (List ℕ)) (m tests : ℕ) → m + length shared ≡ number → LostAt (follow_reply n s (reply_at d (trail (shared ++ two) m tests)) (trail (shared ++ two) m tests)) → EndsWith (λ t. follow_reply n s (reply_at d t) t) shared m tests
  reply_goes_on n s (replied r) q shared m tests p l = told_go_on (map verdict_text r.verdicts) (told_lines r q) (changed n s r.change) shared m tests p l
  reply_goes_on n s (sliced z ps) q shared m tests p l =
      let t : Trail = trail (shared ++ two) m tests in
      let r = shown_go_on z ps shared m tests p (lost_before s (follow_shown z ps t) (subst LostAt (section_reply n s z ps t) l)) in
      record { more = r.more; are_lines = r.are_lines; result = s; after = r.after; counted = r.counted; is = section_reply n s z ps (trail (shared ++ r.more) m tests) ∙ ap (after_first (λ _. pass s)) r.is }

  -- ---- commands

  -- where no limit may be told
  ready_goes_on : (n : ℕ) (s : PlainState) → StateHas Any Named s → (c : Command) → CommandHas Any Named c → limit_allowed s c ≡ false → (shared : List (List ℕ)) (m tests : ℕ) → m + length shared ≡ number → LostAt (follow_command n s c (trail (shared ++ two) m tests)) → EndsWith (follow_command n s c) shared m tests
  unfolding follow_command
  ready_goes_on n s h c k e shared m tests p l =
      let r = told_go_on (map verdict_text (ready s c).verdicts) (told_lines (ready s c) (ready_told (trail [] 0 0))) (changed n s (ready s c).change) shared m tests p (subst LostAt (told (trail (shared ++ two) m tests)) l) in
      record { more = r.more; are_lines = r.are_lines; result = r.result; after = r.after; counted = r.counted; is = told (trail (shared ++ r.more) m tests) ∙ r.is }
    where
      ready_told : (t : Trail) → ReplyHas Any Named (ready s c)
      ready_told t = reply_of (ready s c) t (subst RowNamed (due_is_ready line_tester s c e t) (row_named s h c k t))

      told : (t : Trail) → follow_walk n s (limit_allowed s c) (row line_tester s c t) ≡ follow_reply n s (ready s c) t
      told t = ap (follow_walk n s (limit_allowed s c)) (row_is_ready line_tester s c e t)
          ∙ ap (λ (b : Bool). elim (b && tells_limit t.lines) as (λ _. Outcome Trail PlainState) [ true ↦ follow_limit s t | false ↦ follow_reply n s (ready s c) t ]) e

  -- ---- rows

  -- a trail over some of the shared lines
  pub record Over (shared : List (List ℕ)) (v : Trail) : Type 0 where
    pub lines : v.lines ≡ shared ++ two
    pub place : v.number + length shared ≡ number
    pub filled : 0 < length shared

  -- the same outcome, with other lines behind what is shared
  abbrev moved : {A : Type 0} → List (List ℕ) → Outcome Trail A → Outcome Trail A
  moved lines (done r v) = done r (trail lines v.number v.tests)
  moved lines (stopped z v) = stopped z (trail lines v.number v.tests)

  -- the trail of an outcome
  abbrev trail_of : {A : Type 0} → Outcome Trail A → Trail
  trail_of (done r v) = v
  trail_of (stopped z v) = v

  -- over shared lines the number is not reached
  over_below : (shared : List (List ℕ)) (v : Trail) → Over shared v → number ≤ v.number → ⊥
  over_below shared v o l = here v.number (length shared) o.place o.filled l
    where
      here : (a b : ℕ) → a + b ≡ number → 0 < b → number ≤ a → ⊥
      here a b e f l = omega (arith, e, f, l)

  -- nor is it the number
  over_not_end : (shared : List (List ℕ)) (v : Trail) → Over shared v → v.number ≡ number → ⊥
  over_not_end shared v o e = over_below shared v o (let f = e in omega (arith, f))

  -- near a trail over shared lines
  near_lines : (more shared : List (List ℕ)) (x v : Trail) → Near number more two (past number two) x v → Over shared v → x.lines ≡ shared ++ more
  near_lines more shared x v n o = n.first ∙ ap (λ c. c ++ more) (same_beginning (n.line ∷ n.shared) shared two (sym n.second ∙ o.lines) (as_long v.number (length n.shared) (length shared) n.place o.place))
    where
      as_long : (a b c : ℕ) → a + suc b ≡ number → a + c ≡ number → suc b ≡ c
      as_long a b c e f = omega (arith, e, f)

  -- a trail near one over shared lines is known
  moved_near : (more shared : List (List ℕ)) (x v : Trail) → Near number more two (past number two) x v → Over shared v → x ≡ trail (shared ++ more) v.number v.tests
  moved_near more shared x v n o = λ i. trail (near_lines more shared x v n o i) (n.numbers i) (n.tests i)

  -- a stop over shared lines is near
  stop_close : (more shared : List (List ℕ)) (z : Stop) (x v : Trail) → StopNear number more two (past number two) z x v → Over shared v → Near number more two (past number two) x v
  stop_close more shared line_wrong x v m o = m
  stop_close more shared limit_met x v m o = m
  stop_close more shared limit_told x v m o = m
  stop_close more shared taken_wrong x v m o = ⊎_elim (λ n. n) (λ e. absurd (over_not_end shared v o e.place)) m

  -- a stop past the number has reached it
  lost_stop_below : (z : Stop) (v : Trail) → StopPast number two z v → number ≤ v.number
  lost_stop_below line_wrong v l = l.reached
  lost_stop_below limit_met v l = l.reached
  lost_stop_below limit_told v l = l.reached
  lost_stop_below taken_wrong v l = l.1.reached

  -- the row over the shared lines comes to the same, whatever stands behind
  row_again : (s : PlainState) (c : Command) (more shared : List (List ℕ)) (o p : Outcome Trail Due) → Pair number more two (past number two) (DueHas Any AnyLabel) o p → Over shared (trail_of p) → o ≡ moved (shared ++ more) p
  unfolding past
  row_again s c more shared o (done y v) (inl l) f = absurd (over_below shared v f l.1.reached)
  row_again s c more shared o (stopped z v) (inl l) f = absurd (over_below shared v f (lost_stop_below z v l))
  row_again s c more shared (done r x) (done y v) (inr h) f = λ i. done (h.0 i) (moved_near more shared x v h.2 f i)
  row_again s c more shared (stopped e x) (stopped z v) (inr h) f = λ i. stopped (h.0 i) (moved_near more shared x v (stop_close more shared e x v h.1 f) f i)
  row_again s c more shared (done r x) (stopped z v) (inr h) f = absurd h
  row_again s c more shared (stopped e x) (done y v) (inr h) f = absurd h

  -- ---- behind a row

  -- some lines more bring what a row comes to, to a state where no line is left
  pub record WalkEnds (n : ℕ) (s : PlainState) (allowed : Bool) (p : Outcome Trail Due) (shared : List (List ℕ)) : Type 0 where
    pub more : List (List ℕ)
    pub are_lines : AreLines more
    pub result : PlainState
    pub after : ℕ
    pub counted : ℕ
    pub is : follow_due n s allowed (moved (shared ++ more) p) ≡ done result (trail [] after counted)

  -- a limit is told of in what is shared, whatever stands behind
  tells_shared : (shared : List (List ℕ)) → 0 < length shared → (one other : List (List ℕ)) → tells_limit (shared ++ one) ≡ tells_limit (shared ++ other)
  tells_shared [] f one other = absurd (omega (arith, f))
  tells_shared (line ∷ shared) f one other = refl

  -- a trail over shared lines is known
  over_trail : (shared : List (List ℕ)) (v : Trail) → Over shared v → v ≡ trail (shared ++ two) v.number v.tests
  over_trail shared v o = λ i. trail (o.lines i) v.number v.tests

  -- a limit that is told over shared lines goes on
  limit_ends : (s : PlainState) (shared : List (List ℕ)) (v : Trail) → Over shared v → LostAt (follow_limit s v) → EndsWith (follow_limit s) shared v.number v.tests
  limit_ends s shared v o l = told_go_on (limit_line ∷ []) (refl, tt) s shared v.number v.tests o.place (subst (λ t. LostAt (follow_limit s t)) (over_trail shared v o) l)

  -- the verdict lines of a reply go on
  verdicts_end : (n : ℕ) (s : PlainState) (r : Due) → DueHas Any Named r → (shared : List (List ℕ)) (v : Trail) → Over shared v → (b : Bool) → tells_limit (shared ++ two) ≡ b → LostAt (elim b as (λ _. Outcome Trail PlainState) [ true ↦ follow_limit s v | false ↦ follow_reply n s (reply_at r v) v ]) → WalkEnds n s true (done r v) shared
  verdicts_end n s r q shared v o true f l =
      let e = limit_ends s shared v o l in
      record { more = e.more; are_lines = e.are_lines; result = e.result; after = e.after; counted = e.counted; is = ap (λ (b : Bool). elim b as (λ _. Outcome Trail PlainState) [ true ↦ follow_limit s (trail (shared ++ e.more) v.number v.tests) | false ↦ follow_reply n s (reply_at r (trail (shared ++ e.more) v.number v.tests)) (trail (shared ++ e.more) v.number v.tests) ]) (tells_shared shared o.filled e.more two ∙ f) ∙ e.is }
  verdicts_end n s r q shared v o false f l =
      let e = reply_goes_on n s r q shared v.number v.tests o.place (subst (λ t. LostAt (follow_reply n s (reply_at r t) t)) (over_trail shared v o) l) in
      record { more = e.more; are_lines = e.are_lines; result = e.result; after = e.after; counted = e.counted; is = ap (λ (b : Bool). elim b as (λ _. Outcome Trail PlainState) [ true ↦ follow_limit s (trail (shared ++ e.more) v.number v.tests) | false ↦ follow_reply n s (reply_at r (trail (shared ++ e.more) v.number v.tests)) (trail (shared ++ e.more) v.number v.tests) ]) (tells_shared shared o.filled e.more two ∙ f) ∙ e.is }

  -- what a row comes to over shared lines goes on
  walk_ends : (n : ℕ) (s : PlainState) (p : Outcome Trail Due) → NamedReply p → (shared : List (List ℕ)) → Over shared (trail_of p) → LostAt (follow_due n s true p) → WalkEnds n s true p shared
  walk_ends n s (done r v) q shared o l = verdicts_end n s r q shared v o (tells_limit (shared ++ two)) refl (subst (λ ls. LostAt (elim (tells_limit ls) as (λ _. Outcome Trail PlainState) [ true ↦ follow_limit s v | false ↦ follow_reply n s (reply_at r v) v ])) o.lines l)
  walk_ends n s (stopped line_wrong v) q shared o l = absurd (over_below shared v o l.0)
  walk_ends n s (stopped taken_wrong v) q shared o l = absurd (over_below shared v o (let b = l.0 in omega (arith, b)))
  walk_ends n s (stopped limit_met v) q shared o l = let e = limit_ends s shared v o l in record { more = e.more; are_lines = e.are_lines; result = e.result; after = e.after; counted = e.counted; is = e.is }
  walk_ends n s (stopped limit_told v) q shared o l = let e = limit_ends s shared v o l in record { more = e.more; are_lines = e.are_lines; result = e.result; after = e.after; counted = e.counted; is = e.is }

  -- ---- where a limit may be told

  -- the lines that the first of two walks is over, if it is not stopped at the line behind
  record StillOver (o : Outcome Trail Due) : Type 0 where
    shared : List (List ℕ)
    over : Over shared (trail_of o)
    told : NamedReply o

  -- the first of two trails near each other is over the lines that are shared
  near_over : (v w : Trail) → Near number two (limit_line ∷ []) (limit_ahead number []) v w → (shared : List (List ℕ)) × Over shared v
  near_over v w n = (n.line ∷ n.shared, record { lines = n.first; place = ap (λ k. k + suc (length n.shared)) n.numbers ∙ n.place; filled = omega arith })

  -- the line before the number is not past it
  not_behind : (a b : ℕ) → a ≡ b → b ≡ number → number ≤ a - 1 → ⊥
  not_behind a b e f l = omega (arith, some, e, f, l)

  -- the first of two walks is over shared lines still
  still_over : (n : ℕ) (s : PlainState) (o p : Outcome Trail Due) → SameOutcome number two (limit_line ∷ []) (limit_ahead number []) (DueHas Any Named) o p → LostAt (follow_due n s true o) → StillOver o
  still_over n s (done r v) (done y w) h l = let k = near_over v w h.2 in record { shared = k.0; over = k.1; told = h.1 }
  still_over n s (stopped line_wrong v) (stopped z w) h l = let k = near_over v w h.1 in record { shared = k.0; over = k.1; told = tt }
  still_over n s (stopped limit_met v) (stopped z w) h l = let k = near_over v w h.1 in record { shared = k.0; over = k.1; told = tt }
  still_over n s (stopped limit_told v) (stopped z w) h l = let k = near_over v w h.1 in record { shared = k.0; over = k.1; told = tt }
  still_over n s (stopped taken_wrong v) (stopped z w) h l = ⊎_elim (λ m. let k = near_over v w m in record { shared = k.0; over = k.1; told = tt }) (λ e. absurd (not_behind v.number w.number e.numbers e.place l.0)) h.1
  still_over n s (done r v) (stopped z w) h l = absurd h
  still_over n s (stopped e v) (done y w) h l = absurd h

  -- where a limit may be told
  allowed_goes_on : (n : ℕ) (s : PlainState) → StateHas Any Named s → (c : Command) → CommandHas Any Named c → limit_allowed s c ≡ true → (shared : List (List ℕ)) (m tests : ℕ) → m + length shared ≡ number → LostAt (follow_command n s c (trail (shared ++ two) m tests)) → EndsWith (follow_command n s c) shared m tests
  allowed_goes_on n s sn c cn e [] m tests p l =
      let f = limit_accepted n s [] (limit_allowed s c) e (due_row line_tester s c (trail (limit_line ∷ []) m tests)) (row_at_limit s c [] (trail (limit_line ∷ []) m tests) refl) in
      record { more = limit_line ∷ []; are_lines = (refl, tt); result = s; after = f.0; counted = f.1; is = command_is_due n s c (trail (limit_line ∷ []) m tests) ∙ f.2 }
  allowed_goes_on n s sn c cn e (line ∷ shared) m tests p l =
      ⊎_elim told same (row_near_limit number two [] s sn c cn (trail (line ∷ shared ++ two) m tests) (trail (line ∷ shared ++ limit_line ∷ []) m tests)
      (record { line = line; shared = shared; first = refl; second = refl; numbers = refl; tests = refl; place = p }))
    where
      told : AtLimit [] (due_row line_tester s c (trail (line ∷ shared ++ limit_line ∷ []) m tests)) → EndsWith (follow_command n s c) (line ∷ shared) m tests
      told a =
          let f = limit_accepted n s [] (limit_allowed s c) e (due_row line_tester s c (trail (line ∷ shared ++ limit_line ∷ []) m tests)) a in
          record { more = limit_line ∷ []; are_lines = (refl, tt); result = s; after = f.0; counted = f.1; is = command_is_due n s c (trail (line ∷ shared ++ limit_line ∷ []) m tests) ∙ f.2 }

      same : SameOutcome number two (limit_line ∷ []) (limit_ahead number []) (DueHas Any Named) (due_row line_tester s c (trail (line ∷ shared ++ two) m tests)) (due_row line_tester s c (trail (line ∷ shared ++ limit_line ∷ []) m tests)) → EndsWith (follow_command n s c) (line ∷ shared) m tests
      same h =
          let lost : LostAt (follow_due n s true (due_row line_tester s c (trail (line ∷ shared ++ two) m tests))) = subst (λ b. LostAt (follow_due n s b (due_row line_tester s c (trail (line ∷ shared ++ two) m tests)))) e (subst LostAt (command_is_due n s c (trail (line ∷ shared ++ two) m tests)) l) in
          let over = still_over n s (due_row line_tester s c (trail (line ∷ shared ++ two) m tests)) (due_row line_tester s c (trail (line ∷ shared ++ limit_line ∷ []) m tests)) h lost in
          let ends = walk_ends n s (due_row line_tester s c (trail (line ∷ shared ++ two) m tests)) over.told over.shared over.over lost in
          record {
            more = ends.more;
            are_lines = ends.are_lines;
            result = ends.result;
            after = ends.after;
            counted = ends.counted;
            is = command_is_due n s c (trail (line ∷ shared ++ ends.more) m tests)
                ∙ ap (λ b. follow_due n s b (due_row line_tester s c (trail (line ∷ shared ++ ends.more) m tests))) e
                ∙ ap (follow_due n s true) (row_again s c ends.more over.shared (due_row line_tester s c (trail (line ∷ shared ++ ends.more) m tests)) (due_row line_tester s c (trail (line ∷ shared ++ two) m tests))
                ((row_beside number ends.more two (past number two) AnyLabel s (any_state s) c (any_command c)).near (trail (line ∷ shared ++ ends.more) m tests) (trail (line ∷ shared ++ two) m tests) (record { line = line; shared = shared; first = refl; second = refl; numbers = refl; tests = refl; place = p })) over.over)
                ∙ ends.is;
          }

  -- a command goes on
  command_goes_on : (n : ℕ) (s : PlainState) → StateHas Any Named s → (c : Command) → CommandHas Any Named c → (shared : List (List ℕ)) (m tests : ℕ) → m + length shared ≡ number → LostAt (follow_command n s c (trail (shared ++ two) m tests)) → EndsWith (follow_command n s c) shared m tests
  command_goes_on n s h c k shared m tests p l = by_test (limit_allowed s c) refl
    where
      by_test : (b : Bool) → limit_allowed s c ≡ b → EndsWith (follow_command n s c) shared m tests
      by_test true e = allowed_goes_on n s h c k e shared m tests p l
      by_test false e = ready_goes_on n s h c k e shared m tests p l

  -- ---- answers

  -- the answer to a line that is no command goes on
  fault_goes_on : (s : PlainState) (f : Fault) (shared : List (List ℕ)) (m tests : ℕ) → m + length shared ≡ number → LostAt (follow_fault s f (trail (shared ++ two) m tests)) → EndsWith (follow_fault s f) shared m tests
  fault_goes_on s f shared m tests p l = told_go_on (refusal_line (Refusal.bad f) ∷ []) (verdicts_are_lines (refused (Refusal.bad f) ∷ []) (tt, tt)) s shared m tests p l

  -- the answer to a text that is read so goes on
  reading_goes_on : (n : ℕ) (s : PlainState) → StateHas Any Named s → (r : Reading) → ReadsNames r → may_be_echoed r ≡ true → (shared : List (List ℕ)) (m tests : ℕ) → m + length shared ≡ number → LostAt (follow_reading n s r (trail (shared ++ two) m tests)) → EndsWith (follow_reading n s r) shared m tests
  reading_goes_on n s h (command c) k e shared m tests p l = command_goes_on n s h c k shared m tests p l
  reading_goes_on n s h (bad f) k e shared m tests p l = fault_goes_on s f shared m tests p l
  reading_goes_on n s h blank k e shared m tests p l = absurd (cc)

  -- the answer to an echo that has a text goes on
  text_goes_on : (n : ℕ) (s : PlainState) → StateHas Any Named s → (r : Reading) → ReadsNames r → (line : List ℕ) (shared : List (List ℕ)) (m tests : ℕ) → m + suc (length shared) ≡ number → LostAt (follow_text n s r (trail (line ∷ shared ++ two) m tests)) → EndsWith (follow_text n s r) (line ∷ shared) m tests
  text_goes_on n s h r k line shared m tests p l = by_test (may_be_echoed r) refl l
    where
      goes : (b : Bool) → may_be_echoed r ≡ b → b ≡ true → EndsWith (follow_reading n s r) shared (m + 1) tests → EndsWith (follow_text n s r) (line ∷ shared) m tests
      goes b e f w = record { more = w.more; are_lines = w.are_lines; result = w.result; after = w.after; counted = w.counted; is = ap (λ (b : Bool). elim b as (λ _. Outcome Trail PlainState) [ true ↦ follow_reading n s r (trail (shared ++ w.more) (m + 1) tests) | false ↦ stopped line_wrong (trail (line ∷ shared ++ w.more) m tests) ]) (e ∙ f) ∙ w.is }

      by_test : (b : Bool) → may_be_echoed r ≡ b → LostAt (elim b as (λ _. Outcome Trail PlainState) [ true ↦ follow_reading n s r (trail (shared ++ two) (m + 1) tests) | false ↦ stopped line_wrong (trail (line ∷ shared ++ two) m tests) ]) → EndsWith (follow_text n s r) (line ∷ shared) m tests
      by_test true e i = goes true e refl (reading_goes_on n s h r k e shared (m + 1) tests (next_place m (length shared) p) i)
      by_test false e k = absurd (before_end m shared p k.0)

  -- the answer to an echo goes on
  echo_goes_on : (v : Version) (n : ℕ) (s : PlainState) → StateHas Any Named s → (o : Option (List ℕ)) (line : List ℕ) (shared : List (List ℕ)) (m tests : ℕ) → m + suc (length shared) ≡ number → LostAt (follow_echo v n s o (trail (line ∷ shared ++ two) m tests)) → EndsWith (follow_echo v n s o) (line ∷ shared) m tests
  echo_goes_on v n s h None line shared m tests p l =
      let w = fault_goes_on s too_long shared (m + 1) tests (next_place m (length shared) p) l in
      record { more = w.more; are_lines = w.are_lines; result = w.result; after = w.after; counted = w.counted; is = w.is }
  echo_goes_on v n s h (Some text) line shared m tests p l = text_goes_on n s h (reading v text) (reads_names v text) line shared m tests p l

  -- an answer goes on
  pub answer_goes_on : (v : Version) (q : Progress) → StateHas Any Named q.state → (line : List ℕ) (shared : List (List ℕ)) (m tests : ℕ) → m + suc (length shared) ≡ number → LostAt (follow_answer v q (trail (line ∷ shared ++ two) m tests)) → EndsWith (follow_answer v q) (line ∷ shared) m tests
  unfolding follow_answer
  answer_goes_on v q h line shared m tests p l = by_echo (echo_read line) refl l
    where
      lost_answered : (e : Echo) (o : Outcome Trail PlainState) → LostAt {A = Progress} (after_first (λ s. pass (record { last = e.number; state = s })) o) → LostAt o
      lost_answered e (done s u) k = k
      lost_answered e (stopped z u) k = k

      goes : (e : Echo) → echo_read line ≡ Some e → nat_lt q.last e.number ≡ true → EndsWith (follow_echo v e.number q.state e.text) (line ∷ shared) m 0 → EndsWith (follow_answer v q) (line ∷ shared) m tests
      goes e f g w = record {
        more = w.more;
        are_lines = w.are_lines;
        result = record { last = e.number; state = w.result };
        after = w.after;
        counted = w.counted;
        is = ap (λ o. follow_numbered v q o (trail (line ∷ shared ++ w.more) m tests)) f
            ∙ ap (λ (b : Bool). (elim b as (λ _. Walk Trail Progress) [ false ↦ stop line_wrong | true ↦ (λ t. after_first (λ s. pass (record { last = e.number; state = s })) (follow_echo v e.number q.state e.text (with_no_tests t))) ]) (trail (line ∷ shared ++ w.more) m tests)) g
            ∙ ap (after_first (λ s. pass (record { last = e.number; state = s }))) w.is;
      }

      by_number : (e : Echo) → echo_read line ≡ Some e → (b : Bool) → nat_lt q.last e.number ≡ b
          → LostAt ((elim b as (λ _. Walk Trail Progress) [ false ↦ stop line_wrong | true ↦ (λ t. after_first (λ s. pass (record { last = e.number; state = s })) (follow_echo v e.number q.state e.text (with_no_tests t))) ]) (trail (line ∷ shared ++ two) m tests)) → EndsWith (follow_answer v q) (line ∷ shared) m tests
      by_number e f true g k = goes e f g (echo_goes_on v e.number q.state h e.text line shared m 0 p (lost_answered e (follow_echo v e.number q.state e.text (trail (line ∷ shared ++ two) m 0)) k))
      by_number e f false g k = absurd (before_end m shared p k.0)

      by_echo : (o : Option Echo) → echo_read line ≡ o → LostAt (follow_numbered v q o (trail (line ∷ shared ++ two) m tests)) → EndsWith (follow_answer v q) (line ∷ shared) m tests
      by_echo None f k = absurd (before_end m shared p k.0)
      by_echo (Some e) f k = by_number e f (nat_lt q.last e.number) refl k
