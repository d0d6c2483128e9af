-- An answer that the check accepts is true of the sets, and what the check keeps after it are parts of the sets after it.
use Rattle.std.proofs.Common.{◌≡◌, ℕ, suc, ◌<◌, ◌≤◌, Bool, true, false, ◌&&◌, inl, inr, List, [], ◌∷◌, ◌++◌, map, drop, Option, Some, None, nat_lt, refl, sym, ap, ◌∙◌, subst, arith, append_assoc}
use Rattle.rp_algebra.proofs.Options.{none_not_some}
use Rattle.rp_semantics.specs.Walk.{limit_met, limit_told, line_wrong, taken_wrong, Outcome, done, stopped, Walk, pass, stop, ◌>>=◌, ◌>>◌}
use Rattle.rp_language.specs.Expression.{Command}
use Rattle.rp_semantics.specs.FormLaws.{IfDone}
use Rattle.rp_language.specs.Grammar.{Version, Fault, too_long, bad_syntax, out_of_range, zero_half_space, too_many_nodes, Reading, blank, command, bad, reading}
use Rattle.rp_model.specs.states.State.{State, PlainState, parts_only, sets_only, changed}
use Rattle.rp_geometry.specs.parts.Parts.{IsCheckedPart}
use Rattle.rp_model.specs.states.Sound.{IsSoundWith, IsLaterThan}
use Rattle.rp_model.specs.commands.Verdict.{Verdict, refused, Refusal, limit}
use Rattle.rp_geometry.specs.searches.ProofLine.{ProofLine}
use Rattle.rp_reports.specs.Text.{proof_text, verdict_text}
use Rattle.rp_reports.specs.ProofText.{Echo}
use Rattle.rp_model.specs.commands.Reply.{Reply}
use Rattle.rp_model.specs.commands.Row.{row}
use Rattle.rp_reports.specs.Check.{Trail, refusal_line, tells_limit, taken, line_tester, follow_lines, limit_allowed, follow_limit, follow_reply, follow_walk, follow_command, follow_fault, follow_text, follow_echo, Progress, with_no_tests, follow_numbered, next_echo, follow_answer}
use Rattle.rp_reports.specs.TrueReport.{ToldAnswer, IsNextNumber, told_echo, told_lines, true_by_reading, IsTrueAnswer, is_accepted_change, after_reading_told, after_told}
use Rattle.rp_reports.specs.laws.CheckLaws.{TellsTruth, FollowedRowTellsTruth}
use Rattle.rp_language.proofs.ReadBounds.{read_expressions_are_kept_spec, read_heights_are_kept_spec}
use Rattle.rp_states.proofs.Added.{still_later, later_further}
use Rattle.rp_correctness.proofs.Taken.{Took, trail_after, row_takes}
use Rattle.rp_correctness.proofs.Echoed.{echo_line, echo_is_line, told_is_line, told_is_number}
use Rattle.rp_correctness.proofs.Followed.{Reaches, comes_then, Went, lines_go}

-- what the check keeps are parts of the sets of a sound state
pub record Agrees (s : State) (q : Progress) : Type 0 where
  pub sound : IsSoundWith IsCheckedPart s
  pub late : IsLaterThan (suc q.last) s
  pub plain : parts_only s ≡ q.state

-- the answer as it is told
abbrev answer_of : ℕ → Option (List ℕ) → List ProofLine → List Verdict → ToldAnswer
answer_of n text proofs verdicts = record { number = n; text = text; proofs = proofs; verdicts = verdicts }

-- a true answer of some lines behind its echo, and what the check keeps after it
record Tells (v : Version) (s : State) (n : ℕ) (text : Option (List ℕ)) (t : Trail) (p : PlainState) (u : Trail) : Type 0 where
  echo : told_echo n text ≡ echo_line (record { number = n; text = text })
  proofs : List ProofLine
  verdicts : List Verdict
  after : State
  lines : Went (map proof_text proofs ++ map verdict_text verdicts) t u
  is_true : IsTrueAnswer v (sets_only s) (answer_of n text proofs verdicts)
  same : sets_only after ≡ after_told v (sets_only s) (answer_of n text proofs verdicts)
  sound : IsSoundWith IsCheckedPart after
  late : IsLaterThan (suc n) after
  plain : parts_only after ≡ p

-- ---- answers behind an echo

module _ (v : Version) (truth : FollowedRowTellsTruth) (s : State) (sound : IsSoundWith IsCheckedPart s) (n : ℕ) (late : IsLaterThan n s) where
  -- a refusal that leaves the state as it is
  refusal_told : (text : Option (List ℕ)) (proofs : List ProofLine) (r : Refusal) → told_echo n text ≡ echo_line (record { number = n; text = text }) → IsTrueAnswer v (sets_only s) (answer_of n text proofs (refused r ∷ []))
      → (t u : Trail) → Went (map proof_text proofs) t u → Reaches ((follow_lines (refusal_line r ∷ []) >> pass (parts_only s)) u) (Tells v s n text t)
  refusal_told text proofs r echo is_true t u went =
      comes_then (λ _ w. Went (refusal_line r ∷ []) u w) (Tells v s n text t) (λ _. pass (parts_only s)) (follow_lines (refusal_line r ∷ []) u) (lines_go (refusal_line r ∷ []) u)
      λ x w e. record {
        echo = echo;
        proofs = proofs;
        verdicts = refused r ∷ [];
        after = s;
        lines = went ∙ ap (λ (ls : List (List ℕ)). map proof_text proofs ++ ls) e ∙ sym (append_assoc (map proof_text proofs) (refusal_line r ∷ []) w.lines);
        is_true = is_true;
        same = refl;
        sound = sound;
        late = still_later n s late;
        plain = refl;
      }

  -- a text that is bad
  bad_told : (text : List ℕ) (f : Fault) → reading v text ≡ bad f → (t : Trail) → Reaches (follow_fault (parts_only s) f t) (Tells v s n (Some text) t)
  bad_told text f read t =
      refusal_told (Some text) [] (Refusal.bad f) (told_is_line v n text (λ e. not_blank (sym read ∙ e)))
      (subst (λ (r : Reading). true_by_reading (sets_only s) r (refused (Refusal.bad f) ∷ [])) (sym read) refl) t t refl
    where
      not_blank : bad f ≡ blank → ⊥
      not_blank e = cc

  -- a text that is a command
  module _ (text : List ℕ) (c : Command) (read : reading v text ≡ command c) where
    echo_told : told_echo n (Some text) ≡ echo_line (record { number = n; text = Some text })
    echo_told = told_is_line v n text (λ e. not_blank (sym read ∙ e))
      where
        not_blank : command c ≡ blank → ⊥
        not_blank e = cc

    -- a limit is told
    told_limit : (t u : Trail) → Took t u → Reaches (follow_limit (parts_only s) u) (Tells v s n (Some text) t)
    told_limit t u took =
        refusal_told (Some text) took.proofs limit echo_told (subst (λ (r : Reading). true_by_reading (sets_only s) r (refused limit ∷ [])) (sym read) (inl refl)) t u took.lines

    -- a reply is told
    reply_told : (t u : Trail) → Took t u → (r : Reply) → TellsTruth s n c r → Reaches (follow_reply n (parts_only s) r u) (Tells v s n (Some text) t)
    reply_told t u took r h =
        comes_then (λ _ w. Went (map verdict_text r.verdicts) u w) (Tells v s n (Some text) t) (λ _. pass (changed n (parts_only s) r.change)) (follow_lines (map verdict_text r.verdicts) u) (lines_go (map verdict_text r.verdicts) u)
        λ x w e. record {
          echo = echo_told;
          proofs = took.proofs;
          verdicts = r.verdicts;
          after = h.next;
          lines = took.lines ∙ ap (λ (ls : List (List ℕ)). map proof_text took.proofs ++ ls) e ∙ sym (append_assoc (map proof_text took.proofs) (map verdict_text r.verdicts) w.lines);
          is_true = subst (λ (rd : Reading). true_by_reading (sets_only s) rd r.verdicts) (sym read) (inr h.verdicts);
          same = h.sets ∙ ap (λ (rd : Reading). elim (is_accepted_change r.verdicts) as (λ _. State) [ true ↦ after_reading_told n (sets_only s) rd | false ↦ sets_only s ]) (sym read);
          sound = h.sound;
          late = h.later;
          plain = h.parts;
        }

    -- what a followed row comes to
    walk_told : (t : Trail) (allowed : Bool) (o : Outcome Trail Reply) → Took t (trail_after o) → IfDone o (λ r. TellsTruth s n c r) → Reaches (follow_walk n (parts_only s) allowed o) (Tells v s n (Some text) t)
    walk_told t allowed (done r u) took h = by (allowed && tells_limit u.lines)
      where
        by : (b : Bool) → Reaches (elim b as (λ _. Outcome Trail PlainState) [ true ↦ follow_limit (parts_only s) u | false ↦ follow_reply n (parts_only s) r u ]) (Tells v s n (Some text) t)
        by true = told_limit t u took
        by false = reply_told t u took r h
    walk_told t allowed (stopped line_wrong u) took h = tt
    walk_told t allowed (stopped taken_wrong u) took h = tt
    walk_told t true (stopped limit_met u) took h = told_limit t u took
    walk_told t false (stopped limit_met u) took h = tt
    walk_told t true (stopped limit_told u) took h = told_limit t u took
    walk_told t false (stopped limit_told u) took h = tt

    -- the answer to a command
    command_told : (t : Trail) → Reaches (follow_command n (parts_only s) c t) (Tells v s n (Some text) t)
    unfolding follow_command
    command_told t =
        walk_told t (limit_allowed (parts_only s) c) (row line_tester (parts_only s) c t) (row_takes (parts_only s) c t) (truth s sound n late c (read_expressions_are_kept_spec v text c read) (read_heights_are_kept_spec v text c read) t)

  -- a text that is read so
  text_told : (text : List ℕ) (r : Reading) → reading v text ≡ r → (t : Trail) → Reaches (follow_text n (parts_only s) r t) (λ p u. Tells v s n (Some text) (taken t) p u)
  text_told text blank e t = tt
  text_told text (command c) e t = command_told text c e (taken t)
  text_told text (bad too_long) e t = tt
  text_told text (bad bad_syntax) e t = bad_told text bad_syntax e (taken t)
  text_told text (bad out_of_range) e t = bad_told text out_of_range e (taken t)
  text_told text (bad zero_half_space) e t = bad_told text zero_half_space e (taken t)
  text_told text (bad too_many_nodes) e t = bad_told text too_many_nodes e (taken t)

  -- an echo with a text or without one
  echo_goes : (text : Option (List ℕ)) (t : Trail) → Reaches (follow_echo v n (parts_only s) text t) (λ p u. Tells v s n text (taken t) p u)
  echo_goes None t = refusal_told None [] (Refusal.bad too_long) (told_is_number n) refl (taken t) (taken t) refl
  echo_goes (Some text) t = text_told text (reading v text) refl t

-- ---- the next answer

-- a true answer, and what the check keeps after it
pub record TellsNext (v : Version) (last : ℕ) (s : State) (t : Trail) (q : Progress) (u : Trail) : Type 0 where
  pub told : ToldAnswer
  pub number : told.number ≡ q.last
  pub next : IsNextNumber last told.number
  pub after : State
  pub lines : Went (told_lines told) t u
  pub is_true : IsTrueAnswer v (sets_only s) told
  pub same : sets_only after ≡ after_told v (sets_only s) told
  pub agrees : Agrees after q

-- a number that is above another
above : (m n : ℕ) → nat_lt m n ≡ true → m < n
above m n e = grind arith

-- the echo that stands next is the next line, and its number is within its bounds
echo_stands : (lines : List (List ℕ)) (e : Echo) → next_echo lines ≡ Some e → (lines ≡ echo_line e ∷ drop 1 lines) × (e.number ≤ 16777216)
echo_stands [] e f = absurd (none_not_some e f)
echo_stands (line ∷ lines) e f = let h = echo_is_line line e f in (ap (λ (l : List ℕ). l ∷ lines) h.is_line, h.bounded)

module _ (v : Version) (truth : FollowedRowTellsTruth) (s : State) (q : Progress) (agrees : Agrees s q) where
  -- the whole answer, with its echo
  next_told : (t : Trail) (e : Echo) → t.lines ≡ echo_line e ∷ drop 1 t.lines → IsNextNumber q.last e.number → (p : PlainState) (u : Trail) → Tells v s e.number e.text (taken (with_no_tests t)) p u → TellsNext v q.last s t (record { last = e.number; state = p }) u
  next_told t e f next p u h = record {
    told = answer_of e.number e.text h.proofs h.verdicts;
    number = refl;
    next = next;
    after = h.after;
    lines = f ∙ ap (λ (ls : List (List ℕ)). echo_line e ∷ ls) h.lines ∙ ap (λ (l : List ℕ). l ∷ ((map proof_text h.proofs ++ map verdict_text h.verdicts) ++ u.lines)) (sym h.echo);
    is_true = h.is_true;
    same = h.same;
    agrees = record { sound = h.sound; late = h.late; plain = h.plain };
  }

  -- an answer whose echo is read so
  numbered_told : (t : Trail) (o : Option Echo) → next_echo t.lines ≡ o → Reaches (follow_numbered v q o t) (TellsNext v q.last s t)
  numbered_told t None f = tt
  numbered_told t (Some e) f = by (nat_lt q.last e.number) refl
    where
      by : (b : Bool) → nat_lt q.last e.number ≡ b
          → Reaches ((elim b as (λ _. Walk Trail Progress) [ false ↦ stop line_wrong | true ↦ (λ t. follow_echo v e.number q.state e.text (with_no_tests t)) >>= λ p. pass (record { last = e.number; state = p }) ]) t) (TellsNext v q.last s t)
      by false g = tt
      by true g =
          let higher = above q.last e.number g in
          let stands = echo_stands t.lines e f in
          comes_then (λ p u. Tells v s e.number e.text (taken (with_no_tests t)) p u) (TellsNext v q.last s t) (λ p. pass (record { last = e.number; state = p })) (follow_echo v e.number q.state e.text (with_no_tests t))
          (subst (λ (p : PlainState). Reaches (follow_echo v e.number p e.text (with_no_tests t)) (λ r u. Tells v s e.number e.text (taken (with_no_tests t)) r u)) agrees.plain
          (echo_goes v truth s agrees.sound e.number (later_further (suc q.last) e.number (omega arith) s agrees.late) e.text (with_no_tests t)))
          λ p u h. next_told t e stands.0 (higher, stands.1) p u h

  -- the next answer
  pub answer_told : (t : Trail) → Reaches (follow_answer v q t) (TellsNext v q.last s t)
  unfolding follow_answer
  answer_told t = numbered_told t (next_echo t.lines) refl
