-- The line that the check finds wrong is the first at which no accepted report goes on.
use Rattle.std.proofs.Common.{◌≡◌, ℕ, zero, suc, ◌+◌, ◌≤◌, ◌<◌, true, ◌⊎◌, inl, inr, List, [], ◌∷◌, ◌++◌, length, take, drop, refl, sym, ap, ◌∙◌, subst, arith, take-append-drop, length-take-le}
use Rattle.rp_model.specs.states.State.{opening}
use Rattle.rp_semantics.specs.Walk.{Outcome, done, stopped}
use Rattle.rp_language.specs.Grammar.{Version, one, two}
use Rattle.rp_reports.specs.Report.{report_mark, version_by}
use Rattle.rp_reports.specs.Check.{Trail, AreLines, Progress, follow_answer, Finding, all_accepted, wrong_at, find_wrong, finding_by, finding, is_accepting, CanGoOn}
use Rattle.rp_reports.specs.laws.CheckLaws.{FindsFirstWrong}
use Rattle.rp_checker_completeness.proofs.TakenParts.{trail}
use Rattle.rp_checker_completeness.proofs.Beyond.{Past}
use Rattle.rp_checker_completeness.proofs.AnswersBeside.{Close, TopLost, TopSame, top_answer}
use Rattle.rp_checker_completeness.proofs.ReportTaken.{at_end}
use Rattle.rp_checker_completeness.proofs.GoneWrong.{accepted_not_wrong, same_wrong, found_after, find_next, DonePast, answer_past, wrong_in_range, goes_wrong}
use Rattle.rp_parametricity.proofs.Kept.{StateHas}
use Rattle.rp_checker_completeness.proofs.Commands.{Any}
use Rattle.rp_checker_completeness.proofs.ReadNames.{Named}
use Rattle.rp_checker_completeness.proofs.StatesNamed.{AnswerNamed, answer_named}
use Rattle.rp_checker_completeness.proofs.GoesOn.{EndsWith, answer_goes_on, same_beginning}

-- ---- before the wrong line

-- some lines more bring what is shared to an accepted end
record GoesOn (v : Version) (q : Progress) (shared : List (List ℕ)) (m tests : ℕ) : Type 0 where
  more : List (List ℕ)
  are_lines : AreLines more
  is : (room : ℕ) → length (shared ++ more) ≤ room → find_wrong v room q (trail (shared ++ more) m tests) ≡ all_accepted

module _ (v : Version) (number : ℕ) (some : 0 < number) (two : List (List ℕ)) (k : ℕ) (before : number ≤ k) where
  -- past what is shared
  abbrev LostAt : Outcome Trail Progress → Type 0
  LostAt o = TopLost number some [] two o

  -- an answer that is cut goes on to its end, and nothing follows
  cut_goes_on : (q : Progress) (line : List ℕ) (shared : List (List ℕ)) (m tests : ℕ) → EndsWith (follow_answer v q) (line ∷ shared) m tests → GoesOn v q (line ∷ shared) m tests
  cut_goes_on q line shared m tests w = record { more = w.more; are_lines = w.are_lines; is = λ room f. by_room room f }
    where
      by_room : (room : ℕ) → suc (length (shared ++ w.more)) ≤ room → find_wrong v room q (trail (line ∷ shared ++ w.more) m tests) ≡ all_accepted
      by_room zero f = absurd (omega (arith, f))
      by_room (suc room) f = find_next v room q (trail (line ∷ shared ++ w.more) m tests) line (shared ++ w.more) refl ∙ ap (found_after v room) w.is ∙ at_end v room w.result w.after w.counted

  -- lines that are shared, with two lists behind them
  close_same : (other : List (List ℕ)) (line : List ℕ) (shared : List (List ℕ)) (m tests : ℕ) → m + suc (length shared) ≡ number → Close number some other two (trail (line ∷ shared ++ other) m tests) (trail (line ∷ shared ++ two) m tests)
  close_same other line shared m tests p = record { line = line; shared = shared; first = refl; second = refl; numbers = refl; tests = refl; place = p }

  -- the lines that are left after an answer fit into the room
  fits : (room a b l m : ℕ) → suc l ≤ suc room → a + b ≡ (m + 1) + l → m + 1 ≤ a → b ≤ room
  fits room a b l m h e f = omega (arith, h, e, f)

  -- an answer that ends within what is shared, and then what goes on behind it
  whole_goes_on : (q g : Progress) (line : List ℕ) (shared : List (List ℕ)) (m tests : ℕ) → m + suc (length shared) ≡ number → (u : Trail) → follow_answer v q (trail (line ∷ shared ++ two) m tests) ≡ done g u
      → (next : List (List ℕ)) → u.lines ≡ next ++ two → u.number + length next ≡ number → 0 < length next → GoesOn v g next u.number u.tests → GoesOn v q (line ∷ shared) m tests
  whole_goes_on q g line shared m tests p u e next lines place filled rest = record { more = rest.more; are_lines = rest.are_lines; is = λ room f. by_room room f }
    where
      t : Trail
      t = trail (line ∷ shared ++ rest.more) m tests

      as_long : (a b c : ℕ) → a + suc b ≡ number → a + c ≡ number → suc b ≡ c
      as_long a b c e f = omega (arith, e, f)

      below : (a b : ℕ) → a + b ≡ number → 0 < b → number ≤ a → ⊥
      below a b e f l = omega (arith, e, f, l)

      back : (x : Trail) → Close number some rest.more two x u → x ≡ trail (next ++ rest.more) u.number u.tests
      back x n = λ i. trail ((n.first ∙ ap (λ c. c ++ rest.more) (same_beginning (n.line ∷ n.shared) next two (sym n.second ∙ lines) (as_long u.number (length n.shared) (length next) n.place place))) i) (n.numbers i) (n.tests i)

      by_pair : (room : ℕ) → suc (length (shared ++ rest.more)) ≤ suc room → (o : Outcome Trail Progress) → DonePast (m + 1) (shared ++ rest.more) o → TopLost number some rest.more two (done g u) ⊎ TopSame number some rest.more two o (done g u) → found_after v room o ≡ all_accepted
      by_pair room f o d (inl l) = absurd (below u.number (length next) place filled l.reached)
      by_pair room f (done h x) d (inr s) =
          let b = back x s.1 in
          ap (λ j. find_wrong v room j x) s.0 ∙ ap (find_wrong v room g) b ∙ rest.is room (fits room u.number (length (next ++ rest.more)) (length (shared ++ rest.more)) m f (ap (λ y. y.number + length y.lines) (sym b) ∙ d.left) (subst (λ y. m + 1 ≤ y) s.1.numbers d.reached))
      by_pair room f (stopped z x) d (inr s) = absurd s

      by_room : (room : ℕ) → suc (length (shared ++ rest.more)) ≤ room → find_wrong v room q (trail (line ∷ shared ++ rest.more) m tests) ≡ all_accepted
      by_room zero f = absurd (omega (arith, f))
      by_room (suc room) f =
          find_next v room q (trail (line ∷ shared ++ rest.more) m tests) line (shared ++ rest.more) refl
          ∙ by_pair room f (follow_answer v q (trail (line ∷ shared ++ rest.more) m tests)) (answer_past v q (trail (line ∷ shared ++ rest.more) m tests) line (shared ++ rest.more) refl)
          (subst (λ o. TopLost number some rest.more two o ⊎ TopSame number some rest.more two (follow_answer v q (trail (line ∷ shared ++ rest.more) m tests)) o) e
          ((top_answer number some rest.more two v q).near (trail (line ∷ shared ++ rest.more) m tests) (trail (line ∷ shared ++ two) m tests) (close_same rest.more line shared m tests p)))

  -- the wrong line is not among those that are shared
  wrong_below : (a : ℕ) → a < number → a ≡ k → ⊥
  wrong_below a l e = omega (arith, l, e, before)

  -- what is shared goes on, where the wrong line is not among it
  goes_on : (room : ℕ) (q : Progress) → StateHas Any Named q.state → (shared : List (List ℕ)) (m tests : ℕ) → m + length shared ≡ number → length (shared ++ two) ≤ room → find_wrong v room q (trail (shared ++ two) m tests) ≡ wrong_at k → GoesOn v q shared m tests
  goes_on room q named [] m tests p f e = record { more = []; are_lines = tt; is = λ r _. at_end v r q m tests }
  goes_on zero q named (line ∷ shared) m tests p f e = absurd (omega (arith, f))
  goes_on (suc room) q named (line ∷ shared) m tests p f e =
      by_pair (follow_answer v q (trail (line ∷ shared ++ []) m tests)) (follow_answer v q (trail (line ∷ shared ++ two) m tests)) refl (answer_past v q (trail (line ∷ shared ++ two) m tests) line (shared ++ two) refl)
      ((top_answer number some [] two v q).near (trail (line ∷ shared ++ []) m tests) (trail (line ∷ shared ++ two) m tests) (close_same [] line shared m tests p))
      (sym (find_next v room q (trail (line ∷ shared ++ two) m tests) line (shared ++ two) refl) ∙ e)
      (answer_named v q named (trail (line ∷ shared ++ two) m tests)) (λ g gn next n c. goes_on room g gn next n c)
    where
      by_pair : (o p : Outcome Trail Progress) → follow_answer v q (trail (line ∷ shared ++ two) m tests) ≡ p → DonePast (m + 1) (shared ++ two) p → LostAt p ⊎ TopSame number some [] two o p → found_after v room p ≡ wrong_at k → AnswerNamed p
          → ((g : Progress) → StateHas Any Named g.state → (next : List (List ℕ)) (n c : ℕ) → n + length next ≡ number → length (next ++ two) ≤ room → find_wrong v room g (trail (next ++ two) n c) ≡ wrong_at k → GoesOn v g next n c) → GoesOn v q (line ∷ shared) m tests
      by_pair o r is d (inl l) w an rest = cut_goes_on q line shared m tests (answer_goes_on number some two v q named line shared m tests p (subst LostAt (sym is) l))
      by_pair (done h x) (done g u) is d (inr s) w an rest =
          let n = s.1 in
          whole_goes_on q g line shared m tests p u is (n.line ∷ n.shared) n.second n.place (omega arith)
          (rest g an (n.line ∷ n.shared) u.number u.tests n.place
          (subst (λ ls. length ls ≤ room) n.second (fits room u.number (length u.lines) (length (shared ++ two)) m f d.left d.reached))
          (subst (λ ls. find_wrong v room g (trail ls u.number u.tests) ≡ wrong_at k) n.second w))
      by_pair (stopped y x) (stopped z u) is d (inr s) w an rest = absurd (wrong_below u.number s.1 (same_wrong u.number k w))
      by_pair (done h x) (stopped z u) is d (inr s) w an rest = absurd s
      by_pair (stopped y x) (done g u) is d (inr s) w an rest = absurd s

-- ---- the law

-- what is accepted was found to be
found_accepted : (f : Finding) → is_accepting f ≡ true → f ≡ all_accepted
found_accepted all_accepted e = refl
found_accepted (wrong_at k) e = absurd (cc)

-- the beginning of the check
abbrev start : Progress
start = record { last = 0; state = opening }

-- at the beginning all lines are left
start_past : (number : ℕ) (lines : List (List ℕ)) → Past number lines (trail lines number 0)
start_past number lines = record { reached = omega arith; left = refl }

-- a list of some lines at least
filled_by : (lines : List (List ℕ)) (k : ℕ) → 1 ≤ k → length lines ≡ k → (line : List ℕ) × (rest : List (List ℕ)) × (lines ≡ line ∷ rest)
filled_by [] k l e = absurd (omega (arith, l, e))
filled_by (line ∷ rest) k l e = (line, rest, refl)

-- the check of the lines of a version, the first of which has the number, comes to a wrong line, or to none
module _ (v : Version) (first : ℕ) (some : 1 ≤ first) (body : List (List ℕ)) (most : ℕ) (fits : length body ≤ most) (k : ℕ) (wrong : find_wrong v most start (trail body first 0) ≡ wrong_at k) where
  -- a list is its first lines and the others
  split : (j : ℕ) → take j body ++ drop j body ≡ body
  split j = take-append-drop j body

  -- the wrong line is one of them, or the one behind them
  range : (first ≤ k) × (k ≤ first + length body)
  range = wrong_in_range v first some body k most start (trail body first 0) (start_past first body) wrong

  -- the first lines before the wrong one
  prefix_goes_on : (j : ℕ) → first + j ≤ k → GoesOn v start (take j body) first 0
  prefix_goes_on j l =
      goes_on v (first + length (take j body)) (omega (arith, some)) (drop j body) k (let h = length-take-le j body (let r = range.1 in omega (arith, r, l)) in omega (arith, h, l)) most start (record { layer = refl; names = tt; lots = tt }) (take j body) first 0 refl
      (subst (λ ls. length ls ≤ most) (sym (split j)) fits)
      (subst (λ ls. find_wrong v most start (trail ls first 0) ≡ wrong_at k) (sym (split j)) wrong)

  -- the first lines with the wrong one
  wrong_prefix : (j : ℕ) → first + j ≡ suc k → (line : List ℕ) (rest more : List (List ℕ)) → take j body ≡ line ∷ rest → suc (length rest) ≡ j → (room : ℕ) → find_wrong v room start (trail (take j body ++ more) first 0) ≡ all_accepted → ⊥
  wrong_prefix j at line rest more e l room a =
      goes_wrong v k more (drop j body) most room start (trail (take j body ++ more) first 0) (trail (take j body ++ drop j body) first 0)
      (record { line = line; shared = rest; first = ap (λ c. c ++ more) e; second = ap (λ c. c ++ drop j body) e; numbers = refl; tests = refl; place = omega (arith, l, at) })
      (subst (λ ls. length ls ≤ most) (sym (split j)) fits)
      (subst (λ ls. find_wrong v most start (trail ls first 0) ≡ wrong_at k) (sym (split j)) wrong) a

  -- no accepted lines begin with those up to the wrong one
  no_prefix : (j : ℕ) → first + j ≡ suc k → j ≤ length body → (more : List (List ℕ)) (room : ℕ) → find_wrong v room start (trail (take j body ++ more) first 0) ≡ all_accepted → ⊥
  no_prefix j at l more room a =
      let r = range.0 in
      let f = filled_by (take j body) j (omega (arith, at, r)) (length-take-le j body l) in
      wrong_prefix j at f.0 f.1 more f.2 (sym (ap length f.2) ∙ length-take-le j body l) room a

-- ---- the version

-- no line is left of none
nothing_accepted : CanGoOn []
unfolding finding
nothing_accepted = ([], tt, refl)

-- what is found by each version
module _ (line : List ℕ) (lines : List (List ℕ)) (k : ℕ) where
  -- a wrong line
  abbrev IsWrongBy : Version → Type 0
  IsWrongBy v = finding_by v (line ∷ lines) ≡ wrong_at k

  -- the prefix goes on by the version
  abbrev GoesOnBy : Version → ℕ → Type 0
  GoesOnBy v j = (more : List (List ℕ)) × AreLines more × (finding_by v (take (suc j) (line ∷ lines) ++ more) ≡ all_accepted)

  -- the range of the wrong line
  range_by : (v : Version) → IsWrongBy v → (1 ≤ k) × (k ≤ suc (length (line ∷ lines)))
  range_by one e = let r = range one 1 (omega arith) (line ∷ lines) (length (line ∷ lines)) (omega arith) k e in (r.0, let h = r.1 in omega (arith, h))
  range_by two e = let r = range two 2 (omega arith) lines (length (line ∷ lines)) (omega arith) k e in (let g = r.0 in omega (arith, g), let h = r.1 in omega (arith, h))

  -- before the wrong line
  before_by : (v : Version) → IsWrongBy v → (j : ℕ) → suc j < k → GoesOnBy v j
  before_by one e j l =
      let g = prefix_goes_on one 1 (omega arith) (line ∷ lines) (length (line ∷ lines)) (omega arith) k e (suc j) (omega (arith, l)) in
      (g.more, g.are_lines, g.is (length (take (suc j) (line ∷ lines) ++ g.more)) (omega arith))
  before_by two e j l =
      let g = prefix_goes_on two 2 (omega arith) lines (length (line ∷ lines)) (omega arith) k e j (omega (arith, l)) in
      (g.more, g.are_lines, g.is (length (take (suc j) (line ∷ lines) ++ g.more)) (omega arith))

  -- at the wrong line
  at_by : (v : Version) → IsWrongBy v → (j : ℕ) → suc j ≡ k → suc j ≤ length (line ∷ lines) → (more : List (List ℕ)) → finding_by v (take (suc j) (line ∷ lines) ++ more) ≡ all_accepted → ⊥
  at_by one e j at l more a = no_prefix one 1 (omega arith) (line ∷ lines) (length (line ∷ lines)) (omega arith) k e (suc j) (omega (arith, at)) l more (length (take (suc j) (line ∷ lines) ++ more)) a
  at_by two e j at l more a = no_prefix two 2 (omega arith) lines (length (line ∷ lines)) (omega arith) k e j (omega (arith, at)) (omega (arith, l)) more (length (take (suc j) (line ∷ lines) ++ more)) a

-- the line that the check finds wrong is the first at which no accepted report goes on
pub finds_first_wrong_spec : FindsFirstWrong
unfolding finding
finds_first_wrong_spec [] k e = absurd (accepted_not_wrong k e)
finds_first_wrong_spec (line ∷ lines) k e = record {
  refused = ap is_accepting e;
  before = before k e;
  at_line = at k e;
  in_range = range_by line lines k v e;
}
  where
    v : Version
    v = version_by report_mark (line ∷ lines)

    before : (k : ℕ) → finding_by v (line ∷ lines) ≡ wrong_at k → (j : ℕ) → j < k → CanGoOn (take j (line ∷ lines))
    before k e zero l = nothing_accepted
    before k e (suc j) l = let g = before_by line lines k v e j l in (g.0, g.1, ap is_accepting g.2)

    at : (k : ℕ) → finding_by v (line ∷ lines) ≡ wrong_at k → k ≤ length (line ∷ lines) → ¬ CanGoOn (take k (line ∷ lines))
    at zero e l c = let r = (range_by line lines zero v e).0 in absurd (omega (arith, r))
    at (suc j) e l (more, are_lines, a) = at_by line lines (suc j) v e j refl l more (found_accepted (finding_by v (take (suc j) (line ∷ lines) ++ more)) a)
