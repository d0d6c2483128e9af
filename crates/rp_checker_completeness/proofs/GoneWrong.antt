-- Where the check finds a wrong line, no accepted report begins with the lines up to it.
use Rattle.std.proofs.Common.{◌≡◌, ℕ, zero, suc, ◌+◌, ◌≤◌, ◌<◌, ◌==◌, nat_lt, Bool, true, false, ◌⊎◌, inl, inr, List, [], ◌∷◌, ◌++◌, length, drop, Option, Some, None, refl, sym, ap, ◌∙◌, subst, arith}
use Rattle.rp_semantics.specs.Walk.{line_wrong, Outcome, done, stopped, after_first, Walk, pass, stop}
use Rattle.rp_language.specs.Grammar.{Version, too_long, Reading, reading}
use Rattle.rp_model.specs.states.State.{PlainState}
use Rattle.rp_reports.specs.ProofText.{Echo}
use Rattle.rp_reports.specs.Check.{Trail, taken, follow_fault, follow_reading, may_be_echoed, follow_echo, Progress, with_no_tests, follow_numbered, next_echo, follow_answer, Finding, all_accepted, wrong_at, find_wrong}
use Rattle.rp_checker_completeness.proofs.TakenParts.{trail}
use Rattle.rp_checker_completeness.proofs.Beyond.{Past, past}
use Rattle.rp_checker_completeness.proofs.AnswersBeside.{Close, TopLost, TopSame, top_fault, top_reading, top_answer}
use Rattle.rp_checker_completeness.proofs.ReportTaken.{suc_not_zero}

-- ---- what is found

-- two findings are not the same
pub accepted_not_wrong : (k : ℕ) → all_accepted ≡ wrong_at k → ⊥
accepted_not_wrong k e = cc

-- what is wrong is not accepted
pub wrong_not_accepted : (k : ℕ) → wrong_at k ≡ all_accepted → ⊥
wrong_not_accepted k e = cc

-- the same line is wrong
pub same_wrong : (j k : ℕ) → wrong_at j ≡ wrong_at k → j ≡ k
same_wrong j k e = cc

-- what is found behind an answer
abbrev pub found_after : Version → ℕ → Outcome Trail Progress → Finding
found_after v room o = elim o [ done further rest ↦ find_wrong v room further rest | stopped e rest ↦ wrong_at rest.number ]

-- where a line is left
pub find_next : (v : Version) (room : ℕ) (q : Progress) (t : Trail) (line : List ℕ) (lines : List (List ℕ)) → t.lines ≡ line ∷ lines → find_wrong v (suc room) q t ≡ found_after v room (follow_answer v q t)
find_next v room q t line lines e = ap (λ (b : Bool). elim b as (λ _. Finding) [ true ↦ all_accepted | false ↦ found_after v room (follow_answer v q t) ]) (ap (λ ls. length ls == 0) e ∙ suc_not_zero (length lines))

-- where there is no room left
pub find_none : (v : Version) (q : Progress) (t : Trail) (line : List ℕ) (lines : List (List ℕ)) → t.lines ≡ line ∷ lines → find_wrong v zero q t ≡ wrong_at t.number
find_none v q t line lines e = ap (λ (b : Bool). elim b as (λ _. Finding) [ true ↦ all_accepted | false ↦ wrong_at t.number ]) (ap (λ ls. length ls == 0) e ∙ suc_not_zero (length lines))

-- ---- an answer takes a line at least

-- a result is past the number
abbrev pub DonePast : {A : Type 0} → ℕ → List (List ℕ) → Outcome Trail A → Type 0
DonePast number ahead (done x u) = Past number ahead u
DonePast number ahead (stopped s u) = Unit {0}

-- what is past the number, where there is a result
lost_done : {A : Type 0} (number : ℕ) (some : 0 < number) (ahead : List (List ℕ)) (o : Outcome Trail A) → TopLost number some [] ahead o → DonePast number ahead o
lost_done number some ahead (done x u) l = l
lost_done number some ahead (stopped s u) l = tt

-- an answer ends past its first line
pub answer_past : (v : Version) (q : Progress) (u : Trail) (line : List ℕ) (lines : List (List ℕ)) → u.lines ≡ line ∷ lines → DonePast (u.number + 1) lines (follow_answer v q u)
unfolding follow_answer past
answer_past v q u line lines e = by_echo (next_echo u.lines)
  where
    behind : Past (u.number + 1) lines (record { lines = drop 1 u.lines; number = u.number + 1; tests = 0 })
    behind = (past (u.number + 1) lines).enters (record { lines = drop 1 u.lines; number = u.number + 1; tests = 0 }) refl (ap (drop 1) e)

    by_text : (n : ℕ) (r : Reading) (b : Bool) → DonePast (u.number + 1) lines (elim b as (λ _. Outcome Trail PlainState) [ true ↦ follow_reading n q.state r (taken (with_no_tests u)) | false ↦ stopped line_wrong (with_no_tests u) ])
    by_text n r true = lost_done (u.number + 1) (omega arith) lines (follow_reading n q.state r (taken (with_no_tests u))) ((top_reading (u.number + 1) (omega arith) [] lines n q.state r).lost (taken (with_no_tests u)) behind)
    by_text n r false = tt

    by_told : (n : ℕ) (o : Option (List ℕ)) → DonePast (u.number + 1) lines (follow_echo v n q.state o (with_no_tests u))
    by_told n None = lost_done (u.number + 1) (omega arith) lines (follow_fault q.state too_long (taken (with_no_tests u))) ((top_fault (u.number + 1) (omega arith) [] lines q.state too_long).lost (taken (with_no_tests u)) behind)
    by_told n (Some text) = by_text n (reading v text) (may_be_echoed (reading v text))

    passed : (n : ℕ) (o : Outcome Trail PlainState) → DonePast (u.number + 1) lines o → DonePast {A = Progress} (u.number + 1) lines (after_first (λ s. pass (record { last = n; state = s })) o)
    passed n (done s t) p = p
    passed n (stopped z t) p = tt

    by_number : (x : Echo) (b : Bool) → DonePast (u.number + 1) lines ((elim b as (λ _. Walk Trail Progress) [ false ↦ stop line_wrong | true ↦ (λ t. after_first (λ s. pass (record { last = x.number; state = s })) (follow_echo v x.number q.state x.text (with_no_tests t))) ]) u)
    by_number x true = passed x.number (follow_echo v x.number q.state x.text (with_no_tests u)) (by_told x.number x.text)
    by_number x false = tt

    by_echo : (o : Option Echo) → DonePast (u.number + 1) lines (follow_numbered v q o u)
    by_echo None = tt
    by_echo (Some x) = by_number x (nat_lt q.last x.number)

-- ---- a wrong line is one of the report, or the one behind it

-- the bounds of the number of a wrong line
abbrev pub InRange : ℕ → List (List ℕ) → ℕ → Type 0
InRange number ahead k = (number ≤ k) × (k ≤ number + length ahead)

-- a trail past the number is within the range
past_range : (number : ℕ) (ahead : List (List ℕ)) (k : ℕ) (u : Trail) → Past number ahead u → u.number ≡ k → InRange number ahead k
past_range number ahead k u p e = here u.number (length u.lines) e p.reached p.left
  where
    here : (n l : ℕ) → n ≡ k → number ≤ n → n + l ≡ number + length ahead → InRange number ahead k
    here n l e r s = (omega (arith, e, r), omega (arith, e, s))

-- the same of an equal number
range_is : (number : ℕ) (ahead : List (List ℕ)) (j k : ℕ) → j ≡ k → InRange number ahead j → InRange number ahead k
range_is number ahead j k e r = subst (InRange number ahead) e r

module _ (v : Version) (number : ℕ) (some : 0 < number) (ahead : List (List ℕ)) (k : ℕ) where
  -- a wrong line past the number is within the range
  pub wrong_in_range : (room : ℕ) (q : Progress) (u : Trail) → Past number ahead u → find_wrong v room q u ≡ wrong_at k → InRange number ahead k
  wrong_in_range zero q u p e = by_lines u.lines refl
    where
      not_found : all_accepted ≡ wrong_at k → ⊥
      not_found f = accepted_not_wrong k f

      by_lines : (lines : List (List ℕ)) → u.lines ≡ lines → InRange number ahead k
      by_lines [] f = absurd (not_found (sym (ap (λ ls. find_wrong v zero q (trail ls u.number u.tests)) f) ∙ e))
      by_lines (line ∷ lines) f = past_range number ahead k u p (same_wrong u.number k (sym (find_none v q u line lines f) ∙ e))
  wrong_in_range (suc room) q u p e = by_lines u.lines refl (λ f x r i. wrong_in_range room f x r i)
    where
      by_outcome : ((f : Progress) (x : Trail) → Past number ahead x → find_wrong v room f x ≡ wrong_at k → InRange number ahead k) → (o : Outcome Trail Progress) → TopLost number some [] ahead o → found_after v room o ≡ wrong_at k → InRange number ahead k
      by_outcome rest (done f x) l g = rest f x l g
      by_outcome rest (stopped z x) l g = range_is number ahead x.number k (same_wrong x.number k g) l

      by_lines : (lines : List (List ℕ)) → u.lines ≡ lines → ((f : Progress) (x : Trail) → Past number ahead x → find_wrong v room f x ≡ wrong_at k → InRange number ahead k) → InRange number ahead k
      by_lines [] f rest = absurd (accepted_not_wrong k (sym (ap (λ ls. find_wrong v (suc room) q (trail ls u.number u.tests)) f) ∙ e))
      by_lines (line ∷ lines) f rest = by_outcome rest (follow_answer v q u) ((top_answer number some [] ahead v q).lost u p) (sym (find_next v room q u line lines f) ∙ e)

-- ---- what begins alike goes wrong alike

-- a number is not below and at least another
not_over : (a b : ℕ) → a < b → b ≤ a → ⊥
not_over a b h l = omega (arith, h, l)

module _ (v : Version) (k : ℕ) (one two : List (List ℕ)) where
  -- the numbers up to k are shared
  abbrev Shared : Trail → Trail → Type 0
  Shared t u = Close (suc k) (omega arith) one two t u

  -- the lines that are left after an answer fit into the room
  fits : (room a b l m n : ℕ) → suc l ≤ suc room → a + b ≡ (m + 1) + l → m + 1 ≤ a → b ≤ room
  fits room a b l m n h e f = omega (arith, h, e, f)

  -- the two answers
  by_pair : (room other : ℕ) (u : Trail) (lines : List (List ℕ)) → suc (length lines) ≤ suc room → (o p : Outcome Trail Progress) → DonePast (u.number + 1) lines p
      → TopLost (suc k) (omega arith) one two p ⊎ TopSame (suc k) (omega arith) one two o p → found_after v other o ≡ all_accepted → found_after v room p ≡ wrong_at k
      → ((q : Progress) (x y : Trail) → Shared x y → length y.lines ≤ room → find_wrong v room q y ≡ wrong_at k → find_wrong v other q x ≡ all_accepted → ⊥) → ⊥
  by_pair room other u lines f o (done g y) d (inl l) a e rest = let r = wrong_in_range v (suc k) (omega arith) two k room g y l e in not_over k (suc k) (omega arith) r.0
  by_pair room other u lines f o (stopped z y) d (inl l) a e rest = not_over k (suc k) (omega arith) (subst (λ j. suc k ≤ j) (same_wrong y.number k e) l.0)
  by_pair room other u lines f (done g x) (done h y) d (inr s) a e rest =
      rest h x y s.1 (fits room y.number (length y.lines) (length lines) u.number 0 f d.left d.reached) e (subst (λ p. find_wrong v other p x ≡ all_accepted) s.0 a)
  by_pair room other u lines f (stopped w x) (stopped z y) d (inr s) a e rest = wrong_not_accepted x.number a
  by_pair room other u lines f (done g x) (stopped z y) d (inr s) a e rest = absurd s
  by_pair room other u lines f (stopped w x) (done h y) d (inr s) a e rest = absurd s

  -- a report that begins with the lines up to the wrong one is not accepted
  pub goes_wrong : (room : ℕ) (other : ℕ) (q : Progress) (t u : Trail) → Shared t u → length u.lines ≤ room → find_wrong v room q u ≡ wrong_at k → find_wrong v other q t ≡ all_accepted → ⊥
  goes_wrong room zero q t u n f e a = wrong_not_accepted t.number (sym (find_none v q t n.line (n.shared ++ one) n.first) ∙ a)
  goes_wrong zero (suc other) q t u n f e a = no_room (length (n.shared ++ two)) (subst (λ ls. length ls ≤ 0) n.second f)
    where
      no_room : (l : ℕ) → suc l ≤ 0 → ⊥
      no_room l h = omega (arith, h)
  goes_wrong (suc room) (suc other) q t u n f e a =
      by_pair room other u (n.shared ++ two) (subst (λ ls. length ls ≤ suc room) n.second f) (follow_answer v q t) (follow_answer v q u) (answer_past v q u n.line (n.shared ++ two) n.second) ((top_answer (suc k) (omega arith) one two v q).near t u n)
      (sym (find_next v other q t n.line (n.shared ++ one) n.first) ∙ a) (sym (find_next v room q u n.line (n.shared ++ two) n.second) ∙ e)
      (λ p x y m g i j. goes_wrong room other p x y m g i j)
