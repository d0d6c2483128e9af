-- What the program's walk comes to, the check comes to over the lines that the program wrote on the way.
use Rattle.std.proofs.Common.{◌≡◌, ℕ, ◌+◌, ◌≤◌, Bool, true, false, List, [], ◌∷◌, ◌++◌, length, nat_le, Option, Some, None, refl, sym, ap, ◌∙◌, arith, append_assoc}
use Rattle.rp_geometry.specs.Geometry.{HalfSpace, IsKeptHalfSpace}
use Rattle.rp_geometry.specs.sets.Shape.{Part}
use Rattle.rp_geometry.specs.searches.ProofLine.{ProofLine, strict_line, weak_line}
use Rattle.rp_geometry.specs.parts.PartTest.{has_member, has_weak_point, slimmed, part_lines, part_of}
use Rattle.rp_semantics.specs.Walk.{limit_met, taken_wrong, Outcome, done, stopped, after_first, Walk, pass, stop, ◌>>=◌, most_tests, Work, with_lines, count_tests, strict_test, weak_test, part_test, first_tester}
use Rattle.rp_geometry.specs.parts.Parts.{most_half_spaces, AreKeptHalfSpaces}
use Rattle.rp_geometry.specs.laws.PartLaws.{SlimPartIsPart}
use Rattle.rp_reports.specs.Text.{proof_text}
use Rattle.rp_reports.specs.Check.{Trail, taken, taken_if, follow_count, strict_by_line, follow_strict, weak_by_line, follow_weak, part_if, follow_part, line_tester}
use Rattle.rp_convex.proofs.InsideFound.{inside_is_found_spec}
use Rattle.rp_parametricity.proofs.Likeness.{Anything, Likeness, MadeHas, Related, Audited}
use Rattle.rp_checker_completeness.proofs.LooseWords.{++-none}
use Rattle.rp_checker_completeness.proofs.ProofsAgain.{proof_again}
use Rattle.rp_geometry.proofs.Kept.{are_half_spaces, kept_complement}
use Rattle.rp_checker_completeness.proofs.FirstLines.{StrictShown, inside, outside, strict_shown, WeakShown, meets, apart, weak_shown}
use Rattle.rp_checker_completeness.proofs.TakenParts.{trail, texts_before, texts_both, made_taken}

-- ---- the relation

-- where the walk is not stopped, the fact holds of its result and its work
abbrev pub Reaches : {A : Type 0} → Outcome Work A → (A → Work → Type 0) → Type 0
Reaches (done x v) C = C x v
Reaches (stopped e v) C = Unit {0}

-- from the first work to the second some lines were written, and the other walk takes them and comes to the same result
pub record Goes {A : Type 0} (Q : A → Type 0) (other : Walk Trail A) (w : Work) (x : A) (v : Work) : Type 0 where
  pub fact : Q x
  pub lines : List ProofLine
  pub made : v.proofs ≡ w.proofs ++ lines
  pub goes : (rest : List (List ℕ)) (n : ℕ) → (k : ℕ) × (other (trail (texts_before lines rest) n w.tests) ≡ done x (trail rest k v.tests))

-- the check's walk follows the program's
abbrev pub Follows : {A : Type 0} → (A → Type 0) → Walk Work A → Walk Trail A → Type 0
Follows Q first other = (w : Work) → Reaches (first w) (Goes Q other w)

-- what follows from the fact holds too
comes_map : {A : Type 0} (o : Outcome Work A) (C D : A → Work → Type 0) → ((x : A) (v : Work) → C x v → D x v) → Reaches o C → Reaches o D
comes_map (done x v) C D each c = each x v c
comes_map (stopped e v) C D each c = tt

-- one walk after the other
goes_on : {A B : Type 0} (P : A → Type 0) (Q : B → Type 0) (second : Walk Trail A) (other : A → Walk Trail B) (w : Work) (x : A) (v : Work) (y : B) (u : Work) → Goes P second w x v → Goes Q (other x) v y u → Goes Q (second >>= other) w y u
goes_on P Q second other w x v y u c d = record {
  fact = d.fact;
  lines = c.lines ++ d.lines;
  made = d.made ∙ ap (λ l. l ++ d.lines) c.made ∙ append_assoc w.proofs c.lines d.lines;
  goes = λ rest n.
      let a = c.goes (texts_before d.lines rest) n in
      let b = d.goes rest a.0 in
      (b.0, ap (λ l. (second >>= other) (trail l n w.tests)) (texts_both c.lines d.lines rest) ∙ ap (after_first other) a.1 ∙ b.1);
}

-- one walk after the other, by what the first comes to
pub follows_then : {A B : Type 0} (P : A → Type 0) (Q : B → Type 0) (next : A → Walk Work B) (second : Walk Trail A) (other : A → Walk Trail B) (w : Work) → ((x : A) → P x → Follows Q (next x) (other x)) → (o : Outcome Work A) → Reaches o (Goes P second w) → Reaches (after_first next o) (Goes Q (second >>= other) w)
follows_then P Q next second other w g (stopped e v) c = tt
follows_then P Q next second other w g (done x v) c = comes_map (next x v) (Goes Q (other x) v) (Goes Q (second >>= other) w) (λ y u d. goes_on P Q second other w x v y u c d) (g x c.fact v)

-- a walk that makes no test
pub passes_along : {A : Type 0} (Q : A → Type 0) (x : A) → Q x → Follows Q (pass x) (pass x)
passes_along Q x q w = record { fact = q; lines = []; made = sym (++-none w.proofs); goes = λ rest n. (n, refl) }

-- the check follows the program
unfoldable pub following : Likeness Work Trail
following = record {
  Alike = λ Q first other. Follows Q first other;
  passes = λ Q x q. passes_along Q x q;
  limits = λ Q w. tt;
  binds = λ P Q first second next other h g w. follows_then P Q next second other w g (first w) (h w);
}

-- ---- tests

-- tests are counted alike
count_taken : (n : ℕ) → Follows Anything (count_tests n) (follow_count n)
count_taken n w = here (nat_le (w.tests + n) most_tests) refl
  where
    here : (b : Bool) → nat_le (w.tests + n) most_tests ≡ b → Reaches (elim b as (λ _. Outcome Work (Unit {0})) [ true ↦ done tt (record { tests = w.tests + n; proofs = w.proofs }) | false ↦ stopped limit_met w ]) (Goes Anything (follow_count n) w)
    here true e = record {
      fact = tt;
      lines = [];
      made = sym (++-none w.proofs);
      goes = λ rest m. (m, ap (λ (b : Bool). elim b as (λ _. Outcome Trail (Unit {0})) [ true ↦ done tt (trail rest m (w.tests + n)) | false ↦ stopped limit_met (trail rest m w.tests) ]) e);
    }
    here false e = tt

-- the line that shows what a strict test found is taken
strict_line_taken : (cell : List HalfSpace) (b : Bool) (l : ProofLine) → StrictShown cell b l → (t : Trail) → strict_by_line cell (Some l) t ≡ done b (taken t)
strict_line_taken cell b l (inside points e) t = ap (λ (c : Bool). taken_if c true t) e
strict_line_taken cell b l (outside terms e) t = ap (λ (c : Bool). taken_if c false t) e

-- the line that shows what a weak test found is taken
weak_line_taken : (cell : List HalfSpace) (b : Bool) (l : ProofLine) → WeakShown cell b l → (t : Trail) → weak_by_line cell (Some l) t ≡ done b (taken t)
weak_line_taken cell b l (meets p e) t = ap (λ (c : Bool). taken_if c true t) e
weak_line_taken cell b l (apart terms e) t = ap (λ (c : Bool). taken_if c false t) e

-- a strict test takes its line
pub strict_taken_at : (cell : List HalfSpace) → AreKeptHalfSpaces cell → (rest : List (List ℕ)) (n tests : ℕ) → follow_strict cell (trail (proof_text (strict_line cell) ∷ rest) n tests) ≡ done (has_member cell) (trail rest (n + 1) tests)
unfolding follow_strict
strict_taken_at cell k rest n tests =
    let s = strict_shown cell k in
    ap (λ o. strict_by_line cell o (trail (proof_text (strict_line cell) ∷ rest) n tests)) (proof_again (strict_line cell) s.written)
    ∙ strict_line_taken cell (has_member cell) (strict_line cell) s.shown (trail (proof_text (strict_line cell) ∷ rest) n tests)

-- a strict test
strict_taken : (cell : List HalfSpace) → AreKeptHalfSpaces cell → Follows Anything (strict_test cell) (follow_strict cell)
unfolding strict_test
strict_taken cell k w = record { fact = tt; lines = strict_line cell ∷ []; made = refl; goes = λ rest n. (n + 1, strict_taken_at cell k rest n w.tests) }

-- a weak test
weak_taken : (cell : List HalfSpace) → AreKeptHalfSpaces cell → Follows Anything (weak_test cell) (follow_weak cell)
unfolding weak_test follow_weak
weak_taken cell k w =
    let s = weak_shown cell k in
    record {
      fact = tt;
      lines = weak_line cell ∷ [];
      made = refl;
      goes = λ rest n. (
        n + 1,
        ap (λ o. weak_by_line cell o (trail (proof_text (weak_line cell) ∷ rest) n w.tests)) (proof_again (weak_line cell) s.written)
            ∙ weak_line_taken cell (has_weak_point cell) (weak_line cell) s.shown (trail (proof_text (weak_line cell) ∷ rest) n w.tests),
      );
    }

-- a number that passes the test is at most the other
at_most_of : (a b : ℕ) → nat_le a b ≡ true → a ≤ b
at_most_of a b e = grind arith

module _ (law : SlimPartIsPart) where
  -- a part test
  part_taken : (cell : List HalfSpace) → AreKeptHalfSpaces cell → Follows (MadeHas IsKeptHalfSpace) (part_test cell) (follow_part cell)
  unfolding part_test follow_part has_member
  part_taken cell k w = by_member (has_member cell) refl
    where
      strict_first : (rest : List (List ℕ)) (n : ℕ) (b : Bool) → has_member cell ≡ b → follow_part cell (trail (proof_text (strict_line cell) ∷ rest) n w.tests) ≡ part_if b cell (trail rest (n + 1) w.tests)
      strict_first rest n b e = ap (after_first (λ inside. part_if inside cell)) (strict_taken_at cell k rest n w.tests) ∙ ap (λ (c : Bool). part_if c cell (trail rest (n + 1) w.tests)) e

      by_few : has_member cell ≡ true → (b : Bool) → nat_le (length (slimmed cell).kept) most_half_spaces ≡ b
          → Reaches (elim b as (λ _. Outcome Work (Option Part)) [ true ↦ done (Some (part_of (slimmed cell))) (with_lines w (strict_line cell ∷ part_lines (slimmed cell))) | false ↦ stopped limit_met w ]) (Goes (MadeHas IsKeptHalfSpace) (follow_part cell) w)
      by_few e true f =
          let part = law cell k (at_most_of (length (slimmed cell).kept) most_half_spaces f) ((inside_is_found_spec cell (are_half_spaces cell k)).some.0 e) in
          record {
            fact = (part.half_spaces, tt);
            lines = strict_line cell ∷ part_lines (slimmed cell);
            made = refl;
            goes = λ rest n. let m = made_taken cell k f part rest w.tests (n + 1) in (m.0, strict_first (texts_before (part_lines (slimmed cell)) rest) n true e ∙ m.1);
          }
      by_few e false f = tt

      by_member : (b : Bool) → has_member cell ≡ b
          → Reaches (elim b as (λ _. Outcome Work (Option Part)) [ false ↦ done None (with_lines w (strict_line cell ∷ [])) | true ↦ elim (nat_le (length (slimmed cell).kept) most_half_spaces) as (λ _. Outcome Work (Option Part)) [ true ↦ done (Some (part_of (slimmed cell))) (with_lines w (strict_line cell ∷ part_lines (slimmed cell))) | false ↦ stopped limit_met w ] ]) (Goes (MadeHas IsKeptHalfSpace) (follow_part cell) w)
      by_member false e = record { fact = tt; lines = strict_line cell ∷ []; made = refl; goes = λ rest n. (n + 1, strict_first rest n false e) }
      by_member true e = by_few e (nat_le (length (slimmed cell).kept) most_half_spaces) refl

  -- the program's tester and the check's
  pub followed : Related following IsKeptHalfSpace first_tester line_tester
  unfolding following
  followed = record {
    outside = kept_complement;
    count = count_taken;
    strict = strict_taken;
    weak = weak_taken;
    part = part_taken;
  }

-- ---- audits

-- a test that finds something ends an audit
ends_found : {A : Type 0} (Q : A → Type 0) (n : Walk Work A) (l : Walk Trail A) → Follows Q n l → (b : Bool) → Follows Q (elim b as (λ _. Walk Work A) [ true ↦ stop taken_wrong | false ↦ n ]) (elim b as (λ _. Walk Trail A) [ true ↦ stop taken_wrong | false ↦ l ])
ends_found Q n l g true w = tt
ends_found Q n l g false w = g w

-- the next pair where nothing was found
either_found : (n : Walk Work Bool) (l : Walk Trail Bool) → Follows Anything n l → (b : Bool) → Follows Anything (elim b as (λ _. Walk Work Bool) [ true ↦ pass true | false ↦ n ]) (elim b as (λ _. Walk Trail Bool) [ true ↦ pass true | false ↦ l ])
either_found n l g true w = passes_along Anything true tt w
either_found n l g false w = g w

-- the program's tester and the check's, in an audit
pub audited : Audited following IsKeptHalfSpace first_tester line_tester
unfolding following
audited = record {
  Found = λ m k. Follows Anything m k;
  none = passes_along Anything false tt;
  next = λ m n k l h g w. follows_then Anything Anything (λ found. elim found as (λ _. Walk Work Bool) [ true ↦ pass true | false ↦ n ]) k (λ found. elim found as (λ _. Walk Trail Bool) [ true ↦ pass true | false ↦ l ]) w (λ b _. either_found n l g b) (m w) (h w);
  ends = λ {A} Q m k n l h g w. follows_then Anything Q (λ found. elim found as (λ _. Walk Work A) [ true ↦ stop taken_wrong | false ↦ n ]) k (λ found. elim found as (λ _. Walk Trail A) [ true ↦ stop taken_wrong | false ↦ l ]) w (λ b _. ends_found Q n l g b) (m w) (h w);
  count = count_taken;
  strict = strict_taken;
}
