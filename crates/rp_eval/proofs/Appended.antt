-- Over the program's tester a row comes to the same behind any earlier lines, which it doesn't look at, and only limits stop it.
use Rattle.std.proofs.Common.{◌≡◌, ℕ, ◌+◌, Bool, true, false, List, [], ◌∷◌, ◌++◌, length, Option, Some, None, refl, sym, ap, append_assoc, subst}
use Rattle.std.specs.Prelude.{nat_le}
use Rattle.std.specs.List.{AllByRecursion}
use Rattle.rp_geometry.specs.Geometry.{HalfSpace}
use Rattle.rp_geometry.specs.sets.Shape.{Part}
use Rattle.rp_geometry.specs.searches.ProofLine.{ProofLine, strict_line, weak_line}
use Rattle.rp_geometry.specs.parts.Groups.{groups_of}
use Rattle.rp_geometry.specs.parts.PartTest.{has_member, has_weak_point, slimmed, part_lines, part_of}
use Rattle.rp_geometry.specs.parts.Parts.{most_half_spaces}
use Rattle.rp_semantics.specs.Walk.{Stop, limit_met, Outcome, done, stopped, Walk, pass, after_first, ◌>>=◌, Work, most_tests, with_lines, count_tests, strict_test, weak_test, part_test, first_tester}
use Rattle.rp_language.specs.Expression.{Expression, Meaning}
use Rattle.rp_semantics.specs.Form.{made_part, parts_or_none, form}
use Rattle.rp_semantics.specs.Compare.{show_then_no, is_covered, relation_of_parts}
use Rattle.rp_semantics.specs.Pieces.{pair_count, numbered_from, pieces_of_parts}
use Rattle.rp_parametricity.proofs.Likeness.{Anything, Likeness, PartsHave, MadeHas, MeaningHas, Related}
use Rattle.rp_parametricity.proofs.Forms.{either, after, common_in_full_alike, form_alike}
use Rattle.rp_parametricity.proofs.Rows.{show_alike, covered_alike, by_overlap_alike, among_alike}
use Rattle.rp_checker_completeness.proofs.Commands.{Any, AnyLabel, any_cell, any_parts, any_expression}

-- ---- the relation

-- the work with these lines in front of its own
abbrev pub behind : List ProofLine → Work → Work
behind front w = record { tests = w.tests; proofs = front ++ w.proofs }

-- the second outcome is the first one, with these lines in front; a stop is at a limit
abbrev pub Again : {A : Type 0} → (A → Type 0) → List ProofLine → Outcome Work A → Outcome Work A → Type 0
Again Q front (done x v) o = (o ≡ done x (behind front v)) × Q x
Again Q front (stopped s v) o = (o ≡ stopped s (behind front v)) × (s ≡ limit_met)

-- the second walk comes, behind any lines, to what the first one comes to without
pub record Appended {A : Type 0} (Q : A → Type 0) (m k : Walk Work A) : Type 0 where
  pub again : (front : List ProofLine) (w : Work) → Again Q front (m w) (k (behind front w))

-- so do one walk and then the next
pub binds_appended : {A B : Type 0} (P : A → Type 0) (Q : B → Type 0) (first second : Walk Work A) (next other : A → Walk Work B) → Appended P first second → ((x : A) → P x → Appended Q (next x) (other x)) → Appended Q (first >>= next) (second >>= other)
binds_appended {A = A} P Q first second next other h each = record { again = λ front w. by front (first w) (second (behind front w)) (h.again front w) }
  where
    by : (front : List ProofLine) (o p : Outcome Work A) → Again P front o p → Again Q front (after_first next o) (after_first other p)
    by front (done x v) p g = subst (λ p. Again Q front (next x v) (after_first other p)) (sym g.0) ((each x g.1).again front v)
    by front (stopped s v) p g = (ap (after_first other) g.0, g.1)

-- that is a likeness
unfoldable pub appended : Likeness Work Work
appended = record {
  Alike = λ Q m k. Appended Q m k;
  passes = λ Q x q. record { again = λ front w. (refl, q) };
  limits = λ Q. record { again = λ front w. (refl, refl) };
  binds = λ P Q first second next other h each. binds_appended P Q first second next other h each;
}

-- ---- the tester

-- lines are told, whatever stands in front
told_again : {A : Type 0} (Q : A → Type 0) (front lines : List ProofLine) (w : Work) (x : A) → Q x → Again Q front (done x (with_lines w lines)) (done x (with_lines (behind front w) lines))
told_again Q front lines w x q = (λ i. done x (record { tests = w.tests; proofs = append_assoc front w.proofs lines i }), q)

-- tests are counted
count_again : (n : ℕ) → Appended Anything (count_tests n) (count_tests n)
count_again n = record { again = λ front w. by front w (nat_le (w.tests + n) most_tests) }
  where
    by : (front : List ProofLine) (w : Work) (b : Bool) → Again Anything front (elim b as (λ _. Outcome Work (Unit {0})) [ true ↦ done tt (record { tests = w.tests + n; proofs = w.proofs }) | false ↦ stopped limit_met w ])
        (elim b as (λ _. Outcome Work (Unit {0})) [ true ↦ done tt (record { tests = w.tests + n; proofs = front ++ w.proofs }) | false ↦ stopped limit_met (behind front w) ])
    by front w true = (refl, tt)
    by front w false = (refl, refl)

-- a strict test
strict_again : (cell : List HalfSpace) → Appended Anything (strict_test cell) (strict_test cell)
unfolding strict_test
strict_again cell = record { again = λ front w. told_again Anything front (strict_line cell ∷ []) w (has_member cell) tt }

-- a weak test
weak_again : (cell : List HalfSpace) → Appended Anything (weak_test cell) (weak_test cell)
unfolding weak_test
weak_again cell = record { again = λ front w. told_again Anything front (weak_line cell ∷ []) w (has_weak_point cell) tt }

-- a part test
part_again : (cell : List HalfSpace) → Appended (MadeHas Any) (part_test cell) (part_test cell)
unfolding part_test
part_again cell = record { again = λ front w. by_member front w (has_member cell) }
  where
    by_size : (w : Work) (b : Bool) → Outcome Work (Option Part)
    by_size w b = elim b as (λ _. Outcome Work (Option Part)) [
      | true ↦ done (Some (part_of (slimmed cell))) (with_lines w (strict_line cell ∷ part_lines (slimmed cell)))
      | false ↦ stopped limit_met w
    ]

    size_again : (front : List ProofLine) (w : Work) (b : Bool) → Again (MadeHas Any) front (by_size w b) (by_size (behind front w) b)
    size_again front w true = told_again (MadeHas Any) front (strict_line cell ∷ part_lines (slimmed cell)) w (Some (part_of (slimmed cell))) (any_parts (made_part (Some (part_of (slimmed cell)))))
    size_again front w false = (refl, refl)

    by_found : (w : Work) (b : Bool) → Outcome Work (Option Part)
    by_found w b = elim b as (λ _. Outcome Work (Option Part)) [
      | false ↦ done None (with_lines w (strict_line cell ∷ []))
      | true ↦ by_size w (nat_le (length (slimmed cell).kept) most_half_spaces)
    ]

    by_member : (front : List ProofLine) (w : Work) (b : Bool) → Again (MadeHas Any) front (by_found w b) (by_found (behind front w) b)
    by_member front w true = size_again front w (nat_le (length (slimmed cell).kept) most_half_spaces)
    by_member front w false = told_again (MadeHas Any) front (strict_line cell ∷ []) w None tt

-- the program's tester and itself
pub related_appended : Related appended Any first_tester first_tester
unfolding appended
related_appended = record {
  outside = λ h k. tt;
  count = count_again;
  strict = λ cell h. strict_again cell;
  weak = λ cell h. weak_again cell;
  part = λ cell h. part_again cell;
}

-- ---- walks that compare, and pieces

-- the test of a first part
pub show_appended : (ps : List Part) → Appended Anything (show_then_no first_tester ps) (show_then_no first_tester ps)
unfolding appended
show_appended ps = show_alike appended Any AnyLabel first_tester first_tester related_appended ps (any_parts ps)

-- an inclusion
pub covered_appended : (ps qs : List Part) → Appended Anything (is_covered first_tester ps qs) (is_covered first_tester ps qs)
unfolding appended
covered_appended ps qs = covered_alike appended Any AnyLabel first_tester first_tester related_appended ps qs (any_parts ps) (any_parts qs)

-- the second inclusion, where the first holds
abbrev second_cover : List Part → List Part → Bool → Walk Work Bool
second_cover ps qs there = elim there as (λ _. Walk Work Bool) [ false ↦ pass false | true ↦ is_covered first_tester qs ps ]

-- both
pub equal_appended : (ps qs : List Part) → Appended Anything (is_covered first_tester ps qs >>= second_cover ps qs) (is_covered first_tester ps qs >>= second_cover ps qs)
unfolding appended
equal_appended ps qs =
    after appended Anything (is_covered first_tester ps qs) (is_covered first_tester ps qs) (second_cover ps qs) (second_cover ps qs) (covered_appended ps qs)
    λ there. either appended Anything there _ _ _ _ (covered_appended qs ps) (appended.passes Anything false tt)

-- the relation of two lists
pub relation_appended : (ps qs : List Part) → Appended Anything (relation_of_parts first_tester ps qs) (relation_of_parts first_tester ps qs)
unfolding appended
relation_appended ps qs =
    after appended Anything _ _ _ _ (common_in_full_alike appended Any first_tester first_tester related_appended ps qs (any_parts ps) (any_parts qs))
    λ common. by_overlap_alike appended Any AnyLabel first_tester first_tester related_appended ps qs common (any_parts ps) (any_parts qs)

-- names and lots stand for anything
any_meaning : (m : Meaning (List Part)) → MeaningHas Any m
any_meaning m = record { names = λ x. any_parts (parts_or_none (m.of_name x)); lots = λ x. any_parts (parts_or_none (m.of_lot x)) }

-- the form of an expression
pub form_appended : (m : Meaning (List Part)) (e : Expression) → Appended (PartsHave Any) (form first_tester m e) (form first_tester m e)
unfolding appended
form_appended m e = form_alike appended Any first_tester first_tester related_appended AnyLabel m (any_meaning m) e (any_expression e)

-- the numbered parts of a list have anything
any_numbered : (ps : List (ℕ × Part)) → AllByRecursion (λ (p : ℕ × Part). AllByRecursion Any p.1.cell) ps
any_numbered [] = tt
any_numbered (p ∷ ps) = (any_cell p.1.cell, any_numbered ps)

-- the pieces of a list
pub pieces_appended : (ps : List Part) → Appended Anything (pieces_of_parts first_tester ps) (pieces_of_parts first_tester ps)
unfolding appended
pieces_appended ps =
    after appended Anything _ _ _ _ (count_again (pair_count ps)) λ _.
    after appended Anything _ _ _ _ (among_alike appended Any AnyLabel first_tester first_tester related_appended [] (numbered_from 1 ps) (any_numbered (numbered_from 1 ps))) λ links. appended.passes Anything (groups_of links (length ps)) tt

-- ---- what is told of such a walk

-- it comes to the same behind any lines
pub ends_behind : {A : Type 0} (Q : A → Type 0) (m : Walk Work A) → Appended Q m m → (front : List ProofLine) (w v : Work) (x : A) → m w ≡ done x v → m (behind front w) ≡ done x (behind front v)
ends_behind Q m h front w v x e = (subst (λ o. Again Q front o (m (behind front w))) e (h.again front w)).0

-- where it is stopped, it is so behind any lines, and by a limit
pub stops_behind : {A : Type 0} (Q : A → Type 0) (m : Walk Work A) → Appended Q m m → (front : List ProofLine) (w v : Work) (s : Stop) → m w ≡ stopped s v → (m (behind front w) ≡ stopped s (behind front v)) × (s ≡ limit_met)
stops_behind Q m h front w v s e = subst (λ o. Again Q front o (m (behind front w))) e (h.again front w)
