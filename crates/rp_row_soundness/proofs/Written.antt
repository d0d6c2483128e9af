-- What is known of a proof line that is read: its numbers keep their bounds.
use Rattle.std.proofs.Common.{◌≡◌, ℕ, ℤ, pos, ◌<ℤ◌, Bool, true, false, ◌&&◌, List, [], ◌∷◌, refl, subst, arith}
use Rattle.std.specs.Prelude.{Option, Some, None, int_le, option_and_then}
use Rattle.std.proofs.lemmas.Int.{ints}
use Rattle.rp_algebra.proofs.Options.{none_not_some, same_some}
use Rattle.rp_algebra.proofs.Tests.{and_first, and_second}
use Rattle.rp_geometry.specs.Geometry.{RationalPoint, IntegerBox, IsPoint, is_point_in_bounds, is_box_in_bounds, reduced_point, point_eq}
use Rattle.rp_language.specs.Name.{label_eq}
use Rattle.rp_reports.specs.Text.{proof_text}
use Rattle.rp_geometry.specs.searches.ProofLine.{ProofLine, at_line, box_line}
use Rattle.rp_reports.specs.ProofText.{is_written, loose_words, read_words, if_spelled, proof_read}
use Rattle.rp_reports.specs.Check.{next_proof}

-- the line, where the test passes
abbrev spelled_if : ProofLine → Bool → Option ProofLine
spelled_if read b = elim b [ true ↦ Some read | false ↦ None ]

-- what passes both tests is written
by_tests : (read proof : ProofLine) (a b : Bool) → is_written read ≡ a → spelled_if read (a && b) ≡ Some proof → is_written proof ≡ true
by_tests read proof true true e s = subst (λ p. is_written p ≡ true) (same_some read proof s) e
by_tests read proof true false e s = absurd (none_not_some proof s)
by_tests read proof false b e s = absurd (none_not_some proof s)

-- what was read loosely, and passes
of_loose : (line : List ℕ) (o : Option ProofLine) (proof : ProofLine) → option_and_then (if_spelled line) o ≡ Some proof → is_written proof ≡ true
of_loose line None proof e = absurd (none_not_some proof e)
of_loose line (Some read) proof e = by_tests read proof (is_written read) (label_eq (proof_text read) line) refl e

-- a proof line that is read is written
pub read_is_written : (line : List ℕ) (proof : ProofLine) → proof_read line ≡ Some proof → is_written proof ≡ true
unfolding proof_read
read_is_written line proof e = of_loose line (read_words (loose_words line)) proof e

-- the next line that is read is written
pub next_is_written : (lines : List (List ℕ)) (proof : ProofLine) → next_proof lines ≡ Some proof → is_written proof ≡ true
next_is_written [] proof e = absurd (none_not_some proof e)
next_is_written (line ∷ lines) proof e = read_is_written line proof e

-- the weight of a written point is above 0
pub written_point : (p : RationalPoint) → is_written (at_line p) ≡ true → IsPoint p
unfolding is_written
written_point p e = above p.w (and_second (is_point_in_bounds p) (int_le (pos 1) p.w) (and_first (is_point_in_bounds p && int_le (pos 1) p.w) (point_eq (reduced_point p) p) e))
  where
    above : (w : ℤ) → int_le (pos 1) w ≡ true → pos 0 <ℤ w
    above w e = grind (arith, ints)

-- a written box keeps its bounds
pub written_box : (b : IntegerBox) → is_written (box_line b) ≡ true → is_box_in_bounds b ≡ true
unfolding is_written
written_box b e = e
