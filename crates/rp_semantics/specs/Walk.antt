-- A walk makes tests one after another, and may be stopped. A tester answers the tests: the program searches for the first certificate, and the check reads a line.
use Rattle.std.specs.Prelude.{ℕ, ◌+◌, Bool, true, false, ℤ, List, [], ◌∷◌, ◌++◌, map, length, Option, Some, None, nat_le}
use Rattle.rp_geometry.specs.Geometry.{HalfSpace}
use Rattle.rp_geometry.specs.sets.Shape.{Part}
use Rattle.rp_geometry.specs.searches.ProofLine.{ProofLine, strict_line, weak_line}
use Rattle.rp_geometry.specs.parts.PartTest.{has_member, has_weak_point, slimmed, part_lines, part_of}
use Rattle.rp_geometry.specs.parts.Parts.{most_half_spaces}
use Rattle.rp_geometry.specs.sections.Slice.{Slice, slice_of}

-- the reason why a walk stops: a limit is met, the report has a limit line, the next line does not fit, or the line taken last does not
pub data Stop : Type 0 where
  limit_met limit_told line_wrong taken_wrong : Stop

-- the outcome of a walk: a result or a stop, and the work at its end
pub data Outcome (W A : Type 0) : Type 0 where
  done : A → W → Outcome W A
  stopped : Stop → W → Outcome W A

-- a walk: from the work so far to an outcome
abbrev pub Walk : Type 0 → Type 0 → Type 0
Walk W A = W → Outcome W A

-- the walk that makes no test and has the result x
abbrev pub pass : {W A : Type 0} → A → Walk W A
pass x w = done x w

-- the walk that stops at once
abbrev pub stop : {W A : Type 0} → Stop → Walk W A
stop s w = stopped s w

infixl 10 ◌>>=◌ ◌>>◌
-- the outcome of the next walk after a first outcome; a stop stays
abbrev pub after_first : {W A B : Type 0} → (A → Walk W B) → Outcome W A → Outcome W B
after_first next (done x w) = next x w
after_first next (stopped s w) = stopped s w

-- one walk and then the next, which depends on the first result
abbrev pub ◌>>=◌ : {W A B : Type 0} → Walk W A → (A → Walk W B) → Walk W B
(first >>= next) w = after_first next (first w)

-- one walk and then the next, without the first result
abbrev pub ◌>>◌ : {W A B : Type 0} → Walk W A → Walk W B → Walk W B
(first >> next) w = after_first (λ _. next) (first w)

-- a tester: how tests are counted and answered, and which slices the parts have at a height
pub record Tester (W : Type 0) : Type 0 where
  pub count : ℕ → Walk W (Unit {0})
  pub strict : List HalfSpace → Walk W Bool
  pub weak : List HalfSpace → Walk W Bool
  pub part : List HalfSpace → Walk W (Option Part)
  pub slices : ℤ → List Part → Walk W (List Slice)

-- the most tests that a command may count
abbrev pub most_tests : ℕ
most_tests = 65536

-- ---- the program's tester

-- the number of tests counted in a command so far, and the proof lines so far
pub record Work : Type 0 where
  pub tests : ℕ
  pub proofs : List ProofLine

-- no test counted and no proof line
abbrev pub no_work : Work
no_work = record { tests = 0; proofs = [] }

-- the work with further proof lines
abbrev pub with_lines : Work → List ProofLine → Work
with_lines w lines = record { tests = w.tests; proofs = w.proofs ++ lines }

-- counts n more tests; a stop at the limit if there would be more than 65,536
abbrev pub count_tests : ℕ → Walk Work (Unit {0})
count_tests n w = elim (nat_le (w.tests + n) most_tests) [ true ↦ done tt (record { tests = w.tests + n; proofs = w.proofs }) | false ↦ stopped limit_met w ]

-- a strict test, with its proof line
unfoldable pub strict_test : List HalfSpace → Walk Work Bool
strict_test cell w = done (has_member cell) (with_lines w (strict_line cell ∷ []))

-- a weak test, with its proof line
unfoldable pub weak_test : List HalfSpace → Walk Work Bool
weak_test cell w = done (has_weak_point cell) (with_lines w (weak_line cell ∷ []))

-- a part test, with its proof lines: a strict test; if the cell has a member, the part of its slim cell, with at most 32 half-spaces
unfoldable pub part_test : List HalfSpace → Walk Work (Option Part)
part_test cell w =
    elim (has_member cell) [
      | false ↦ done None (with_lines w (strict_line cell ∷ []))
      | true ↦ elim (nat_le (length (slimmed cell).kept) most_half_spaces) [
        | true ↦ done (Some (part_of (slimmed cell))) (with_lines w (strict_line cell ∷ part_lines (slimmed cell)))
        | false ↦ stopped limit_met w
      ]
    ]

-- the slices of parts at a height, without a test
unfoldable pub slices_found : ℤ → List Part → Walk Work (List Slice)
slices_found z ps w = done (map (λ p. slice_of z p.cell) ps) w

-- the tester that answers by the first certificates
abbrev pub first_tester : Tester Work
first_tester = record { count = count_tests; strict = strict_test; weak = weak_test; part = part_test; slices = slices_found }
