-- The reader of reports and what it accepts: the rows again, with the answers of the tests taken from the proof lines.
use Rattle.std.specs.Prelude.{◌≡◌, ℕ, zero, suc, ◌+◌, ◌-◌, ◌<◌, ◌≤◌, Bool, true, false, ◌&&◌, ◌||◌, not, ◌==◌, nat_lt, nat_le, int_lt, IsTrue, ℤ, List, [], ◌∷◌, ◌++◌, map, length, take, drop, Option, Some, None, is_none}
use Rattle.std.specs.List.{AllByRecursion, list_all}
use Rattle.rp_geometry.specs.Geometry.{HalfSpace, IntegerBox, complement, half_space_eq, is_listed, box_half_spaces, cube_half_spaces}
use Rattle.rp_geometry.specs.sets.Shape.{Part}
use Rattle.rp_geometry.specs.searches.Certificate.{is_inside_certificate, is_weak_point, is_outside_certificate}
use Rattle.rp_geometry.specs.searches.ProofLine.{ProofLine, in_line, out_line, at_line, apart_line, drop_line, box_line}
use Rattle.rp_geometry.specs.sections.Slice.{Slice, is_slice, slice_of}
use Rattle.rp_semantics.specs.Walk.{pass, stop, ◌>>=◌, ◌>>◌, limit_met, limit_told, line_wrong, taken_wrong, Outcome, done, stopped, Walk, Tester, most_tests}
use Rattle.rp_geometry.specs.parts.Parts.{most_half_spaces}
use Rattle.rp_language.specs.Name.{label_eq}
use Rattle.rp_language.specs.Expression.{Command, expressions_of, first_unknown_among, said}
use Rattle.rp_model.specs.commands.Table.{definition}
use Rattle.rp_model.specs.commands.Reply.{Reply}
use Rattle.rp_model.specs.commands.Row.{row}
use Rattle.rp_model.specs.states.State.{PlainState, opening, changed, parts_in}
use Rattle.rp_model.specs.commands.Verdict.{refused, Refusal, limit}
use Rattle.rp_language.specs.Grammar.{Version, one, two, Fault, too_long, Reading, blank, command, bad, reading}
use Rattle.rp_reports.specs.Text.{verdict_text, line_end}
use Rattle.rp_reports.specs.ProofText.{proof_read, Echo, echo_read}
use Rattle.rp_reports.specs.SliceText.{slice_read}
use Rattle.rp_reports.specs.Report.{report_mark, version_by, body_of}

-- a trail: the report lines still to come, the number of the next one, and the number of tests that a command has counted
pub record Trail : Type 0 where
  pub lines : List (List ℕ)
  pub number : ℕ
  pub tests : ℕ

-- the verdict line of a refusal
abbrev pub refusal_line : Refusal → List ℕ
refusal_line r = verdict_text (refused r)

-- the next line reports a limit in place of the line that is due
abbrev pub tells_limit : List (List ℕ) → Bool
tells_limit [] = false
tells_limit (line ∷ lines) = label_eq line (refusal_line limit)

-- the stop if the line that is due does not come: the report has a limit line, or it is wrong
abbrev pub nothing_due : {A : Type 0} → Walk Trail A
nothing_due t = elim (tells_limit t.lines) [ true ↦ stopped limit_told t | false ↦ stopped line_wrong t ]

-- the next line as a proof line; none if it is no proof line
abbrev pub next_proof : List (List ℕ) → Option ProofLine
next_proof [] = None
next_proof (line ∷ lines) = proof_read line

-- the trail after the next line
abbrev pub taken : Trail → Trail
taken t = record { lines = drop 1 t.lines; number = t.number + 1; tests = t.tests }

-- the trail with the number of the line before, for a wrong line that was taken already
abbrev pub one_back : Trail → Trail
one_back t = record { lines = t.lines; number = t.number - 1; tests = t.tests }

-- takes the next line and returns x, if its certificate passes; otherwise the line is wrong
abbrev pub taken_if : {A : Type 0} → Bool → A → Walk Trail A
taken_if true x t = done x (taken t)
taken_if false x t = stopped line_wrong t

-- counts n more tests; a stop at the limit if there would be more than 65,536
abbrev pub follow_count : ℕ → Walk Trail (Unit {0})
follow_count n t = elim (nat_le (t.tests + n) most_tests) [ true ↦ done tt (record { lines = t.lines; number = t.number; tests = t.tests + n }) | false ↦ stopped limit_met t ]

-- a strict test, answered by the given next line
abbrev pub strict_by_line : List HalfSpace → Option ProofLine → Walk Trail Bool
strict_by_line cell (Some (in_line points)) = taken_if (is_inside_certificate cell points) true
strict_by_line cell (Some (out_line terms)) = taken_if (is_outside_certificate true cell terms) false
strict_by_line cell _ = nothing_due

-- a strict test, answered by the next line
unfoldable pub follow_strict : List HalfSpace → Walk Trail Bool
follow_strict cell t = strict_by_line cell (next_proof t.lines) t

-- a weak test, answered by the given next line
abbrev pub weak_by_line : List HalfSpace → Option ProofLine → Walk Trail Bool
weak_by_line cell (Some (at_line p)) = taken_if (is_weak_point cell p) true
weak_by_line cell (Some (apart_line terms)) = taken_if (is_outside_certificate false cell terms) false
weak_by_line cell _ = nothing_due

-- a weak test, answered by the next line
unfoldable pub follow_weak : List HalfSpace → Walk Trail Bool
follow_weak cell t = weak_by_line cell (next_proof t.lines) t

-- ---- a part test

-- the list without the first occurrence of a half-space
abbrev pub without : HalfSpace → List HalfSpace → List HalfSpace
without h [] = []
without h (k ∷ ks) = elim (half_space_eq h k) [ true ↦ ks | false ↦ k ∷ without h ks ]

-- the half-space that a line drops: it is in the list, and the certificate passes for the others and its complement
abbrev pub dropped_by : List HalfSpace → Option ProofLine → Option HalfSpace
dropped_by kept (Some (drop_line h terms)) = elim (is_listed h kept && is_outside_certificate true (without h kept ++ complement h ∷ []) terms) [ true ↦ Some h | false ↦ None ]
dropped_by kept _ = None

-- the half-spaces that stay when the lines that drop some are taken, one after another; the first list has the lines still to come
abbrev pub follow_drops : List (List ℕ) → List HalfSpace → Walk Trail (List HalfSpace)
follow_drops [] kept t = done kept t
follow_drops (line ∷ lines) kept t = elim (dropped_by kept (proof_read line)) [ Some h ↦ follow_drops lines (without h kept) (taken t) | None ↦ done kept t ]

-- a stop at the limit if there are more than 32 half-spaces
abbrev pub if_few : List HalfSpace → Walk Trail (Unit {0})
if_few kept = elim (nat_le (length kept) most_half_spaces) [ true ↦ pass tt | false ↦ stop limit_met ]

-- the lower corner is below the upper corner on each axis
abbrev pub is_proper_box : IntegerBox → Bool
is_proper_box b = int_lt b.x1 b.x2 && int_lt b.y1 b.y2 && int_lt b.z1 b.z2

-- the box that the next line gives, if its lower corner is below its upper corner
abbrev pub box_by_line : Option ProofLine → Walk Trail IntegerBox
box_by_line (Some (box_line b)) = taken_if (is_proper_box b) b
box_by_line _ = nothing_due

-- takes the certificate of a side from the given next line
abbrev pub side_by_line : List HalfSpace → HalfSpace → Option ProofLine → Walk Trail (Unit {0})
side_by_line kept side (Some (out_line terms)) = taken_if (is_outside_certificate true (kept ++ complement side ∷ []) terms) tt
side_by_line kept side _ = nothing_due

-- takes the certificate of a side that is neither in the cell nor a side of the cube
abbrev pub follow_side : List HalfSpace → HalfSpace → Walk Trail (Unit {0})
follow_side kept side t = elim (is_listed side kept || is_listed side cube_half_spaces) [ true ↦ done tt t | false ↦ side_by_line kept side (next_proof t.lines) t ]

-- takes the certificates of the sides, in order
abbrev pub follow_sides : List HalfSpace → List HalfSpace → Walk Trail (Unit {0})
follow_sides kept [] = pass tt
follow_sides kept (side ∷ sides) = do
  follow_side kept side
  follow_sides kept sides

-- the part of a cell with a member: the half-spaces that stay, its box, and the certificates of its sides
abbrev pub follow_made : List HalfSpace → Walk Trail (Option Part)
follow_made cell = do
  kept ← λ t. follow_drops t.lines cell t
  if_few kept
  b ← λ t. box_by_line (next_proof t.lines) t
  follow_sides kept (box_half_spaces b)
  pass (Some (record { cell = kept; bounds = b }))

-- the rest of a part test after its strict test: a part if the cell has a member, otherwise none
abbrev pub part_if : Bool → List HalfSpace → Walk Trail (Option Part)
part_if true cell = follow_made cell
part_if false cell = pass None

-- a part test, answered by the next lines
unfoldable pub follow_part : List HalfSpace → Walk Trail (Option Part)
follow_part cell = do
  inside ← follow_strict cell
  part_if inside cell

-- ---- slices

-- the slice that the next line shows; none if it shows no slice
abbrev pub next_slice : List (List ℕ) → Option Slice
next_slice [] = None
next_slice (line ∷ lines) = slice_read line

-- the slice of a cell that a line shows, if it passes; otherwise the computed slice, whose line differs from the line in the report
abbrev pub slice_told : ℤ → List HalfSpace → Option Slice → Slice
slice_told z cell None = slice_of z cell
slice_told z cell (Some s) = elim (is_slice z cell s) [ true ↦ s | false ↦ slice_of z cell ]

-- the slices of parts that the lines show, one line for each part
abbrev pub slices_told : ℤ → List Part → List (List ℕ) → List Slice
slices_told z [] lines = []
slices_told z (p ∷ ps) lines = slice_told z p.cell (next_slice lines) ∷ slices_told z ps (drop 1 lines)

-- the slices that the report shows after the line with their number; no line is taken yet
unfoldable pub follow_slices : ℤ → List Part → Walk Trail (List Slice)
follow_slices z ps t = done (slices_told z ps (drop 1 t.lines)) t

-- the tester that answers by the lines of a report
abbrev pub line_tester : Tester Trail
line_tester = record { count = follow_count; strict = follow_strict; weak = follow_weak; part = follow_part; slices = follow_slices }

-- ---- whole answers

-- takes the next line, which must be `want`
abbrev pub follow_line : List ℕ → List (List ℕ) → Walk Trail (Unit {0})
follow_line want [] = stop line_wrong
follow_line want (line ∷ lines) = taken_if (label_eq want line) tt

-- takes the next lines, which must be those given
abbrev pub follow_lines : List (List ℕ) → Walk Trail (Unit {0})
follow_lines [] = pass tt
follow_lines (want ∷ wanted) = do
  λ t. follow_line want t.lines t
  follow_lines wanted

-- the command may meet a limit
abbrev pub may_meet_limit : Command → Bool
may_meet_limit (said verb os) = (definition verb).may_meet_limit

-- a limit may be reported iff the command can meet one and all names and lots of its expressions are known
abbrev pub limit_allowed : PlainState → Command → Bool
limit_allowed s c = may_meet_limit c && is_none (first_unknown_among (parts_in s) (expressions_of c))

-- takes a line that reports a limit; the state stays
abbrev pub follow_limit : PlainState → Walk Trail PlainState
follow_limit s = do
  follow_lines (refusal_line limit ∷ [])
  pass s

-- takes the verdict lines of a reply; the state after its change
abbrev pub follow_reply : ℕ → PlainState → Reply → Walk Trail PlainState
follow_reply n s r = do
  follow_lines (map verdict_text r.verdicts)
  pass (changed n s r.change)

-- takes the verdict lines of a reply, or a line that reports a limit in their place if that is allowed
abbrev pub follow_verdicts : ℕ → PlainState → Bool → Reply → Walk Trail PlainState
follow_verdicts n s allowed r t = elim (allowed && tells_limit t.lines) [ true ↦ follow_limit s t | false ↦ follow_reply n s r t ]

-- the rest of an answer after its row: its verdict lines, or a limit, or the number of the wrong line
abbrev pub follow_walk : ℕ → PlainState → Bool → Outcome Trail Reply → Outcome Trail PlainState
follow_walk n s allowed (done r t) = follow_verdicts n s allowed r t
follow_walk n s allowed (stopped line_wrong t) = stopped line_wrong t
follow_walk n s allowed (stopped taken_wrong t) = stopped line_wrong (one_back t)
follow_walk n s allowed (stopped _ t) = elim allowed [ true ↦ follow_limit s t | false ↦ stopped line_wrong t ]

-- the answer to a command, after its echo
unfoldable pub follow_command : ℕ → PlainState → Command → Walk Trail PlainState
follow_command n s c t = follow_walk n s (limit_allowed s c) (row line_tester s c t)

-- the answer to a line that is no command
abbrev pub follow_fault : PlainState → Fault → Walk Trail PlainState
follow_fault s f = do
  follow_lines (refusal_line (Refusal.bad f) ∷ [])
  pass s

-- the answer to an echoed text by its reading
abbrev pub follow_reading : ℕ → PlainState → Reading → Walk Trail PlainState
follow_reading n s (command c) = follow_command n s c
follow_reading n s (bad f) = follow_fault s f
follow_reading n s blank = stop line_wrong

-- the reading of an echoed text, which is neither blank nor too long
abbrev pub may_be_echoed : Reading → Bool
may_be_echoed blank = false
may_be_echoed (bad too_long) = false
may_be_echoed _ = true

-- the answer to an echo, the next line, by the reading of its text; the echo is wrong if the text is blank or too long
abbrev pub follow_text : ℕ → PlainState → Reading → Walk Trail PlainState
follow_text n s r t = elim (may_be_echoed r) [ true ↦ follow_reading n s r (taken t) | false ↦ stopped line_wrong t ]

-- the answer to an echo, the next line, with its text, which is read in the version, or without one
abbrev pub follow_echo : Version → ℕ → PlainState → Option (List ℕ) → Walk Trail PlainState
follow_echo v n s None t = follow_fault s too_long (taken t)
follow_echo v n s (Some text) t = follow_text n s (reading v text) t

-- the state after answers, and the number of the last one
pub record Progress : Type 0 where
  pub last : ℕ
  pub state : PlainState

-- the trail at the beginning of a command, without tests
abbrev pub with_no_tests : Trail → Trail
with_no_tests t = record { lines = t.lines; number = t.number; tests = 0 }

-- the answer to a next line that reads as an echo; its number must be above all earlier ones
abbrev pub follow_numbered : Version → Progress → Option Echo → Walk Trail Progress
follow_numbered v q None = stop line_wrong
follow_numbered v q (Some e) = elim (nat_lt q.last e.number) [
  | false ↦ stop line_wrong
  | true ↦ do
    s ← λ t. follow_echo v e.number q.state e.text (with_no_tests t)
    pass (record { last = e.number; state = s })
]

-- the echo in the next line; none if the line is no echo
abbrev pub next_echo : List (List ℕ) → Option Echo
next_echo [] = None
next_echo (line ∷ lines) = echo_read line

-- the next answer of a report
unfoldable pub follow_answer : Version → Progress → Walk Trail Progress
follow_answer v q t = follow_numbered v q (next_echo t.lines) t

-- the result of the check: all answers are accepted, or the number of the first wrong line
pub data Finding : Type 0 where
  all_accepted : Finding
  wrong_at : ℕ → Finding

-- no line is left
abbrev pub is_at_end : Trail → Bool
is_at_end t = length t.lines == 0

-- follows whole answers until no line is left or one is wrong; `room` bounds their number
abbrev pub find_wrong : Version → ℕ → Progress → Trail → Finding
find_wrong v zero q t = elim (is_at_end t) [ true ↦ all_accepted | false ↦ wrong_at t.number ]
find_wrong v (suc room) q t = elim (is_at_end t) [
  | true ↦ all_accepted
  | false ↦ elim (follow_answer v q t) [ done further rest ↦ find_wrong v room further rest | stopped e rest ↦ wrong_at rest.number ]
]

-- the number of the first line of an answer in a report: in version 2 the mark comes before it
abbrev pub first_line_number : Version → ℕ
first_line_number one = 1
first_line_number two = 2

-- the result of the check of the lines of a report, whose echoed texts are read in the version
abbrev pub finding_by : Version → List (List ℕ) → Finding
finding_by v lines = find_wrong v (length lines) (record { last = 0; state = opening }) (record { lines = body_of v lines; number = first_line_number v; tests = 0 })

-- the result of the check of the lines of a report, in the version that its first line gives
unfoldable pub finding : List (List ℕ) → Finding
finding lines = finding_by (version_by report_mark lines) lines

-- the result is that all answers are accepted
abbrev pub is_accepting : Finding → Bool
is_accepting all_accepted = true
is_accepting (wrong_at k) = false

-- the lines of a report are accepted
abbrev pub is_accepted : List (List ℕ) → Bool
is_accepted lines = is_accepting (finding lines)

-- ---- the first wrong line

-- a byte of a line: any byte except the line feed
abbrev pub is_line_byte : ℕ → Bool
is_line_byte b = nat_lt b 256 && not (b == line_end)

-- lists of bytes of lines
abbrev pub AreLines : List (List ℕ) → Type 0
AreLines lines = AllByRecursion (λ line. IsTrue (list_all is_line_byte line)) lines

-- some accepted report begins with the lines
abbrev pub CanGoOn : List (List ℕ) → Type 0
CanGoOn lines = (more : List (List ℕ)) × AreLines more × IsTrue (is_accepted (lines ++ more))

-- the number, from 1, of the first line at which no accepted report begins with the lines so far; one more than the number of lines if there is none
pub record IsFirstWrong (lines : List (List ℕ)) (k : ℕ) : Type 0 where
  pub refused : is_accepted lines ≡ false
  pub before : (j : ℕ) → j < k → CanGoOn (take j lines)
  pub at_line : k ≤ length lines → ¬ CanGoOn (take k lines)
  pub in_range : (1 ≤ k) × (k ≤ suc (length lines))
