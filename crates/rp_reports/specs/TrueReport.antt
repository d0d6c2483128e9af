-- When a report is true, whoever wrote it: by the sets that its echoed commands give.
use Rattle.std.specs.Prelude.{◌≡◌, ℕ, ◌<◌, ◌≤◌, Bool, true, false, IsTrue, ◌⊎◌, ◌↔◌, ℤ, List, [], ◌∷◌, ◌++◌, map, length, Option, Some, None}
use Rattle.std.specs.List.{flat_map}
use Rattle.rp_geometry.specs.Geometry.{RationalPoint, HalfSpace, IsPoint, is_cube_point}
use Rattle.rp_geometry.specs.sets.Shape.{Shape, Part, IsMember, shape_of_cells}
use Rattle.rp_geometry.specs.sets.Sets.{SameMembers}
use Rattle.rp_geometry.specs.sets.Pieces.{ArePieces}
use Rattle.rp_geometry.specs.searches.ProofLine.{ProofLine}
use Rattle.rp_geometry.specs.sections.Trace.{IsAtHeight}
use Rattle.rp_geometry.specs.sections.Slice.{Slice, IsInSlices}
use Rattle.rp_language.specs.Expression.{Command, ask_show, ask_pieces, ask_section, first_unknown_among}
use Rattle.rp_language.specs.Grammar.{Version, too_long, Reading, blank, command, bad, reading}
use Rattle.rp_model.specs.states.State.{State, sets_in, changed, opening}
use Rattle.rp_geometry.specs.parts.Parts.{IsCheckedPart, AreOf}
use Rattle.rp_model.specs.commands.Verdict.{Verdict, says_ok, refused, Refusal, limit, piece_lines, section_lines}
use Rattle.rp_model.specs.commands.Rules.{Rule, answers, labels_then}
use Rattle.rp_model.specs.commands.Sets.{set_of}
use Rattle.rp_model.specs.commands.Definition.{nothing_formed}
use Rattle.rp_model.specs.commands.Rule.{rule_without_limits, change_of}
use Rattle.rp_reports.specs.Report.{report_mark, version_by, marked}
use Rattle.rp_reports.specs.Text.{proof_text, verdict_text, echo_text}

-- an answer in a report: its number and text, its proof lines, and its verdict lines
pub record ToldAnswer : Type 0 where
  pub number : ℕ
  pub text : Option (List ℕ)
  pub proofs : List ProofLine
  pub verdicts : List Verdict

-- the echo line of an answer; an empty text has the line of no text
abbrev pub told_echo : ℕ → Option (List ℕ) → List ℕ
told_echo n None = echo_text n []
told_echo n (Some text) = echo_text n text

-- the report lines of an answer
abbrev pub told_lines : ToldAnswer → List (List ℕ)
told_lines a = told_echo a.number a.text ∷ map proof_text a.proofs ++ map verdict_text a.verdicts

-- the verdict lines of show for given cells
abbrev pub shown_cells : List (List HalfSpace) → List Verdict
shown_cells cells = Verdict.parts (length cells) ∷ map Verdict.part cells

-- the rule of show: cells that together have exactly the members of the set
abbrev pub shows_set : Shape → Rule
shows_set a given = (cells : List (List HalfSpace)) × SameMembers (shape_of_cells cells) a × answers (shown_cells cells) given

-- the rule of pieces: the pieces of a list of parts, each with a member, that has exactly the members of the set
abbrev pub tells_pieces : Shape → Rule
tells_pieces a given = (parts : List Part) × (gs : List (List ℕ)) × AreOf IsCheckedPart a parts × ArePieces parts gs × answers (piece_lines gs) given

-- the rule of section: slices that together show exactly the members of the set at the height
abbrev pub shows_section : ℤ → Shape → Rule
shows_section z a given =
    (slices : List Slice) × ((p : RationalPoint) → IsPoint p → IsAtHeight z p → IsTrue (is_cube_point p) → IsMember a p ↔ IsInSlices p slices) × answers (section_lines slices) given

-- the rule of a command by sets alone
abbrev pub true_rule : State → Command → Rule
true_rule s (ask_show e) = labels_then (first_unknown_among (sets_in s) (e ∷ [])) (shows_set (set_of s e))
true_rule s (ask_pieces e) = labels_then (first_unknown_among (sets_in s) (e ∷ [])) (tells_pieces (set_of s e))
true_rule s (ask_section e z) = labels_then (first_unknown_among (sets_in s) (e ∷ [])) (shows_section z (set_of s e))
true_rule s c = rule_without_limits s nothing_formed c

-- the rule, or a limit: whether a limit was met is not judged
abbrev pub limit_or_true : Rule → Rule
limit_or_true rule given = answers (refused limit ∷ []) given ⊎ rule given

-- the true verdict lines of a text with the given reading
abbrev pub true_by_reading : State → Reading → Rule
true_by_reading s blank given = ⊥
true_by_reading s (bad f) given = answers (refused (Refusal.bad f) ∷ []) given
true_by_reading s (command c) given = limit_or_true (true_rule s c) given

-- the verdict lines of an answer are true
abbrev pub IsTrueAnswer : Version → State → ToldAnswer → Type 0
IsTrueAnswer v s a = elim a.text [ None ↦ answers (refused (Refusal.bad too_long) ∷ []) a.verdicts | Some text ↦ true_by_reading s (reading v text) a.verdicts ]

-- the verdict lines accept the change
abbrev pub is_accepted_change : List Verdict → Bool
is_accepted_change (says_ok ∷ []) = true
is_accepted_change _ = false

-- the sets after an accepted line with the given reading
abbrev pub after_reading_told : ℕ → State → Reading → State
after_reading_told n s (command c) = changed n s (change_of s c)
after_reading_told n s _ = s

-- the sets after an answer: an accepted command changes them, and every other answer leaves them
abbrev pub after_told : Version → State → ToldAnswer → State
after_told v s a = elim (is_accepted_change a.verdicts) [ false ↦ s | true ↦ elim a.text [ None ↦ s | Some text ↦ after_reading_told a.number s (reading v text) ] ]

-- the number of a line is above the last one and at most 16777216
abbrev pub IsNextNumber : ℕ → ℕ → Type 0
IsNextNumber last n = (last < n) × (n ≤ 16777216)

-- all answers are true, from a state on, and their numbers rise from the last one
abbrev pub AreTrueAnswers : Version → ℕ → State → List ToldAnswer → Type 0
AreTrueAnswers v last s [] = Unit {0}
AreTrueAnswers v last s (a ∷ as_told) = IsNextNumber last a.number × IsTrueAnswer v s a × AreTrueAnswers v a.number (after_told v s a) as_told

-- the lines, after the mark of their version, are those of true answers, whose texts are read in the version
abbrev pub IsTrueReport : List (List ℕ) → Type 0
IsTrueReport lines =
    (told : List ToldAnswer) × (lines ≡ marked report_mark (version_by report_mark lines) (flat_map told_lines told)) × AreTrueAnswers (version_by report_mark lines) 0 opening told
