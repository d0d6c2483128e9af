-- The text of a report, split into lines again, has the lines of the report.
use Rattle.std.proofs.Common.{◌≡◌, ℕ, suc, ◌+◌, ◌≤◌, Bool, true, false, ◌==◌, ◌⊎◌, ⊎_elim, List, [], ◌∷◌, ◌++◌, map, length, cond, refl, sym, ap, ◌∙◌, subst, arith}
use Rattle.std.specs.Prelude.{IsTrue, codes}
use Rattle.std.specs.List.{AllByRecursion, slice_split, onto_first}
use Rattle.std.specs.Fmt.{decimal}
use Rattle.rp_algebra.proofs.Listed.{all_append, all_map}
use Rattle.rp_geometry.specs.Geometry.{IsKeptHalfSpace}
use Rattle.rp_geometry.specs.laws.PartLaws.{SlimPartIsPart}
use Rattle.rp_geometry.specs.laws.PrismLaws.{TrapezoidIsKept}
use Rattle.rp_reports.specs.laws.RunLaws.{ReportIsComputed}
use Rattle.rp_reports.specs.laws.CheckLaws.{WrittenReportIsAccepted}
use Rattle.rp_language.specs.Expression.{expressions_of}
use Rattle.rp_geometry.specs.searches.ProofLine.{ProofLine}
use Rattle.rp_model.specs.states.State.{PlainState, opening}
use Rattle.rp_model.specs.commands.Verdict.{Refusal, Verdict, refused, limit}
use Rattle.rp_model.specs.commands.Rule.{walked, proofs_of}
use Rattle.rp_language.specs.Grammar.{Version, one, two, Fault, too_long, bad_syntax, out_of_range, zero_half_space, too_many_nodes, Reading, blank, command, bad, reading}
use Rattle.rp_reports.specs.Text.{proof_text, verdict_text, echo_text, answer_lines, line_end, text_of_lines}
use Rattle.rp_reports.specs.Report.{script_lines, report_mark, body_of, marked, script_version, script_body, echoed}
use Rattle.rp_reports.specs.Machine.{verdicts_walked, answer_read, step_answer, step_state, lines_from, report}
use Rattle.rp_reports.specs.Output.{most_script_bytes, whole_lines, report_lines}
use Rattle.rp_reports.specs.Check.{is_line_byte, is_accepted}
use Rattle.rp_language.proofs.ReadBounds.{read_expressions_are_kept_spec}
use Rattle.rp_reports.proofs.Lines.{script_lines_no_end, split_line, append_end}
use Rattle.rp_parametricity.proofs.Kept.{IsVerdictProper, IsTold, StateHas, CommandHas}
use Rattle.rp_checker_completeness.proofs.Commands.{expressions_kept}
use Rattle.rp_checker_completeness.proofs.CommandTaken.{command_taken}
use Rattle.rp_checker_completeness.proofs.ReadNames.{Named, read_names}
use Rattle.rp_checker_completeness.proofs.LineTexts.{IsText, known_text, decimal_text, proof_is_text, verdict_is_text}
use Rattle.rp_checker_completeness.proofs.ReportTaken.{line_said, report_accepted, script_few}

-- ---- lines without a line end

-- the byte that ends a line
abbrev is_end : ℕ → Bool
is_end b = b == line_end

-- no byte ends the line
abbrev pub HasNoEnd : List ℕ → Type 0
HasNoEnd line = AllByRecursion (λ b. is_end b ≡ false) line

-- a byte of a line is no line end
byte_no_end : (b : ℕ) → is_line_byte b ≡ true → is_end b ≡ false
byte_no_end b e = grind arith

-- a text has no line end
text_no_end : (bytes : List ℕ) → IsText bytes → HasNoEnd bytes
text_no_end bytes h = all_map (λ b. is_line_byte b ≡ true) (λ b. is_end b ≡ false) byte_no_end bytes h

-- ---- a text of lines is split into its lines

-- the lines behind it
whole_next : (line : List ℕ) (rest : List ℕ) → whole_lines (line ∷ slice_split is_end rest) ≡ line ∷ whole_lines (slice_split is_end rest)
whole_next line [] = refl
whole_next line (b ∷ rest) = here (is_end b) (slice_split is_end rest)
  where
    onto : (pieces : List (List ℕ)) → whole_lines (line ∷ onto_first b pieces) ≡ line ∷ whole_lines (onto_first b pieces)
    onto [] = refl
    onto (p ∷ pieces) = refl

    here : (t : Bool) (pieces : List (List ℕ)) → whole_lines (line ∷ cond t ([] ∷ pieces) (onto_first b pieces)) ≡ line ∷ whole_lines (cond t ([] ∷ pieces) (onto_first b pieces))
    here true pieces = refl
    here false pieces = onto pieces

-- the text of lines is split into them
split_again : (lines : List (List ℕ)) → AllByRecursion HasNoEnd lines → whole_lines (slice_split is_end (text_of_lines lines)) ≡ lines
split_again [] h = refl
split_again (line ∷ lines) h =
    ap (λ bytes. whole_lines (slice_split is_end bytes)) (append_end line (text_of_lines lines))
    ∙ ap whole_lines (split_line line (text_of_lines lines) h.0)
    ∙ whole_next line (text_of_lines lines)
    ∙ ap (λ ls. line ∷ ls) (split_again lines h.1)

-- the lines are read again from their text
pub lines_again : (lines : List (List ℕ)) → AllByRecursion HasNoEnd lines → report_lines (text_of_lines lines) ≡ lines
unfolding report_lines
lines_again lines h = split_again lines h

-- ---- the lines of a report

-- two texts one behind the other
known_no_end : (front rest : List ℕ) → HasNoEnd front → HasNoEnd rest → HasNoEnd (front ++ rest)
known_no_end front rest h k = all_append _ front rest h k

-- an echo
echo_no_end : (n : ℕ) (line : List ℕ) → HasNoEnd line → HasNoEnd (echo_text n line)
echo_no_end n [] h = known_no_end (codes "> ") (decimal n) (refl, (refl, tt)) (text_no_end (decimal n) (decimal_text n))
echo_no_end n (b ∷ line) h = known_no_end ((codes "> " ++ decimal n) ++ codes " ") (b ∷ line) (known_no_end (codes "> " ++ decimal n) (codes " ") (known_no_end (codes "> ") (decimal n) (refl, (refl, tt)) (text_no_end (decimal n) (decimal_text n))) (refl, tt)) h

-- proof lines
proofs_no_end : (proofs : List ProofLine) → AllByRecursion HasNoEnd (map proof_text proofs)
proofs_no_end [] = tt
proofs_no_end (l ∷ proofs) = (text_no_end (proof_text l) (proof_is_text l), proofs_no_end proofs)

-- verdict lines
verdicts_no_end : (vs : List Verdict) → AllByRecursion (IsVerdictProper Named) vs → AllByRecursion HasNoEnd (map verdict_text vs)
verdicts_no_end [] h = tt
verdicts_no_end (v ∷ vs) h = (text_no_end (verdict_text v) (verdict_is_text v h.0), verdicts_no_end vs h.1)

-- the line that tells of a limit
limit_no_end : HasNoEnd (verdict_text (refused limit))
limit_no_end = text_no_end (verdict_text (refused limit)) (known_text (codes "= refused limit") [] refl tt)

-- the verdict lines of an answer
told_no_end : (vs : List Verdict) → IsTold Named vs ⊎ (vs ≡ refused limit ∷ []) → AllByRecursion HasNoEnd (map verdict_text vs)
told_no_end vs h = ⊎_elim (λ t. of_told vs t) (λ e. subst (λ v. AllByRecursion HasNoEnd (map verdict_text v)) (sym e) (limit_no_end, tt)) h
  where
    of_told : (vs : List Verdict) → IsTold Named vs → AllByRecursion HasNoEnd (map verdict_text vs)
    of_told [] t = absurd t
    of_told (v ∷ vs) t = verdicts_no_end (v ∷ vs) t

-- the text that is echoed
echoed_no_end : (f : Fault) (line : List ℕ) → HasNoEnd line → HasNoEnd (echoed f line)
echoed_no_end too_long line h = tt
echoed_no_end bad_syntax line h = h
echoed_no_end out_of_range line h = h
echoed_no_end zero_half_space line h = h
echoed_no_end too_many_nodes line h = h

-- an answer
answer_no_end : (n : ℕ) (echo : List ℕ) (proofs : List ProofLine) (vs : List Verdict) → HasNoEnd echo → AllByRecursion HasNoEnd (map verdict_text vs) → AllByRecursion HasNoEnd (answer_lines false (record { number = n; echo = echo; proofs = proofs; verdicts = vs }))
answer_no_end n echo proofs [] h k = tt
answer_no_end n echo proofs (v ∷ vs) h k = (echo_no_end n echo h, all_append HasNoEnd (map proof_text proofs) (map verdict_text (v ∷ vs)) (proofs_no_end proofs) k)

module _ (law : SlimPartIsPart) (slant : TrapezoidIsKept) where
  -- the answer to a line
  step_no_end : (v : Version) (s : PlainState) (n : ℕ) → StateHas IsKeptHalfSpace Named s → (line : List ℕ) → HasNoEnd line → AllByRecursion HasNoEnd (answer_lines false (step_answer v s n line))
  unfolding step_answer
  step_no_end v s n h line e = by_reading (reading v line) refl
    where
      by_reading : (r : Reading) → reading v line ≡ r → AllByRecursion HasNoEnd (answer_lines false (answer_read s n line (reading v line)))
      by_reading blank is = subst (λ r. AllByRecursion HasNoEnd (answer_lines false (answer_read s n line r))) (sym is) tt
      by_reading (bad f) is = subst (λ r. AllByRecursion HasNoEnd (answer_lines false (answer_read s n line r))) (sym is) (answer_no_end n (echoed f line) [] (refused (Refusal.bad f) ∷ []) (echoed_no_end f line e) (verdicts_no_end (refused (Refusal.bad f) ∷ []) (tt, tt)))
      by_reading (command c) is =
          let k : CommandHas IsKeptHalfSpace Named c = record { shapes = expressions_kept slant Named (expressions_of c) (read_expressions_are_kept_spec v line c is) (read_names v line c is).shapes; labels = (read_names v line c is).labels } in
          subst (λ r. AllByRecursion HasNoEnd (answer_lines false (answer_read s n line r))) (sym is)
          (answer_no_end n line (proofs_of s c) (verdicts_walked (walked s c)) e (told_no_end (verdicts_walked (walked s c)) (command_taken law Named n s c h k [] 0).some))

  -- the answers to all lines
  from_no_end : (v : Version) (lines : List (List ℕ)) → AllByRecursion HasNoEnd lines → (s : PlainState) (n : ℕ) → StateHas IsKeptHalfSpace Named s → 1 ≤ n → n + length lines ≤ 16777217 → AllByRecursion HasNoEnd (lines_from v false s n lines)
  from_no_end v [] e s n h some few = tt
  from_no_end v (line ∷ lines) e s n h some few =
      all_append HasNoEnd (answer_lines false (step_answer v s n line)) (lines_from v false (step_state v s n line) (suc n) lines) (step_no_end v s n h line e.0)
      (from_no_end v lines e.1 (step_state v s n line) (suc n) (line_said v Named s n some (omega (arith, few)) law h slant read_expressions_are_kept_spec (read_names v) line).state (omega arith) (omega (arith, few)))

  -- nor has the body of a script
  body_no_end : (v : Version) (lines : List (List ℕ)) → AllByRecursion HasNoEnd lines → AllByRecursion HasNoEnd (body_of v lines)
  body_no_end one lines e = e
  body_no_end two [] e = tt
  body_no_end two (line ∷ lines) e = e.1

  -- nor have lines behind a mark
  marked_no_end : (v : Version) (lines : List (List ℕ)) → AllByRecursion HasNoEnd lines → AllByRecursion HasNoEnd (marked report_mark v lines)
  marked_no_end one lines e = e
  marked_no_end two lines e = (text_no_end report_mark (known_text report_mark [] refl tt), e)

  -- the lines of a report have no line end
  pub report_no_end : (bytes : List ℕ) → length bytes ≤ most_script_bytes → AllByRecursion HasNoEnd (report false bytes)
  unfolding report script_body
  report_no_end bytes few =
      let v = script_version bytes in
      marked_no_end v (lines_from v false opening 1 (script_body bytes))
      (from_no_end v (script_body bytes) (body_no_end v (script_lines bytes) (script_lines_no_end bytes)) opening 1 (record { layer = refl; names = tt; lots = tt }) (omega arith) (script_few bytes few))

-- the text of a report is accepted, from the part that slimming makes, from the trapezoids of prisms, and from the report that is computed
pub written_report_is_accepted_from : SlimPartIsPart → TrapezoidIsKept → ReportIsComputed → WrittenReportIsAccepted
written_report_is_accepted_from slim slant computed bytes few told is =
    let same = (computed bytes told).0.0 is in
    subst (λ lines. IsTrue (is_accepted (report_lines (text_of_lines lines)))) (sym same)
    (subst (λ lines. IsTrue (is_accepted lines)) (sym (lines_again (report false bytes) (report_no_end slim slant bytes few))) (report_accepted slim slant read_expressions_are_kept_spec Named read_names refl bytes few))
