-- The report of a script with lines behind it.
use Rattle.std.proofs.Common.{◌≡◌, ℕ, false, List, [], ◌++◌, refl, sym, ap, ◌∙◌}
use Rattle.std.specs.List.{list_any}
use Rattle.rp_language.specs.Grammar.{Version, one, two}
use Rattle.rp_model.specs.states.State.{opening}
use Rattle.rp_reports.specs.Report.{script_lines, report_mark, marked, script_version, script_body, IsReport}
use Rattle.rp_reports.specs.Machine.{lines_from, report}
use Rattle.rp_reports.specs.Output.{is_refused_line}
use Rattle.rp_states.proofs.Computed.{report_is_computed_spec}
use Rattle.rp_correctness.proofs.Rows.{first_rows, meets_rule}
use Rattle.rp_book.specs.Lines.{HasEnd}
use Rattle.rp_book.proofs.ScriptLemmas.{script_version-append, script_body-append}

marked-more : (v : Version) (lines more : List (List ℕ)) → marked report_mark v lines ++ more ≡ marked report_mark v (lines ++ more)
marked-more one lines more = refl
marked-more two lines more = refl

-- the mark is no refusal
pub refused-marked : (v : Version) (lines more : List (List ℕ)) → list_any is_refused_line (marked report_mark v lines ++ more) ≡ list_any is_refused_line (lines ++ more)
refused-marked one lines more = refl
refused-marked two lines more = refl

-- the report of a script is the one that is computed
pub IsReport-computed : (script : List ℕ) (told : List (List ℕ)) → told ≡ report false script → IsReport script told
IsReport-computed script told e = (report_is_computed_spec meets_rule first_rows script told).0.1 e

-- the report of a script is no other than the one that is computed
pub IsReport-is : (script : List ℕ) (told : List (List ℕ)) → IsReport script told → told ≡ report false script
IsReport-is script told h = (report_is_computed_spec meets_rule first_rows script told).0.0 h

-- an empty script has an empty report
pub IsReport-nothing : IsReport [] []
unfolding report script_version script_body script_lines
IsReport-nothing = IsReport-computed [] [] refl

-- what is computed of a script with lines behind it is the report of the script, and what is computed of the lines
pub report-behind : (script lines : List ℕ) (told : List (List ℕ)) → HasEnd script
    → lines_from (script_version script) false opening 1 (script_body script) ++ told ≡ lines_from (script_version script) false opening 1 (script_body script ++ script_lines lines)
    → report false script ++ told ≡ report false (script ++ lines)
unfolding report
report-behind script lines told h e =
    let v = script_version script in
    let body : script_body script ++ script_lines lines ≡ script_body (script ++ lines) = sym (script_body-append script lines h) in
    marked-more v (lines_from v false opening 1 (script_body script)) told ∙ ap (marked report_mark v) e
    ∙ ap (λ (ls : List (List ℕ)). marked report_mark v (lines_from v false opening 1 ls)) body
    ∙ ap (λ (u : Version). marked report_mark u (lines_from u false opening 1 (script_body (script ++ lines)))) (sym (script_version-append script lines h))

-- a line of it is a refusal where one of these is
pub report-refused : (script : List ℕ) (told : List (List ℕ))
    → list_any is_refused_line (report false script ++ told) ≡ list_any is_refused_line (lines_from (script_version script) false opening 1 (script_body script) ++ told)
unfolding report
report-refused script told = refused-marked (script_version script) (lines_from (script_version script) false opening 1 (script_body script)) told
