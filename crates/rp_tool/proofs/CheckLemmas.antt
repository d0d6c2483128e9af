-- What is put for a report that is checked, and what that says of the report.
use Rattle.std.proofs.Common.{◌≡◌, ◌⊎◌, ℕ, ◌≤◌, Bool, true, false, List, [], ◌∷◌, ◌++◌, length, Option, refl, sym, ap, subst, inl, inr}
use Rattle.std.proofs.lemmas.List.{append-nil}
use Rattle.rp_io.specs.Bytes.{Appends, AppendsPrefix}
use Rattle.rp_reports.specs.Check.{finding, is_accepting, is_accepted}
use Rattle.rp_reports.specs.Output.{check_report, most_script_bytes, report_lines}
use Rattle.rp_reports.specs.Report.{IsReport}
use Rattle.rp_reports.specs.Text.{text_of_lines, line_end}
use Rattle.rp_checker.specs.Found.{found_of, TellsRight}
use Rattle.rp_checker.specs.declared.report.Found.{Found}
use Rattle.rp_checker.specs.declared.report.Found.TheVariants.{Accepted, Wrong}
use Rattle.rp_scripts.specs.Output.{PutsFront, PutsOutput}
use Rattle.rp_tool.specs.Check.{found_line, is_wrong, IsWrittenReport, JudgesReport}
use Rattle.rp_scripts.proofs.SinkLemmas.{Appends-nothing, AppendsPrefix-line}

-- the text of one line
one_line : (old now : Option (List ℕ)) (line : List ℕ) → Appends old now (line ++ line_end ∷ []) → Appends old now (text_of_lines (line ∷ []))
one_line old now line put = subst (Appends old now) (sym (append-nil (line ++ line_end ∷ []))) put

-- the line of what was found is the output
pub PutsOutput-found : (found : Found) (report : List ℕ) (old now : Option (List ℕ)) (refused : Bool) → found_of found ≡ finding (report_lines report) → TellsRight found (report_lines report)
    → Appends old now (found_line found ++ line_end ∷ []) → refused ≡ is_wrong found → PutsOutput check_report report old now refused
PutsOutput-found Accepted report old now refused e right put mark =
    let yes : is_accepted (report_lines report) ≡ true = sym (ap is_accepting e) in
    record {
      lines = found_line Accepted ∷ [];
      output = inl (yes, refl);
      text = one_line old now (found_line Accepted) put;
      mark = ((λ (h : refused ≡ true). absurd (cc)), λ (r : is_accepted (report_lines report) ≡ false). absurd (cc));
    }
PutsOutput-found (Wrong n) report old now refused e right put mark =
    record {
      lines = found_line (Wrong n) ∷ [];
      output = inr (n, right, refl);
      text = one_line old now (found_line (Wrong n)) put;
      mark = ((λ h. right.refused), λ r. mark);
    }

-- what was found judges the report
pub JudgesReport-found : (found : Found) (report : List ℕ) (refused : Bool) → TellsRight found (report_lines report)
    → ((script : List ℕ) → length script ≤ most_script_bytes → (told : List (List ℕ)) → IsReport script told → report ≡ text_of_lines told → found ≡ Accepted) → refused ≡ is_wrong found → JudgesReport report refused
JudgesReport-found Accepted report refused right whole mark = record { is_true = λ e. right; accepts = λ w. mark }
JudgesReport-found (Wrong n) report refused right whole mark =
    record {
      is_true = λ (e : refused ≡ false). absurd (cc);
      accepts = λ (w : IsWrittenReport report). let same : Wrong n ≡ Accepted = whole w.script w.short w.told w.report w.text in absurd (cc);
    }

-- a front of the line of what was found is one of the output
PutsFront-found : (found : Found) (report : List ℕ) (old now : Option (List ℕ)) → found_of found ≡ finding (report_lines report) → TellsRight found (report_lines report)
    → AppendsPrefix old now (found_line found ++ line_end ∷ []) → PutsFront check_report report old now
PutsFront-found Accepted report old now e right put =
    let yes : is_accepted (report_lines report) ≡ true = sym (ap is_accepting e) in
    record { lines = found_line Accepted ∷ []; output = inl (yes, refl); text = AppendsPrefix-line old now (found_line Accepted) put }
PutsFront-found (Wrong n) report old now e right put =
    record { lines = found_line (Wrong n) ∷ []; output = inr (n, right, refl); text = AppendsPrefix-line old now (found_line (Wrong n)) put }

-- nothing was put, or such a front
pub front_found : (found : Found) (report : List ℕ) (old now : Option (List ℕ)) → found_of found ≡ finding (report_lines report) → TellsRight found (report_lines report)
    → AppendsPrefix old now (found_line found ++ line_end ∷ []) → Appends old now [] ⊎ PutsFront check_report report old now
front_found found report old now e right put = inr (PutsFront-found found report old now e right put)

-- nothing was put where nothing was found
pub nothing_found : (report : List ℕ) (said : Option (List ℕ)) → Appends said said [] ⊎ PutsFront check_report report said said
nothing_found report said = inl (Appends-nothing said)
