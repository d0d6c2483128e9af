-- The version of a script, what stands behind its mark, and what is put of a mark.
use Rattle.std.proofs.Common.{◌≡◌, ℕ, Bool, true, false, List, [], ◌∷◌, ◌++◌, drop, refl, sym, ap, ◌∙◌}
use Rattle.std.specs.List.{list_any}
use Rattle.std.proofs.lemmas.List.{append-nil}
use Rattle.rp_language.specs.Grammar.{Version, one, two}
use Rattle.rp_language.specs.Name.{label_eq}
use Rattle.rp_reports.specs.Output.{is_refused_line}
use Rattle.rp_reports.specs.Report.{script_lines, script_mark, report_mark, version_by, body_of, marked, script_version, script_body}
use Rattle.rp_reports.specs.Text.{text_of_lines, line_end}
use Rattle.rp_scripts.specs.Lines.{mark_text}

-- ---- the version and the body

-- the version by whether the first line is the mark
abbrev version_where : Bool → Version
version_where true = two
version_where false = one

-- the version of a script with a first line
pub version_first : (script line : List ℕ) (lines : List (List ℕ)) (is : Bool) → script_lines script ≡ line ∷ lines → label_eq line script_mark ≡ is → script_version script ≡ version_where is
unfolding script_version
version_first script line lines is e marks = ap (version_by script_mark) e ∙ by (label_eq line script_mark) ∙ ap version_where marks
  where
    by : (b : Bool) → elim b as (λ _. Version) [ true ↦ two | false ↦ one ] ≡ version_where b
    by true = refl
    by false = refl

-- the version of a script without lines
pub version_none : (script : List ℕ) → script_lines script ≡ [] → one ≡ script_version script
unfolding script_version
version_none script e = sym (ap (version_by script_mark) e)

-- the body of a script of the first version: all lines
pub body_one : (script : List ℕ) → one ≡ script_version script → script_lines script ≡ script_body script
unfolding script_body
body_one script e = ap (λ (v : Version). body_of v (script_lines script)) e

-- the body of a script of the second version: all lines but the first
pub body_two : (script line : List ℕ) (lines : List (List ℕ)) → script_lines script ≡ line ∷ lines → two ≡ script_version script → lines ≡ script_body script
unfolding script_body
body_two script line lines e is = ap (drop 1) (sym e) ∙ ap (λ (v : Version). body_of v (script_lines script)) is

-- ---- the mark

-- lines behind the mark
pub marked-append : (mark : List ℕ) (v : Version) (lines : List (List ℕ)) → marked mark v [] ++ lines ≡ marked mark v lines
marked-append mark one lines = refl
marked-append mark two lines = refl

-- the mark of a report is no refusal
pub mark_not_refused : (v : Version) → false ≡ list_any is_refused_line (marked report_mark v [])
mark_not_refused one = refl
mark_not_refused two = refl

-- its text is that of one line
pub mark_text-lines : (mark text : List ℕ) (v : Version) → text ≡ mark ++ line_end ∷ [] → mark_text text v ≡ text_of_lines (marked mark v [])
mark_text-lines mark text one e = refl
mark_text-lines mark text two e = e ∙ sym (append-nil (mark ++ line_end ∷ []))
