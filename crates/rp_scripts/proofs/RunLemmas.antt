-- The report on the way: what was told, and that the report of what is left makes it the report of all.
use Rattle.std.proofs.Common.{◌≡◌, ℕ, ◌+◌, Bool, true, false, ◌||◌, IsTrue, ◌↔◌, List, [], ◌∷◌, ◌++◌, Option, Result, Ok, Err, IfOk, OnOk, refl, sym, ap, ◌∙◌, subst, append_assoc, add-one}
use Rattle.std.specs.List.{list_any}
use Rattle.std.proofs.lemmas.List.{append-nil}
use Rattle.std.proofs.lemmas.List.Concat.{flat_map-append}
use Rattle.rp_io.specs.Bytes.{Appends, AppendsPrefix}
use Rattle.rp_language.specs.Grammar.{Version}
use Rattle.rp_model.specs.states.State.{opening}
use Rattle.rp_reports.specs.Text.{Answer, answer_lines, text_of_lines, line_end}
use Rattle.rp_reports.specs.Report.{script_lines, report_mark, marked, script_version, script_body}
use Rattle.rp_reports.specs.Machine.{Running, after_line, step_answer, step_state, lines_from, report}
use Rattle.rp_reports.specs.Output.{IsOutput, IsRefused, is_refused_line}
use Rattle.rp_states.proofs.Computed.{report_is_computed_spec}
use Rattle.rp_correctness.proofs.Rows.{first_rows, meets_rule}
use Rattle.rp_scripts.specs.Lines.{mark_text}
use Rattle.rp_scripts.specs.Output.{PutsAnswer, PutsFront, PutsOutput, report_task}
use Rattle.rp_scripts.proofs.MarkLemmas.{marked-append, mark_not_refused, mark_text-lines}
use Rattle.rp_scripts.proofs.RefusalLemmas.{list_any-append}
use Rattle.rp_scripts.proofs.SinkLemmas.{Appends-append, Appends-nothing, AppendsPrefix-lines, AppendsPrefix-nothing}

-- what a report, full or brief, told of the script before the rest, whose first line has the number and meets the machine
pub record HasTold (brief : Bool) (script : List ℕ) (old now : Option (List ℕ)) (machine : Running) (number : ℕ) (rest : List ℕ) (refused : Bool) : Type 0 where
  pub told : List (List ℕ)
  pub text : Appends old now (text_of_lines told)
  pub mark : refused ≡ list_any is_refused_line told
  pub goes_on : told ++ lines_from machine.version brief machine.state number (script_lines rest) ≡ report brief script

-- a report is that of the body behind the mark
report_marked : (brief : Bool) (script body : List ℕ) (v : Version) → v ≡ script_version script → script_lines body ≡ script_body script → marked report_mark v [] ++ lines_from v brief opening 1 (script_lines body) ≡ report brief script
unfolding report
report_marked brief script body v version lines =
    marked-append report_mark v (lines_from v brief opening 1 (script_lines body)) ∙ ap (λ (ls : List (List ℕ)). marked report_mark v (lines_from v brief opening 1 ls)) lines
    ∙ ap (λ (u : Version). marked report_mark u (lines_from u brief opening 1 (script_body script))) version

-- at the start the mark was told
pub HasTold-start : (brief : Bool) (script body text : List ℕ) (old now : Option (List ℕ)) (machine : Running) (v : Version) → v ≡ script_version script → script_lines body ≡ script_body script
    → machine ≡ record { version = v; state = opening } → text ≡ report_mark ++ line_end ∷ [] → Appends old now (mark_text text v) → HasTold brief script old now machine 1 body false
HasTold-start brief script body text old now machine v version lines begun is put =
    record {
      told = marked report_mark v [];
      text = subst (Appends old now) (mark_text-lines report_mark text v is) put;
      mark = mark_not_refused v;
      goes_on = ap (λ (m : Running). marked report_mark v [] ++ lines_from m.version brief m.state 1 (script_lines body)) begun ∙ report_marked brief script body v version lines;
    }

-- the report of one line and then of others
report-cons : (brief : Bool) (machine next : Running) (number : ℕ) (rest line : List ℕ) (lines : List (List ℕ)) → script_lines rest ≡ line ∷ lines → next ≡ after_line machine number line
    → answer_lines brief (step_answer machine.version machine.state number line) ++ lines_from next.version brief next.state (number + 1) lines ≡ lines_from machine.version brief machine.state number (script_lines rest)
report-cons brief machine next number rest line lines e after =
    let told = answer_lines brief (step_answer machine.version machine.state number line) in
    ap (λ (m : Running). told ++ lines_from m.version brief m.state (number + 1) lines) after
    ∙ ap (λ (n : ℕ). told ++ lines_from machine.version brief (step_state machine.version machine.state number line) n lines) (add-one number)
    ∙ sym (ap (lines_from machine.version brief machine.state number) e)

-- one more line
pub HasTold-more : (brief : Bool) (script : List ℕ) (old now new : Option (List ℕ)) (machine next : Running) (number : ℕ) (rest line behind : List ℕ) (refused also : Bool)
    → HasTold brief script old now machine number rest refused → script_lines rest ≡ line ∷ script_lines behind → PutsAnswer brief machine number line now new also
    → next ≡ after_line machine number line → HasTold brief script old new next (number + 1) behind (refused || also)
HasTold-more brief script old now new machine next number rest line behind refused also h e a after =
    let lines = answer_lines brief (step_answer machine.version machine.state number line) in
    record {
      told = h.told ++ lines;
      text = subst (Appends old new) (sym (flat_map-append (λ l. l ++ line_end ∷ []) h.told lines)) (Appends-append old now new (text_of_lines h.told) (text_of_lines lines) h.text a.text);
      mark = ap (λ b. b || also) h.mark ∙ ap (λ b. list_any is_refused_line h.told || b) a.mark ∙ sym (list_any-append is_refused_line h.told lines);
      goes_on =
          append_assoc h.told lines (lines_from next.version brief next.state (number + 1) (script_lines behind))
          ∙ ap (λ (tail : List (List ℕ)). h.told ++ tail) (report-cons brief machine next number rest line (script_lines behind) e after) ∙ h.goes_on;
    }

-- what was put of an answer is that of the machine's answer to the line
pub PutsAnswer-told : {E : Type 0} (r : Result Bool E) (brief : Bool) (before : Running) (number : ℕ) (line : List ℕ) (old new : Option (List ℕ)) (a : Answer) → a ≡ step_answer before.version before.state number line
    → OnOk r (Appends old new (text_of_lines (answer_lines brief a))) → IfOk r (λ refused. refused ≡ list_any is_refused_line (answer_lines brief a)) → IfOk r (λ refused. PutsAnswer brief before number line old new refused)
PutsAnswer-told (Ok x) brief before number line old new a e put mark =
    record {
      text = subst (λ (b : Answer). Appends old new (text_of_lines (answer_lines brief b))) e put;
      mark = mark ∙ ap (λ (b : Answer). list_any is_refused_line (answer_lines brief b)) e;
    }
PutsAnswer-told (Err x) brief before number line old new a e put mark = tt

-- equal tests are true together
pub IsTrue-both : (a b : Bool) → a ≡ b → IsTrue a ↔ IsTrue b
IsTrue-both a b e = (λ h. subst IsTrue e h, λ h. subst IsTrue (sym e) h)

-- the report that is computed is the report of the machine of sets
output-computed : (brief : Bool) (script : List ℕ) (told : List (List ℕ)) → told ≡ report brief script → IsOutput (report_task brief) script told
output-computed true script told e = (report_is_computed_spec meets_rule first_rows script told).1.1 e
output-computed false script told e = (report_is_computed_spec meets_rule first_rows script told).0.1 e

-- a line of either report is a refusal where one of its lines says so
refused-lines : (brief refused : Bool) (script : List ℕ) (told : List (List ℕ)) → refused ≡ list_any is_refused_line told → IsTrue refused ↔ IsRefused (report_task brief) script told
refused-lines true refused script told e = IsTrue-both refused (list_any is_refused_line told) e
refused-lines false refused script told e = IsTrue-both refused (list_any is_refused_line told) e

-- at the end all was told
pub PutsOutput-run : (brief : Bool) (script : List ℕ) (old now : Option (List ℕ)) (machine : Running) (number : ℕ) (rest : List ℕ) (refused : Bool) → HasTold brief script old now machine number rest refused
    → script_lines rest ≡ [] → PutsOutput (report_task brief) script old now refused
PutsOutput-run brief script old now machine number rest refused h e =
    let all : h.told ≡ report brief script = sym (append-nil h.told) ∙ ap (λ (lines : List (List ℕ)). h.told ++ lines_from machine.version brief machine.state number lines) (sym e) ∙ h.goes_on in
    record {
      lines = h.told;
      output = output-computed brief script h.told all;
      text = h.text;
      mark = refused-lines brief refused script h.told h.mark;
    }

-- a front of the report that is computed is one of the output
PutsFront-computed : (brief : Bool) (script : List ℕ) (old now : Option (List ℕ)) → AppendsPrefix old now (text_of_lines (report brief script)) → PutsFront (report_task brief) script old now
PutsFront-computed brief script old now put = record { lines = report brief script; output = output-computed brief script (report brief script) refl; text = put }

-- where nothing was told, that is a front
pub PutsFront-nothing : (brief : Bool) (script : List ℕ) (said : Option (List ℕ)) → PutsFront (report_task brief) script said said
PutsFront-nothing brief script said = PutsFront-computed brief script said said (AppendsPrefix-nothing said (text_of_lines (report brief script)))

-- where the mark was not put whole, a front of the report was told
pub PutsFront-mark : (brief : Bool) (script body text : List ℕ) (old now : Option (List ℕ)) (v : Version) → v ≡ script_version script → script_lines body ≡ script_body script
    → text ≡ report_mark ++ line_end ∷ [] → AppendsPrefix old now (mark_text text v) → PutsFront (report_task brief) script old now
PutsFront-mark brief script body text old now v version lines is put =
    let mark = subst (AppendsPrefix old now) (mark_text-lines report_mark text v is) put in
    PutsFront-computed brief script old now
    (AppendsPrefix-lines old old now [] (marked report_mark v []) (lines_from v brief opening 1 (script_lines body)) (report brief script) (Appends-nothing old) mark
    (report_marked brief script body v version lines))

-- where the answer to a line was not told whole, a front of the report was told
pub PutsFront-run : (brief : Bool) (script : List ℕ) (old now new : Option (List ℕ)) (machine : Running) (number : ℕ) (rest line behind : List ℕ) (refused : Bool)
    → HasTold brief script old now machine number rest refused → script_lines rest ≡ line ∷ script_lines behind
    → AppendsPrefix now new (text_of_lines (answer_lines brief (step_answer machine.version machine.state number line))) → PutsFront (report_task brief) script old new
PutsFront-run brief script old now new machine number rest line behind refused h e put =
    let lines = answer_lines brief (step_answer machine.version machine.state number line) in
    let next = after_line machine number line in
    let more = lines_from next.version brief next.state (number + 1) (script_lines behind) in
    let all = ap (λ (tail : List (List ℕ)). h.told ++ tail) (report-cons brief machine next number rest line (script_lines behind) e refl) ∙ h.goes_on in
    PutsFront-computed brief script old new (AppendsPrefix-lines old now new h.told lines more (report brief script) h.text put all)
