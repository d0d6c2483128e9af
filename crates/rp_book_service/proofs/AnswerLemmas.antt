-- A machine on its way through the lines of a text, and what was put behind a script.
use Rattle.std.proofs.Common.{◌≡◌, ℕ, ◌+◌, Bool, true, false, ◌||◌, List, [], ◌∷◌, ◌++◌, Option, None, Some, Result, Ok, Err, IfOk, IfSome, refl, sym, ap, ◌∙◌, subst, append_assoc, add-one}
use Rattle.std.specs.List.{list_any}
use Rattle.std.proofs.lemmas.List.{append-nil}
use Rattle.std.proofs.lemmas.List.Concat.{flat_map-append}
use Rattle.rp_io.specs.Bytes.{Appends}
use Rattle.rp_language.specs.Grammar.{Version}
use Rattle.rp_language.specs.Name.{Label}
use Rattle.rp_model.specs.states.State.{PlainState, opening}
use Rattle.rp_reports.specs.Text.{answer_lines, text_of_lines, line_end}
use Rattle.rp_reports.specs.Report.{IsReport, script_lines, script_version, script_body}
use Rattle.rp_reports.specs.Machine.{Running, after_line, step_answer, step_state, lines_from, report}
use Rattle.rp_reports.specs.Output.{is_refused_line, run_script}
use Rattle.rp_scripts.specs.Output.{PutsOutput}
use Rattle.rp_scripts.proofs.RefusalLemmas.{list_any-append}
use Rattle.rp_scripts.proofs.RunLemmas.{IsTrue-both}
use Rattle.rp_scripts.proofs.SinkLemmas.{Appends-append, Appends-nothing}
use Rattle.rp_book.specs.Lines.{HasEnd}
use Rattle.rp_book_service.specs.Added.{PutsBehind}
use Rattle.rp_book.specs.Act.{Told, AreInOrder, HasActs}
use Rattle.rp_book.proofs.OrderLemmas.{HasActs-in_order}
use Rattle.rp_book_service.specs.Acts.{PutsAsOf, PutsHistory, as_of_line, history_line, last_by}
use Rattle.rp_book_service.specs.Children.{children_text}
use Rattle.rp_book_service.specs.Events.{events_text}
use Rattle.rp_book_service.specs.Layers.{lines_in}
use Rattle.rp_book_service.specs.Answered.{Answers, AnswersBehind, lines_by}
use Rattle.rp_book_service.proofs.ScriptLemmas.{IsReport-computed, IsReport-nothing, report-behind, report-refused}

-- a machine answered the lines before the rest, whose first line has the number and meets the machine as it is now
pub record HasAnswered (brief : Bool) (machine now : Running) (number next : ℕ) (lines rest : List (List ℕ)) (old said : Option (List ℕ)) (mark : Bool) : Type 0 where
  pub front : List (List ℕ)
  pub split : lines ≡ front ++ rest
  pub goes_on : (b : Bool) (more : List (List ℕ)) → lines_by machine b number front ++ lines_by now b next more ≡ lines_by machine b number (front ++ more)
  pub put : Appends old said (text_of_lines (lines_by machine brief number front))
  pub marks : mark ≡ list_any is_refused_line (lines_by machine false number front)
  pub version : now.version ≡ machine.version

-- at the start nothing was answered
unfoldable pub HasAnswered-start : (brief : Bool) (machine : Running) (number : ℕ) (lines : List (List ℕ)) (said : Option (List ℕ)) → HasAnswered brief machine machine number number lines lines said said false
HasAnswered-start brief machine number lines said = record { front = []; split = refl; goes_on = λ b more. refl; put = Appends-nothing said; marks = refl; version = refl }

-- the report lines of one line and then of others
pub lines_by-cons : (b : Bool) (now after : Running) (next : ℕ) (line : List ℕ) (lines : List (List ℕ)) → after ≡ after_line now next line
    → answer_lines b (step_answer now.version now.state next line) ++ lines_by after b (next + 1) lines ≡ lines_by now b next (line ∷ lines)
lines_by-cons b now after next line lines e =
    let told = answer_lines b (step_answer now.version now.state next line) in
    ap (λ (m : Running). told ++ lines_by m b (next + 1) lines) e
    ∙ ap (λ (n : ℕ). told ++ lines_from now.version b (step_state now.version now.state next line) n lines) (add-one next)

-- one more line
unfoldable pub HasAnswered-more : (brief : Bool) (machine now after : Running) (number next : ℕ) (lines rest : List (List ℕ)) (line : List ℕ) (behind : List (List ℕ)) (old said new : Option (List ℕ)) (mark also : Bool)
    → HasAnswered brief machine now number next lines rest old said mark → rest ≡ line ∷ behind
    → Appends said new (text_of_lines (answer_lines brief (step_answer now.version now.state next line)))
    → also ≡ list_any is_refused_line (answer_lines false (step_answer now.version now.state next line)) → after ≡ after_line now next line
    → HasAnswered brief machine after number (next + 1) lines behind old new (mark || also)
HasAnswered-more brief machine now after number next lines rest line behind old said new mark also h split put marks e =
    let told = λ (b : Bool). answer_lines b (step_answer now.version now.state next line) in
    let before = λ (b : Bool). lines_by machine b number h.front in
    let both : (b : Bool) → before b ++ told b ≡ lines_by machine b number (h.front ++ line ∷ []) =
    λ b. ap (λ (ls : List (List ℕ)). before b ++ ls) (sym (append-nil (told b))) ∙ h.goes_on b (line ∷ []) in
    record {
      front = h.front ++ line ∷ [];
      split = h.split ∙ ap (λ (ls : List (List ℕ)). h.front ++ ls) split ∙ sym (append_assoc h.front (line ∷ []) behind);
      goes_on = λ b more.
          ap (λ (ls : List (List ℕ)). ls ++ lines_by after b (next + 1) more) (sym (both b))
          ∙ append_assoc (before b) (told b) (lines_by after b (next + 1) more)
          ∙ ap (λ (tail : List (List ℕ)). before b ++ tail) (lines_by-cons b now after next line more e) ∙ h.goes_on b (line ∷ more)
          ∙ ap (lines_by machine b number) (sym (append_assoc h.front (line ∷ []) more));
      put =
          subst (λ (ls : List (List ℕ)). Appends old new (text_of_lines ls)) (both brief)
          (subst (Appends old new) (sym (flat_map-append (λ l. l ++ line_end ∷ []) (before brief) (told brief)))
          (Appends-append old said new (text_of_lines (before brief)) (text_of_lines (told brief)) h.put put));
      marks =
          ap (λ b. b || also) h.marks ∙ ap (λ b. list_any is_refused_line (before false) || b) marks ∙ sym (list_any-append is_refused_line (before false) (told false))
          ∙ ap (list_any is_refused_line) (both false);
      version = ap (λ (m : Running). m.version) e ∙ h.version;
    }

-- at the end all was answered
pub Answers-end : (brief : Bool) (machine now : Running) (number next : ℕ) (text rest : List ℕ) (old said : Option (List ℕ)) (mark : Bool)
    → HasAnswered brief machine now number next (script_lines text) (script_lines rest) old said mark → script_lines rest ≡ [] → Answers brief machine number text now next old said mark
Answers-end brief machine now number next text rest old said mark h e =
    let all : h.front ≡ script_lines text = sym (h.split ∙ ap (λ (ls : List (List ℕ)). h.front ++ ls) e ∙ append-nil h.front) in
    record {
      put = subst (λ (ls : List (List ℕ)). Appends old said (text_of_lines (lines_by machine brief number ls))) all h.put;
      marks = h.marks ∙ ap (λ (ls : List (List ℕ)). list_any is_refused_line (lines_by machine false number ls)) all;
      version = h.version;
      goes_on = λ more. subst (λ (ls : List (List ℕ)). lines_by machine false number ls ++ lines_by now false next more ≡ lines_by machine false number (ls ++ more)) all (h.goes_on false more);
    }

-- the answers to a body, of whose text nothing is claimed
pub Answers-quiet : {E : Type 0} (r : Result (ℕ × Bool) E) (machine after : Running) (body : List ℕ) (before hidden : Option (List ℕ)) → IfOk r (λ done. Answers true machine 1 body after done.0 before hidden done.1)
    → IfOk r (λ done. Answers true machine 1 body after done.0 None None done.1)
Answers-quiet (Err e) machine after body before hidden h = tt
Answers-quiet (Ok done) machine after body before hidden h = record { put = tt; marks = h.marks; version = h.version; goes_on = h.goes_on }

-- a body is answered, and then lines behind it
pub AnswersBehind-both : (machine middle after : Running) (number next : ℕ) (body lines : List ℕ) (before hidden old new : Option (List ℕ)) (known also : Bool) → machine.state ≡ opening
    → Answers true machine 1 body middle number before hidden known → Answers false middle number lines after next old new also → AnswersBehind machine.version body lines old new (known || also)
AnswersBehind-both machine middle after number next body lines before hidden old new known also opened first second =
    let told = lines_by middle false number (script_lines lines) in
    record {
      told = told;
      whole =
          subst (λ (s : PlainState). lines_from machine.version false s 1 (script_lines body) ++ told ≡ lines_from machine.version false s 1 (script_lines body ++ script_lines lines)) opened
          (first.goes_on (script_lines lines));
      put = second.put;
      marks =
          ap (λ b. b || also) first.marks ∙ ap (λ b. list_any is_refused_line (lines_by machine false 1 (script_lines body)) || b) second.marks
          ∙ sym (list_any-append is_refused_line (lines_by machine false 1 (script_lines body)) told)
          ∙ ap (λ (s : PlainState). list_any is_refused_line (lines_from machine.version false s 1 (script_lines body) ++ told)) opened;
    }

-- what was put behind the body of a script was put behind the script
pub PutsBehind-answered : (script body lines : List ℕ) (v : Version) (old new : Option (List ℕ)) (mark : Bool) → HasEnd script → v ≡ script_version script → script_lines body ≡ script_body script
    → AnswersBehind v body lines old new mark → PutsBehind script lines old new mark
PutsBehind-answered script body lines v old new mark ends version body_is h =
    let whole : lines_from (script_version script) false opening 1 (script_body script) ++ h.told ≡ lines_from (script_version script) false opening 1 (script_body script ++ script_lines lines) =
    subst (λ (u : Version). lines_from u false opening 1 (script_body script) ++ h.told ≡ lines_from u false opening 1 (script_body script ++ script_lines lines)) version
    (subst (λ (ls : List (List ℕ)). lines_from v false opening 1 ls ++ h.told ≡ lines_from v false opening 1 (ls ++ script_lines lines)) body_is h.whole) in
    let marks : mark ≡ list_any is_refused_line (lines_from (script_version script) false opening 1 (script_body script) ++ h.told) =
    h.marks ∙ ap (λ (ls : List (List ℕ)). list_any is_refused_line (lines_from v false opening 1 ls ++ h.told)) body_is
    ∙ ap (λ (u : Version). list_any is_refused_line (lines_from u false opening 1 (script_body script) ++ h.told)) version in
    record {
      before = report false script;
      told = h.told;
      report_before = IsReport-computed script (report false script) refl;
      report = IsReport-computed (script ++ lines) (report false script ++ h.told) (report-behind script lines h.told ends whole);
      text = h.put;
      marks = IsTrue-both mark (list_any is_refused_line (report false script ++ h.told)) (marks ∙ sym (report-refused script h.told));
    }

-- behind an empty script stands the whole report
pub PutsBehind-nothing : (lines : List ℕ) (old new : Option (List ℕ)) (mark : Bool) → PutsOutput run_script lines old new mark → PutsBehind [] lines old new mark
PutsBehind-nothing lines old new mark h =
    record {
      before = [];
      told = h.lines;
      report_before = IsReport-nothing;
      report = h.output;
      text = h.text;
      marks = h.mark;
    }

-- the answer as of a date behind a script that a book tells
pub as_of_put : {E : Type 0} (r : Result Bool E) (told : Option (List ℕ)) (listed : Option (List Told)) (text line date : List ℕ) (layer : Option Label) (point : List (List ℕ)) (found : List Told) (old new : Option (List ℕ))
    → IfSome told (λ kept. text ≡ kept) → IfSome listed (λ acts. found ≡ acts) → line ≡ lines_in layer (as_of_line (last_by date found) point) → IfOk r (λ mark. PutsBehind text line old new mark)
    → IfOk r (λ mark. IfSome told (λ script. IfSome listed (λ acts. PutsAsOf script acts date layer point mark old new)))
as_of_put (Err e) told listed text line date layer point found old new same are is h = tt
as_of_put (Ok mark) None listed text line date layer point found old new same are is h = tt
as_of_put (Ok mark) (Some kept) None text line date layer point found old new same are is h = tt
as_of_put (Ok mark) (Some kept) (Some acts) text line date layer point found old new same are is h =
    let asked : line ≡ lines_in layer (as_of_line (last_by date acts) point) = is ∙ ap (λ a. lines_in layer (as_of_line (last_by date a) point)) are in
    subst (λ l. PutsBehind kept l old new mark) asked (subst (λ s. PutsBehind s line old new mark) same h)

-- what was kept of answers is their text
kept_text : (script lines said : List ℕ) (mark : Bool) (h : PutsBehind script lines (Some []) (Some said) mark) → said ≡ text_of_lines h.told
kept_text script lines said mark h =
    let none : h.text.0 ≡ [] = let e = h.text.1 in cc in
    h.text.2 ∙ ap (λ before. before ++ text_of_lines h.told) none

-- an answer that was kept, the acts of its lots, and what its lots became
pub history_put : (told : Option (List ℕ)) (listed : Option (List Told)) (text id said events became : List ℕ) (found : List Told) (old between later new : Option (List ℕ)) (mark : Bool) → IfSome told (λ kept. text ≡ kept)
    → IfSome told (λ kept. HasActs kept found) → IfSome listed (λ acts. found ≡ acts) → PutsBehind text (history_line id) (Some []) (Some said) mark → Appends old between said → Appends between later events → Appends later new became
    → (AreInOrder 0 found → events ≡ events_text found said) → became ≡ children_text (script_version text) (script_body text) said → IfSome told (λ script. IfSome listed (λ acts. PutsHistory script acts id mark old new))
history_put None listed text id said events became found old between later new mark same have are h first second third written is = tt
history_put (Some kept) None text id said events became found old between later new mark same have are h first second third written is = tt
history_put (Some kept) (Some acts) text id said events became found old between later new mark same have are h first second third written is =
    let whole = kept_text text (history_line id) said mark h in
    let all : became ≡ children_text (script_version kept) (script_body kept) (text_of_lines h.told) =
    is ∙ ap (λ s. children_text (script_version s) (script_body s) said) same ∙ ap (children_text (script_version kept) (script_body kept)) whole in
    let each : events ≡ events_text acts (text_of_lines h.told) = written (HasActs-in_order kept found have) ∙ ap (λ a. events_text a said) are ∙ ap (events_text acts) whole in
    record {
      between = between;
      answer =
          record {
            before = h.before;
            told = h.told;
            report_before = subst (λ s. IsReport s h.before) same h.report_before;
            report = subst (λ s. IsReport (s ++ history_line id) (h.before ++ h.told)) same h.report;
            text = subst (Appends old between) whole first;
            marks = h.marks;
          };
      others = subst (λ text. Appends between new (text ++ children_text (script_version kept) (script_body kept) (text_of_lines h.told))) each
          (subst (λ text. Appends between new (events ++ text)) all (Appends-append between later new events became second third));
    }
