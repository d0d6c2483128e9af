-- Pieces of an input that come to a session one after the other.
use Rattle.std.proofs.Common.{◌≡◌, ◌↔◌, IsTrue, ℕ, suc, ◌-◌, ◌+◌, ◌<◌, ◌≤◌, ◌==◌, Bool, true, false, ◌||◌, List, [], ◌∷◌, ◌++◌, length, take, drop, Option, None, Some, IfSome, refl, sym, ap, ◌∙◌, subst, arith, append_assoc, length-append, eq-eqb}
use Rattle.std.specs.Prelude.{slice_index}
use Rattle.std.specs.List.{list_any}
use Rattle.std.proofs.Math.Bool.{or-false, or-true, or_assoc}
use Rattle.std.proofs.lemmas.Bool.{or_parts}
use Rattle.std.proofs.lemmas.List.{append-nil, length-take-le, take-append-le, take_all}
use Rattle.std.proofs.lemmas.List.Concat.{flat_map-append}
use Rattle.std.proofs.lemmas.List.Folds.{list_any-append}
use Rattle.rp_book.specs.Lines.{HasEnd, IsEnded}
use Rattle.rp_book.proofs.ScriptLemmas.{HasEnd-behind, script_lines-append, script_version-append}
use Rattle.rp_io.specs.Bytes.{Appends, IsAtEnd, Takes}
use Rattle.rp_io.specs.Intake.{IsPastLimit}
use Rattle.rp_io.proofs.IntakeLemmas.{IsPastLimit-from_read, ReadsOn, ReadsOn-appended}
use Rattle.rp_language.specs.Grammar.{Version, reading}
use Rattle.rp_model.specs.states.State.{opening}
use Rattle.rp_reports.specs.Machine.{Running, after_line, lines_from, report, step_answer}
use Rattle.rp_reports.specs.Output.{is_refused_line, most_script_bytes}
use Rattle.rp_reports.specs.Report.{IsReport, script_body, script_lines, script_version}
use Rattle.rp_reports.specs.Text.{answer_lines, line_end, text_of_lines}
use Rattle.rp_scripts.specs.Lines.{is_line_end}
use Rattle.rp_scripts.proofs.LineLemmas.{script_lines-nil}
use Rattle.rp_scripts.proofs.RunLemmas.{IsTrue-both}
use Rattle.rp_scripts.proofs.SinkLemmas.{Appends-append, Appends-nothing}
use Rattle.rp_book_service.specs.Added.{PutsBehind, changes, ended, has_change}
use Rattle.rp_book_service.specs.Answered.{Answers, lines_by}
use Rattle.rp_book_service.specs.Cause.{IsTooLong}
use Rattle.rp_book_service.specs.Session.{AnswersLines, HasChangeIn, HasNoEnd, IsBehind, IsCut, PutsBeforeChange, Replies, StopsAtChange, missing_end, with_front}
use Rattle.rp_book_service.specs.declared.session.Session.{Session}
use Rattle.rp_book_service.specs.declared.stop.Length.{Length}
use Rattle.rp_book_service.specs.declared.stop.Length.TheVariants.{Exactly, MoreThan}
use Rattle.rp_book_service.proofs.AnswerLemmas.{HasAnswered, HasAnswered-more, HasAnswered-start}
use Rattle.rp_book_service.proofs.ScriptLemmas.{IsReport-computed, IsReport-is, report-behind, report-refused}

-- ---- texts that end their lines

-- a text without a byte ends its lines
pub IsEnded-nil : IsEnded []
IsEnded-nil some = absurd (omega (arith, some))

-- two texts that end their lines do so together
pub IsEnded-append : (a b : List ℕ) → IsEnded a → IsEnded b → IsEnded (a ++ b)
IsEnded-append a [] h k = subst IsEnded (sym (append-nil a)) h
IsEnded-append a (x ∷ xs) h k = λ some. (HasEnd-behind a (x ∷ xs) (omega arith, k (omega arith))).1

-- the lines of a text that ends its lines, and of a text after it
pub script_lines-both : (a b : List ℕ) → IsEnded a → script_lines (a ++ b) ≡ script_lines a ++ script_lines b
script_lines-both [] b h = ap (λ (ls : List (List ℕ)). ls ++ script_lines b) (sym script_lines-nil)
script_lines-both (x ∷ xs) b h = (script_lines-append (x ∷ xs) b (omega arith, h (omega arith))).0

-- one of the lines of both texts changes which lots there are if one of either does
pub has_change-append : (v : Version) (a b : List ℕ) → IsEnded a → has_change v (a ++ b) ≡ (has_change v a || has_change v b)
has_change-append v a b h =
    ap (list_any (λ line. changes (reading v line))) (script_lines-both a b h) ∙ list_any-append (λ line. changes (reading v line)) (script_lines a) (script_lines b)

-- no line of an empty text changes which lots there are
pub has_change-nil : (v : Version) → has_change v [] ≡ false
has_change-nil v = ap (list_any (λ line. changes (reading v line))) script_lines-nil

-- a text with a line that changes which lots there are
pub has_change-found : (v : Version) (text : List ℕ) (front behind : List (List ℕ)) (line : List ℕ) → script_lines text ≡ front ++ line ∷ behind → changes (reading v line) ≡ true → has_change v text ≡ true
has_change-found v text front behind line split some =
    let test = λ (l : List ℕ). changes (reading v l) in
    ap (list_any test) split ∙ list_any-append test front (line ∷ behind) ∙ ap (λ b. list_any test front || (b || list_any test behind)) some ∙ or-true (list_any test front)

-- a change in the second of three texts
pub has_change-within : (v : Version) (a b c : List ℕ) → IsEnded a → IsEnded b → has_change v b ≡ true → has_change v (a ++ (b ++ c)) ≡ true
has_change-within v a b c h k some =
    has_change-append v a (b ++ c) h ∙ ap (λ x. has_change v a || x) (has_change-append v b c k ∙ ap (λ x. x || has_change v c) some) ∙ or-true (has_change v a)

-- ---- the line end that may be missing

abbrev with_end : Bool → List ℕ → List ℕ
with_end b text = elim b [ true ↦ text | false ↦ text ++ line_end ∷ [] ]

with_end-cons : (b : Bool) (x : ℕ) (text : List ℕ) → with_end b (x ∷ text) ≡ x ∷ with_end b text
with_end-cons true x text = refl
with_end-cons false x text = refl

-- the end of a text does not depend on a byte before it
ended-cons : (y : ℕ) (xs : List ℕ) → 0 < length xs → ended (y ∷ xs) ≡ y ∷ ended xs
ended-cons y [] h = absurd (omega (arith, h))
ended-cons y (x ∷ xs) h =
    let step : length (y ∷ x ∷ xs) - 1 ≡ suc (length (x ∷ xs) - 1) = omega arith in
    ap (λ n. with_end (slice_index (y ∷ x ∷ xs) n == line_end) (y ∷ x ∷ xs)) step
    ∙ with_end-cons (slice_index (x ∷ xs) (length (x ∷ xs) - 1) == line_end) y (x ∷ xs)

-- a text that ends its lines stays
ended-same : (text : List ℕ) → IsEnded text → ended text ≡ text
ended-same [] h = refl
ended-same (x ∷ xs) h = ap (λ b. with_end b (x ∷ xs)) (eq-eqb (slice_index (x ∷ xs) (length (x ∷ xs) - 1)) line_end (h (omega arith)))

ended-longer : (a : List ℕ) (x : ℕ) (xs : List ℕ) → ended (a ++ x ∷ xs) ≡ a ++ ended (x ∷ xs)
ended-longer [] x xs = refl
ended-longer (y ∷ ys) x xs = ended-cons y (ys ++ x ∷ xs) (omega (arith, length-append ys (x ∷ xs))) ∙ ap (λ ls. y ∷ ls) (ended-longer ys x xs)

-- after a text that ends its lines, only the text after it may lack a line end
pub ended-append : (a b : List ℕ) → IsEnded a → ended (a ++ b) ≡ a ++ ended b
ended-append a [] h = ap ended (append-nil a) ∙ ended-same a h ∙ sym (append-nil a)
ended-append a (x ∷ xs) h = ended-longer a x xs

-- an unfinished line lacks its line end
pub ended-unfinished : (text : List ℕ) → HasNoEnd text → ended text ≡ text ++ missing_end text
ended-unfinished [] h = refl
ended-unfinished (b ∷ []) h = ap (λ t. with_end t (b ∷ [])) (or_parts (is_line_end b) false h).0
ended-unfinished (b ∷ d ∷ bs) h = ended-cons b (d ∷ bs) (omega arith) ∙ ap (λ ls. b ∷ ls) (ended-unfinished (d ∷ bs) (or_parts (is_line_end b) (list_any is_line_end (d ∷ bs)) h).1)

-- it ends its lines with it
pub IsEnded-line : (text : List ℕ) → IsEnded (text ++ line_end ∷ [])
IsEnded-line text = λ some. (HasEnd-behind text (line_end ∷ []) (omega arith, refl)).1

pub length-ended : (text : List ℕ) → length text ≤ length (ended text)
length-ended [] = omega arith
length-ended (b ∷ bs) = go (slice_index (b ∷ bs) (length (b ∷ bs) - 1) == line_end)
  where
    go : (t : Bool) → length (b ∷ bs) ≤ length (with_end t (b ∷ bs))
    go true = omega arith
    go false = omega (arith, length-append (b ∷ bs) (line_end ∷ []))

-- ---- cuts

-- an unfinished line stands before the complete lines of a piece
pub IsCut-behind : (held piece lines rest : List ℕ) → 0 < length lines → IsCut piece lines rest → IsCut (held ++ piece) (held ++ lines) rest
IsCut-behind held piece lines rest some h =
    record {
      whole = ap (λ xs. held ++ xs) h.whole ∙ sym (append_assoc held lines rest);
      ended = λ more. (HasEnd-behind held lines (some, h.ended some)).1;
      unended = h.unended;
    }

-- a piece without a complete line makes the unfinished line longer
pub IsCut-none : (held piece lines rest : List ℕ) → HasNoEnd held → lines ≡ [] → IsCut piece lines rest → IsCut (held ++ piece) [] (held ++ piece)
IsCut-none held piece lines rest unended none h =
    let same : piece ≡ rest = h.whole ∙ ap (λ xs. xs ++ rest) none in
    let piece_unended : HasNoEnd piece = subst HasNoEnd (sym same) h.unended in
    record {
      whole = refl;
      ended = IsEnded-nil;
      unended = list_any-append is_line_end held piece ∙ ap (λ b. b || list_any is_line_end piece) unended ∙ piece_unended;
    }

-- an unfinished line is complete with the line end that it lacks
pub IsCut-line : (text : List ℕ) → 0 < length text → IsCut (text ++ missing_end text) (text ++ line_end ∷ []) []
IsCut-line [] some = absurd (omega (arith, some))
IsCut-line (b ∷ bs) some = record { whole = sym (append-nil ((b ∷ bs) ++ line_end ∷ [])); ended = IsEnded-line (b ∷ bs); unended = refl }

-- ---- answers one after the other

-- no line was answered
pub Answers-nothing : (m : Running) (n : ℕ) (said : Option (List ℕ)) → Answers false m n [] m n said said false
Answers-nothing m n said =
    record {
      put = subst (λ (ls : List (List ℕ)). Appends said said (text_of_lines (lines_by m false n ls))) (sym script_lines-nil) (Appends-nothing said);
      marks = ap (λ (ls : List (List ℕ)). list_any is_refused_line (lines_by m false n ls)) (sym script_lines-nil);
      version = refl;
      goes_on = λ more.
          ap (λ (ls : List (List ℕ)). lines_by m false n ls ++ lines_by m false n more) script_lines-nil
          ∙ ap (λ (ls : List (List ℕ)). lines_by m false n (ls ++ more)) (sym script_lines-nil);
    }

-- a text was answered, and then another
pub Answers-append : (m0 m1 m2 : Running) (n0 n1 n2 : ℕ) (a b : List ℕ) (old middle new : Option (List ℕ)) (k l : Bool) → IsEnded a
    → Answers false m0 n0 a m1 n1 old middle k → Answers false m1 n1 b m2 n2 middle new l → Answers false m0 n0 (a ++ b) m2 n2 old new (k || l)
Answers-append m0 m1 m2 n0 n1 n2 a b old middle new k l ends f s =
    let split = script_lines-both a b ends in
    let first = lines_by m0 false n0 (script_lines a) in
    let second = lines_by m1 false n1 (script_lines b) in
    let whole : first ++ second ≡ lines_by m0 false n0 (script_lines (a ++ b)) = f.goes_on (script_lines b) ∙ ap (lines_by m0 false n0) (sym split) in
    record {
      put =
          subst (λ (ls : List (List ℕ)). Appends old new (text_of_lines ls)) whole
          (subst (Appends old new) (sym (flat_map-append (λ l. l ++ line_end ∷ []) first second))
          (Appends-append old middle new (text_of_lines first) (text_of_lines second) f.put s.put));
      marks =
          ap (λ b. b || l) f.marks ∙ ap (λ b. list_any is_refused_line first || b) s.marks
          ∙ sym (list_any-append is_refused_line first second) ∙ ap (list_any is_refused_line) whole;
      version = s.version ∙ f.version;
      goes_on = λ more.
          ap (λ (ls : List (List ℕ)). ls ++ lines_by m2 false n2 more) (sym whole)
          ∙ append_assoc first second (lines_by m2 false n2 more)
          ∙ ap (λ (ls : List (List ℕ)). first ++ ls) (s.goes_on more)
          ∙ f.goes_on (script_lines b ++ more)
          ∙ ap (lines_by m0 false n0) (sym (append_assoc (script_lines a) (script_lines b) more) ∙ ap (λ (ls : List (List ℕ)). ls ++ more) (sym split));
    }

-- a session answered lines, and then others
pub AnswersLines-append : (a b : List ℕ) (s0 s1 s2 : Session) (old middle new : Option (List ℕ)) → IsEnded a
    → AnswersLines a s0 s1 old middle → AnswersLines b s1 s2 middle new → AnswersLines (a ++ b) s0 s2 old new
AnswersLines-append a b s0 s1 s2 old middle new ends h k =
    record {
      mark = h.mark || k.mark;
      questions =
          has_change-append s0.machine.version a b ends ∙ ap (λ x. x || has_change s0.machine.version b) h.questions
          ∙ ap (λ (v : Version). has_change v b) (sym h.answers.version) ∙ k.questions;
      answers =
          Answers-append s0.machine s1.machine s2.machine s0.next s1.next s2.next a b old middle new h.mark k.mark ends h.answers k.answers;
      marks = k.marks ∙ ap (λ x. x || k.mark) h.marks ∙ or_assoc s0.refused h.mark k.mark;
    }

-- before the first piece nothing is answered
pub AnswersLines-nothing : (s after : Session) (said : Option (List ℕ)) → after.machine ≡ s.machine → after.next ≡ s.next → after.refused ≡ s.refused → AnswersLines [] s after said said
AnswersLines-nothing s after said machine next refused =
    record {
      mark = false;
      questions = has_change-nil s.machine.version;
      answers =
          subst (λ (m : Running). Answers false s.machine s.next [] m after.next said said false) (sym machine)
          (subst (λ (n : ℕ). Answers false s.machine s.next [] s.machine n said said false) (sym next) (Answers-nothing s.machine s.next said));
      marks = refused ∙ sym (or-false s.refused);
    }

pub Replies-start : (s : Session) (said : Option (List ℕ)) → HasNoEnd s.unfinished.items → Replies [] s s said said
Replies-start s said unended =
    record {
      lines = [];
      cut = record { whole = append-nil s.unfinished.items; ended = IsEnded-nil; unended = unended };
      answers = AnswersLines-nothing s s said refl refl refl;
    }

-- a piece came, and then another
pub Replies-append : (p q : List ℕ) (s0 s1 s2 : Session) (old middle new : Option (List ℕ)) → Replies p s0 s1 old middle → Replies q s1 s2 middle new → Replies (p ++ q) s0 s2 old new
Replies-append p q s0 s1 s2 old middle new h k =
    record {
      lines = h.lines ++ k.lines;
      cut =
          record {
            whole =
                sym (append_assoc s0.unfinished.items p q) ∙ ap (λ xs. xs ++ q) h.cut.whole ∙ append_assoc h.lines s1.unfinished.items q
                ∙ ap (λ xs. h.lines ++ xs) k.cut.whole ∙ sym (append_assoc h.lines k.lines s2.unfinished.items);
            ended = IsEnded-append h.lines k.lines h.cut.ended k.cut.ended;
            unended = k.cut.unended;
          };
      answers = AnswersLines-append h.lines k.lines s0 s1 s2 old middle new h.cut.ended h.answers k.answers;
    }

-- ---- questions, line by line

-- a machine answered the lines before the rest, none of which changes which lots there are
pub record HasAsked (machine now : Running) (number next : ℕ) (lines rest : List (List ℕ)) (old said : Option (List ℕ)) (mark : Bool) : Type 0 where
  pub told : HasAnswered false machine now number next lines rest old said mark
  pub questions : list_any (λ line. changes (reading machine.version line)) told.front ≡ false

-- at the start nothing was asked
pub HasAsked-start : (machine : Running) (number : ℕ) (lines : List (List ℕ)) (said : Option (List ℕ)) → HasAsked machine machine number number lines lines said said false
unfolding HasAnswered-start
HasAsked-start machine number lines said = record { told = HasAnswered-start false machine number lines said; questions = refl }

-- one more question
pub HasAsked-more : (machine now after : Running) (number next : ℕ) (lines rest : List (List ℕ)) (line : List ℕ) (behind : List (List ℕ)) (old said new : Option (List ℕ)) (mark also : Bool)
    → HasAsked machine now number next lines rest old said mark → rest ≡ line ∷ behind → changes (reading machine.version line) ≡ false
    → Appends said new (text_of_lines (answer_lines false (step_answer now.version now.state next line)))
    → also ≡ list_any is_refused_line (answer_lines false (step_answer now.version now.state next line)) → after ≡ after_line now next line
    → HasAsked machine after number (next + 1) lines behind old new (mark || also)
unfolding HasAnswered-more
HasAsked-more machine now after number next lines rest line behind old said new mark also h split none put marks e =
    let test = λ (l : List ℕ). changes (reading machine.version l) in
    record {
      told = HasAnswered-more false machine now after number next lines rest line behind old said new mark also h.told split put marks e;
      questions = list_any-append test h.told.front (line ∷ []) ∙ ap (λ b. b || (test line || false)) h.questions ∙ (or-false (test line)) ∙ none;
    }

-- a line that changes which lots there are stops the answers
pub StopsAtChange-found : (machine now : Running) (number next : ℕ) (lines rest : List (List ℕ)) (line : List ℕ) (behind : List (List ℕ)) (old said : Option (List ℕ)) (mark : Bool)
    → HasAsked machine now number next lines rest old said mark → rest ≡ line ∷ behind → changes (reading machine.version line) ≡ true → StopsAtChange machine number lines old said
StopsAtChange-found machine now number next lines rest line behind old said mark h split some =
    record {
      front = h.told.front;
      line = line;
      behind = behind;
      whole = h.told.split ∙ ap (λ (ls : List (List ℕ)). h.told.front ++ ls) split;
      change = some;
      questions = h.questions;
      put = h.told.put;
    }

-- all questions of a text were asked
pub questions-end : (machine now : Running) (number next : ℕ) (text rest : List ℕ) (old said : Option (List ℕ)) (mark : Bool)
    → HasAsked machine now number next (script_lines text) (script_lines rest) old said mark → script_lines rest ≡ [] → has_change machine.version text ≡ false
questions-end machine now number next text rest old said mark h e =
    let test = λ (l : List ℕ). changes (reading machine.version l) in
    ap (list_any test) (h.told.split ∙ ap (λ (ls : List (List ℕ)). h.told.front ++ ls) e ∙ append-nil h.told.front) ∙ h.questions

-- ---- a session after a script

-- a session that has run a script
pub IsBehind-run : (script body : List ℕ) (v : Version) (s : Session) (before hidden : Option (List ℕ)) → v ≡ script_version script → script_lines body ≡ script_body script
    → s.next ≤ length script + 1
    → Answers true (record { version = v; state = opening }) 1 body s.machine s.next before hidden s.refused → IsBehind script s
IsBehind-run script body v s before hidden version lines few h =
    record {
      version = h.version ∙ version;
      few = few;
      marks =
          h.marks ∙ ap (λ (ls : List (List ℕ)). list_any is_refused_line (lines_from v false opening 1 ls)) lines
          ∙ ap (λ (u : Version). list_any is_refused_line (lines_from u false opening 1 (script_body script))) version;
      goes_on = λ more.
          subst (λ (u : Version). lines_from u false opening 1 (script_body script) ++ lines_by s.machine false s.next more ≡ lines_from u false opening 1 (script_body script ++ more)) version
          (subst (λ (ls : List (List ℕ)). lines_from v false opening 1 ls ++ lines_by s.machine false s.next more ≡ lines_from v false opening 1 (ls ++ more)) lines (h.goes_on more));
    }

-- a session that has run a script, and then answered lines, has put what the report of all has after the report of the script
pub PutsBehind-session : (script lines : List ℕ) (s0 s : Session) (old new : Option (List ℕ)) → HasEnd script → IsBehind script s0 → AnswersLines lines s0 s old new → PutsBehind script lines old new s.refused
PutsBehind-session script lines s0 s old new ends b h =
    let v = script_version script in
    let body = lines_from v false opening 1 (script_body script) in
    let told = lines_by s0.machine false s0.next (script_lines lines) in
    let marks : s.refused ≡ list_any is_refused_line (body ++ told) =
    h.marks ∙ ap (λ x. x || h.mark) b.marks ∙ ap (λ x. list_any is_refused_line body || x) h.answers.marks ∙ sym (list_any-append is_refused_line body told) in
    record {
      before = report false script;
      told = told;
      report_before = IsReport-computed script (report false script) refl;
      report = IsReport-computed (script ++ lines) (report false script ++ told) (report-behind script lines told ends (b.goes_on (script_lines lines)));
      text = h.answers.put;
      marks = IsTrue-both s.refused (list_any is_refused_line (report false script ++ told)) (marks ∙ sym (report-refused script told));
    }

-- none of these lines changes which lots there are
pub questions-session : (script lines : List ℕ) (s0 s : Session) (old new : Option (List ℕ)) → HasEnd script → IsBehind script s0 → AnswersLines lines s0 s old new → has_change (script_version (script ++ lines)) lines ≡ false
questions-session script lines s0 s old new ends b h =
    ap (λ (v : Version). has_change v lines) (script_version-append script lines ends ∙ sym b.version) ∙ h.questions

-- ---- pieces of a source

-- the session has answered what it read of a source so far, after the line that was unfinished at the start; there is so much room left
pub record HasRead (before now : Option (List ℕ)) (room left : ℕ) (s0 s : Session) (old said : Option (List ℕ)) : Type 0 where
  pub came : List ℕ
  pub reads : ReadsOn before now (s0.unfinished.items ++ came)
  pub fits : length came + left ≡ room
  pub replies : Replies came s0 s old said

-- bytes that were read before
ReadsOn-front : (bytes : List ℕ) (left : Option (List ℕ)) → ReadsOn (with_front bytes left) left bytes
ReadsOn-front bytes None = _
ReadsOn-front bytes (Some more) = (more, refl, refl)

pub HasRead-start : (left : Option (List ℕ)) (room : ℕ) (s : Session) (said : Option (List ℕ)) → HasNoEnd s.unfinished.items → HasRead (with_front s.unfinished.items left) left room room s s said said
HasRead-start left room s said unended =
    record {
      came = [];
      reads = subst (ReadsOn (with_front s.unfinished.items left) left) (sym (append-nil s.unfinished.items)) (ReadsOn-front s.unfinished.items left);
      fits = omega arith;
      replies = Replies-start s said unended;
    }

-- a read adds the front of the buffer
pub ReadsOn-read : (before now after : Option (List ℕ)) (read buffer : List ℕ) (n : ℕ) → n ≤ length buffer → ReadsOn before now read → Takes now after n buffer → ReadsOn before after (read ++ take n buffer)
ReadsOn-read before now after read buffer n within h t =
    let all = buffer ++ drop (length buffer) [] in
    let whole : buffer ≡ take (length buffer) all =
    sym (take-append-le (length buffer) buffer (drop (length buffer) []) (omega arith) ∙ take_all (length buffer) buffer (omega arith)) in
    ReadsOn-appended before now after read buffer [] buffer (read ++ take n buffer) n (length buffer) h t (record { filled = refl; within = within; piece_is = whole; new_is = refl })

-- one more piece was read and answered
pub HasRead-more : (before now after : Option (List ℕ)) (room left n : ℕ) (buffer : List ℕ) (s0 s1 s2 : Session) (old middle new : Option (List ℕ)) → HasRead before now room left s0 s1 old middle
    → Takes now after n buffer → n ≤ length buffer → n ≤ left → Replies (take n buffer) s1 s2 middle new → HasRead before after room (left - n) s0 s2 old new
HasRead-more before now after room left n buffer s0 s1 s2 old middle new h t within fits k =
    record {
      came = h.came ++ take n buffer;
      reads = subst (ReadsOn before after) (append_assoc s0.unfinished.items h.came (take n buffer)) (ReadsOn-read before now after (s0.unfinished.items ++ h.came) buffer n within h.reads t);
      fits = omega (arith, length-append h.came (take n buffer), length-take-le n buffer within, h.fits, fits);
      replies = Replies-append h.came (take n buffer) s0 s1 s2 old middle new h.replies k;
    }

-- an input with too many bytes after a script
too_long : (script : List ℕ) (left : Option (List ℕ)) (limit : ℕ) → most_script_bytes ≤ length script + limit → IsPastLimit left limit → IfSome left (λ input. IsTooLong script input (MoreThan most_script_bytes))
too_long script None limit most past = _
too_long script (Some input) limit most past = (refl, omega (arith, most, past, length-ended input))

-- a piece that does not fit shows that the input is too long
pub HasRead-past : (script : List ℕ) (before now after : Option (List ℕ)) (room left n : ℕ) (buffer : List ℕ) (s0 s : Session) (old said : Option (List ℕ)) → HasRead before now room left s0 s old said
    → Takes now after n buffer → left < n → room + length script + length s0.unfinished.items ≡ most_script_bytes → IfSome before (λ input. IsTooLong script input (MoreThan most_script_bytes))
HasRead-past script before now after room left n buffer s0 s old said h t past is =
    let limit = room + length s0.unfinished.items in
    too_long script before limit (omega (arith, is))
    (IsPastLimit-from_read before now after (s0.unfinished.items ++ h.came) buffer n limit h.reads t (omega (arith, length-append s0.unfinished.items h.came, h.fits, past)))

-- with the line end that the last line lacks, the bytes that came are ended lines
pub came_ended : (came : List ℕ) (s0 s : Session) (old said : Option (List ℕ)) (h : Replies came s0 s old said) → ended (s0.unfinished.items ++ came) ≡ h.lines ++ (s.unfinished.items ++ missing_end s.unfinished.items)
came_ended came s0 s old said h =
    ap ended h.cut.whole ∙ ended-append h.lines s.unfinished.items h.cut.ended ∙ ap (λ xs. h.lines ++ xs) (ended-unfinished s.unfinished.items h.cut.unended)

-- all was answered once the last line is finished
pub AnswersLines-all : (came : List ℕ) (s0 s1 s2 : Session) (old middle new : Option (List ℕ)) → Replies came s0 s1 old middle
    → Replies (missing_end s1.unfinished.items) s1 s2 middle new → s2.unfinished.items ≡ [] → AnswersLines (ended (s0.unfinished.items ++ came)) s0 s2 old new
AnswersLines-all came s0 s1 s2 old middle new h k none =
    let last = k.cut.whole ∙ ap (λ xs. k.lines ++ xs) none ∙ append-nil k.lines in
    let whole : h.lines ++ k.lines ≡ ended (s0.unfinished.items ++ came) = ap (λ xs. h.lines ++ xs) (sym last) ∙ sym (came_ended came s0 s1 old middle h) in
    subst (λ (ls : List ℕ). AnswersLines ls s0 s2 old new) whole (AnswersLines-append h.lines k.lines s0 s1 s2 old middle new h.cut.ended h.answers k.answers)

-- the source was read to its end, so that all of it came
pub read_whole : (P : List ℕ → Type 0) (before now : Option (List ℕ)) (came : List ℕ) → ReadsOn before now came → IsAtEnd now → P came → IfSome before P
read_whole P None now came reads end h = _
read_whole P (Some input) now came reads end h =
    let none : reads.0 ≡ [] = subst IsAtEnd reads.1 end in
    subst P (sym (reads.2 ∙ ap (λ xs. came ++ xs) none ∙ append-nil came)) h

-- ---- a line that changes which lots there are

-- where a change stands in an input: after the lines that were answered before, in lines of which the first are answered too
pub record HasChangeAt (input : List ℕ) (s0 s : Session) (old middle new : Option (List ℕ)) : Type 0 where
  pub first : List ℕ
  pub lines : List ℕ
  pub tail : List ℕ
  pub whole : ended input ≡ first ++ (lines ++ tail)
  pub first_ended : IsEnded first
  pub lines_ended : IsEnded lines
  pub answers : AnswersLines first s0 s old middle
  pub stop : StopsAtChange s.machine s.next (script_lines lines) middle new

-- the input has a line that changes which lots there are
change_of : (script input : List ℕ) (s0 s : Session) (old middle new : Option (List ℕ)) → HasEnd script → IsBehind script s0 → HasChangeAt input s0 s old middle new
    → has_change (script_version (script ++ ended input)) (ended input) ≡ true
change_of script input s0 s old middle new ends b h =
    let v = s.machine.version in
    let version : script_version (script ++ ended input) ≡ v = script_version-append script (ended input) ends ∙ sym b.version ∙ sym h.answers.answers.version in
    ap (λ (u : Version). has_change u (ended input)) version ∙ ap (has_change v) h.whole
    ∙ has_change-within v h.first h.lines h.tail h.first_ended h.lines_ended (has_change-found v h.lines h.stop.front h.stop.behind h.stop.line h.stop.whole h.stop.change)

-- the lines before the change were answered
puts_before : (script input : List ℕ) (s0 s : Session) (old middle new : Option (List ℕ)) → IsBehind script s0 → HasChangeAt input s0 s old middle new → PutsBeforeChange script (ended input) old new
puts_before script input s0 s old middle new b h =
    let test = λ (v : Version) (l : List ℕ). changes (reading v l) in
    let v0 = s0.machine.version in
    let firsts = script_lines h.first in
    let front = h.stop.front in
    let one = lines_by s0.machine false s0.next firsts in
    let other = lines_by s.machine false s.next front in
    let told : one ++ other ≡ lines_by s0.machine false s0.next (firsts ++ front) = h.answers.answers.goes_on front in
    let same : s.machine.version ≡ script_version script = h.answers.answers.version ∙ b.version in
    let none : list_any (test v0) (firsts ++ front) ≡ false =
    list_any-append (test v0) firsts front ∙ ap (λ x. x || list_any (test v0) front) h.answers.questions
    ∙ ap (λ (v : Version). list_any (test v) front) (sym h.answers.answers.version) ∙ h.stop.questions in
    record {
      front = firsts ++ front;
      line = h.stop.line;
      behind = h.stop.behind ++ script_lines h.tail;
      whole =
          ap script_lines h.whole ∙ script_lines-both h.first (h.lines ++ h.tail) h.first_ended
          ∙ ap (λ (ls : List (List ℕ)). firsts ++ ls) (script_lines-both h.lines h.tail h.lines_ended ∙ ap (λ (ls : List (List ℕ)). ls ++ script_lines h.tail) h.stop.whole
          ∙ append_assoc front (h.stop.line ∷ h.stop.behind) (script_lines h.tail))
          ∙ sym (append_assoc firsts front (h.stop.line ∷ h.stop.behind ++ script_lines h.tail));
      change = ap (λ (v : Version). test v h.stop.line) (sym same) ∙ h.stop.change;
      questions = ap (λ (v : Version). list_any (test v) (firsts ++ front)) (sym b.version) ∙ none;
      told = one ++ other;
      put = subst (Appends old new) (sym (flat_map-append (λ l. l ++ line_end ∷ []) one other)) (Appends-append old middle new (text_of_lines one) (text_of_lines other) h.answers.answers.put h.stop.put);
      answers =
          ap (λ (ls : List (List ℕ)). lines_from (script_version script) false opening 1 (script_body script) ++ ls) told ∙ b.goes_on (firsts ++ front);
    }

-- what is known of an input in which a line changes which lots there are
abbrev pub TellsChange : List ℕ → Option (List ℕ) → Option (List ℕ) → Option (List ℕ) → Type 0
TellsChange script left old new =
    IfSome left (λ input. has_change (script_version (script ++ ended input)) (ended input) ≡ true)
    × IfSome left (λ input. PutsBeforeChange script (ended input) old new)

tells_change : (script : List ℕ) (left : Option (List ℕ)) (s0 s : Session) (old middle new : Option (List ℕ)) → HasEnd script → IsBehind script s0
    → IfSome left (λ input. HasChangeAt input s0 s old middle new) → TellsChange script left old new
tells_change script None s0 s old middle new ends b h = (_, _)
tells_change script (Some input) s0 s old middle new ends b h = (change_of script input s0 s old middle new ends b h, puts_before script input s0 s old middle new b h)

-- a change in a complete line of a piece is one in the input
pub change_in_piece : (script : List ℕ) (before now after : Option (List ℕ)) (room left n : ℕ) (buffer : List ℕ) (s0 s : Session) (old middle new : Option (List ℕ)) → HasEnd script → IsBehind script s0
    → HasRead before now room left s0 s old middle → n ≤ length buffer → Takes now after n buffer → HasChangeIn s (s.unfinished.items ++ take n buffer) middle new → TellsChange script before old new
change_in_piece script before now after room left n buffer s0 s old middle new ends b h within t k = tells_change script before s0 s old middle new ends b (at before h t)
  where
    at : (before : Option (List ℕ)) → HasRead before now room left s0 s old middle → Takes now after n buffer → IfSome before (λ input. HasChangeAt input s0 s old middle new)
    at None h t = _
    at (Some input) h t =
        let piece = take n buffer in
        let reads : (rest : List ℕ) × (after ≡ Some rest) × (input ≡ ((s0.unfinished.items ++ h.came) ++ piece) ++ rest) =
        ReadsOn-read (Some input) now after (s0.unfinished.items ++ h.came) buffer n within h.reads t in
        let first = h.replies.lines in
        let tail = k.rest ++ reads.0 in
        let parts : input ≡ (first ++ k.lines) ++ tail =
        reads.2 ∙ ap (λ xs. (xs ++ piece) ++ reads.0) h.replies.cut.whole
        ∙ ap (λ xs. xs ++ reads.0) (append_assoc first s.unfinished.items piece ∙ ap (λ xs. first ++ xs) k.cut.whole ∙ sym (append_assoc first k.lines k.rest))
        ∙ append_assoc (first ++ k.lines) k.rest reads.0 in
        record {
          first = first;
          lines = k.lines;
          tail = ended tail;
          whole = ap ended parts ∙ ended-append (first ++ k.lines) tail (IsEnded-append first k.lines h.replies.cut.ended k.cut.ended) ∙ append_assoc first k.lines (ended tail);
          first_ended = h.replies.cut.ended;
          lines_ended = k.cut.ended;
          answers = h.replies.answers;
          stop = k.stop;
        }

-- a change in the unfinished line is one in the input
pub change_at_end : (script : List ℕ) (before now : Option (List ℕ)) (room left : ℕ) (s0 s : Session) (old middle new : Option (List ℕ)) → HasEnd script → IsBehind script s0
    → HasRead before now room left s0 s old middle → IsAtEnd now → HasChangeIn s (s.unfinished.items ++ missing_end s.unfinished.items) middle new → TellsChange script before old new
change_at_end script before now room left s0 s old middle new ends b h end k =
    tells_change script before s0 s old middle new ends b
    (read_whole (λ input. HasChangeAt input s0 s old middle new) before now (s0.unfinished.items ++ h.came) h.reads end
    (record {
      first = h.replies.lines;
      lines = k.lines;
      tail = k.rest;
      whole = came_ended h.came s0 s old middle h.replies ∙ ap (λ xs. h.replies.lines ++ xs) k.cut.whole;
      first_ended = h.replies.cut.ended;
      lines_ended = k.cut.ended;
      answers = h.replies.answers;
      stop = k.stop;
    }))

-- ---- lines after an empty script

-- two reports of one script are the same
IsReport-unique : (script : List ℕ) (told other : List (List ℕ)) → IsReport script told → IsReport script other → told ≡ other
IsReport-unique script told other h k = IsReport-is script told h ∙ sym (IsReport-is script other k)

-- answers to lines, and then to lines after them
PutsBehind-both : (lines more : List ℕ) (old middle new : Option (List ℕ)) (k l : Bool) → PutsBehind [] lines old middle k → PutsBehind lines more middle new l → PutsBehind [] (lines ++ more) old new l
PutsBehind-both lines more old middle new k l h g =
    let same : g.before ≡ h.before ++ h.told = IsReport-unique lines g.before (h.before ++ h.told) g.report_before h.report in
    let all : g.before ++ g.told ≡ h.before ++ (h.told ++ g.told) = ap (λ (ls : List (List ℕ)). ls ++ g.told) same ∙ append_assoc h.before h.told g.told in
    record {
      before = h.before;
      told = h.told ++ g.told;
      report_before = h.report_before;
      report = subst (IsReport (lines ++ more)) all g.report;
      text =
          subst (Appends old new) (sym (flat_map-append (λ l. l ++ line_end ∷ []) h.told g.told))
          (Appends-append old middle new (text_of_lines h.told) (text_of_lines g.told) h.text g.text);
      marks = subst (λ (ls : List (List ℕ)). IsTrue l ↔ IsTrue (list_any is_refused_line ls)) all g.marks;
    }

-- what holds of bytes before those of a source, and of the bytes with others before them
front-of_front : (P Q : List ℕ → Type 0) (lines rest : List ℕ) (left : Option (List ℕ)) → ((more : List ℕ) → P (rest ++ more) → Q (lines ++ (rest ++ more))) → IfSome (with_front rest left) P
    → IfSome (with_front (lines ++ rest) left) Q
front-of_front P Q lines rest None f h = _
front-of_front P Q lines rest (Some more) f h = subst Q (sym (append_assoc lines rest more)) (f more h)

-- all questions after an empty script
pub first_questions : (lines rest : List ℕ) (left : Option (List ℕ)) → HasEnd lines → has_change (script_version lines) lines ≡ false
    → IfSome (with_front rest left) (λ all. has_change (script_version (lines ++ ended all)) (ended all) ≡ false)
    → IfSome (with_front (lines ++ rest) left) (λ all. has_change (script_version (ended all)) (ended all) ≡ false)
first_questions lines rest left ends none h =
    front-of_front (λ all. has_change (script_version (lines ++ ended all)) (ended all) ≡ false) (λ all. has_change (script_version (ended all)) (ended all) ≡ false) lines rest left
    (λ more k.
    let whole : ended (lines ++ (rest ++ more)) ≡ lines ++ ended (rest ++ more) = ended-append lines (rest ++ more) (λ some. ends.1) in
    let version = script_version-append lines (ended (rest ++ more)) ends in
    ap (λ xs. has_change (script_version xs) xs) whole
    ∙ has_change-append (script_version (lines ++ ended (rest ++ more))) lines (ended (rest ++ more)) (λ some. ends.1)
    ∙ ap (λ x. has_change (script_version (lines ++ ended (rest ++ more))) lines || x) k
    ∙ (or-false (has_change (script_version (lines ++ ended (rest ++ more))) lines))
    ∙ ap (λ (v : Version). has_change v lines) version ∙ none) h

-- all answers after an empty script
pub first_answers : (lines rest : List ℕ) (left : Option (List ℕ)) (old middle new : Option (List ℕ)) (k l : Bool) → HasEnd lines → PutsBehind [] lines old middle k
    → IfSome (with_front rest left) (λ all. PutsBehind lines (ended all) middle new l) → IfSome (with_front (lines ++ rest) left) (λ all. PutsBehind [] (ended all) old new l)
first_answers lines rest left old middle new k l ends first h =
    front-of_front (λ all. PutsBehind lines (ended all) middle new l) (λ all. PutsBehind [] (ended all) old new l) lines rest left
    (λ more g.
    subst (λ all. PutsBehind [] all old new l) (sym (ended-append lines (rest ++ more) (λ some. ends.1)))
    (PutsBehind-both lines (ended (rest ++ more)) old middle new k l first g)) h

-- a change in the first lines is one in all
change_first : (lines all : List ℕ) → HasEnd lines → has_change (script_version lines) lines ≡ true → has_change (script_version (lines ++ all)) (lines ++ all) ≡ true
change_first lines all ends h =
    ap (λ (v : Version). has_change v (lines ++ all)) (script_version-append lines all ends) ∙ has_change-append (script_version lines) lines all (λ some. ends.1)
    ∙ ap (λ x. x || has_change (script_version lines) all) h

-- a change in the lines after them is one in all
change_after : (lines all : List ℕ) → HasEnd lines → has_change (script_version (lines ++ all)) all ≡ true → has_change (script_version (lines ++ all)) (lines ++ all) ≡ true
change_after lines all ends h =
    has_change-append (script_version (lines ++ all)) lines all (λ some. ends.1) ∙ ap (λ x. has_change (script_version (lines ++ all)) lines || x) h
    ∙ or-true (has_change (script_version (lines ++ all)) lines)

-- a change in the first lines of an input
pub input_change_first : (lines rest : List ℕ) (left : Option (List ℕ)) → HasEnd lines → has_change (script_version lines) lines ≡ true
    → IfSome (with_front (lines ++ rest) left) (λ all. has_change (script_version (ended all)) (ended all) ≡ true)
input_change_first lines rest left ends h =
    front-of_front (λ all. Unit {0}) (λ all. has_change (script_version (ended all)) (ended all) ≡ true) lines rest left
    (λ more g. ap (λ xs. has_change (script_version xs) xs) (ended-append lines (rest ++ more) (λ some. ends.1)) ∙ change_first lines (ended (rest ++ more)) ends h) (anything rest left)
  where
    anything : (bytes : List ℕ) (o : Option (List ℕ)) → IfSome (with_front bytes o) (λ all. Unit {0})
    anything bytes None = _
    anything bytes (Some more) = tt

-- a change in the lines after the first
pub input_change_after : (lines rest : List ℕ) (left : Option (List ℕ)) → HasEnd lines → IfSome (with_front rest left) (λ all. has_change (script_version (lines ++ ended all)) (ended all) ≡ true)
    → IfSome (with_front (lines ++ rest) left) (λ all. has_change (script_version (ended all)) (ended all) ≡ true)
input_change_after lines rest left ends h =
    front-of_front (λ all. has_change (script_version (lines ++ ended all)) (ended all) ≡ true) (λ all. has_change (script_version (ended all)) (ended all) ≡ true) lines rest left
    (λ more g. ap (λ xs. has_change (script_version xs) xs) (ended-append lines (rest ++ more) (λ some. ends.1)) ∙ change_after lines (ended (rest ++ more)) ends g) h

-- lines and an input that are too long together are too long as one input
pub too_long_after : (lines rest : List ℕ) (left : Option (List ℕ)) (n : Length) → HasEnd lines → IfSome (with_front rest left) (λ all. IsTooLong lines all n)
    → IfSome (with_front (lines ++ rest) left) (λ all. IsTooLong [] all n)
too_long_after lines rest left n ends h = front-of_front (λ all. IsTooLong lines all n) (λ all. IsTooLong [] all n) lines rest left (λ more g. joined n (rest ++ more) g) h
  where
    both : (all : List ℕ) → length (ended (lines ++ all)) ≡ length lines + length (ended all)
    both all = ap length (ended-append lines all (λ some. ends.1)) ∙ length-append lines (ended all)

    joined : (n : Length) (all : List ℕ) → IsTooLong lines all n → IsTooLong [] (lines ++ all) n
    joined (Exactly n) all g = (omega (arith, g.0, both all), g.1)
    joined (MoreThan n) all g = (g.0, omega (arith, g.1, both all))

-- ---- the first bytes of a source

-- more bytes came before a line end than a script may have
pub ReadsOn-past : (before now after : Option (List ℕ)) (read buffer : List ℕ) (n : ℕ) → ReadsOn before now read → Takes now after n buffer → most_script_bytes < length read + n
    → IfSome before (λ input. IsTooLong [] input (MoreThan most_script_bytes))
ReadsOn-past before now after read buffer n h t past = too_long [] before most_script_bytes (omega arith) (IsPastLimit-from_read before now after read buffer n most_script_bytes h t past)

-- the first lines of a source, with the bytes that came after them
pub ReadsOn-cut : (before now after : Option (List ℕ)) (read buffer lines rest : List ℕ) (n : ℕ) → n ≤ length buffer → ReadsOn before now read → Takes now after n buffer → IsCut (take n buffer) lines rest
    → ReadsOn before after ((read ++ lines) ++ rest)
ReadsOn-cut before now after read buffer lines rest n within h t cut =
    subst (ReadsOn before after) (ap (λ xs. read ++ xs) cut.whole ∙ sym (append_assoc read lines rest)) (ReadsOn-read before now after read buffer n within h t)

-- what holds of the first bytes and of all after them holds of the source
pub from_first : (P : List ℕ → Type 0) (bytes : List ℕ) (before after : Option (List ℕ)) → IfSome before (λ input. (more : List ℕ) × (after ≡ Some more) × (input ≡ bytes ++ more))
    → IfSome (with_front bytes after) P → IfSome before P
from_first P bytes None after reads h = _
from_first P bytes (Some input) after reads h =
    let all : P (bytes ++ reads.0) = subst (λ (o : Option (List ℕ)). IfSome (with_front bytes o) P) reads.1 h in
    subst P (sym reads.2) all

-- what holds of all bytes holds of the source
pub from_all : (P : List ℕ → Type 0) (bytes : List ℕ) (before : Option (List ℕ)) → IfSome before (λ input. input ≡ bytes) → P bytes → IfSome before P
from_all P bytes None is h = _
from_all P bytes (Some input) is h = subst P (sym is) h

-- no byte before those of a source
pub with_front-nothing : (left : Option (List ℕ)) → with_front [] left ≡ left
with_front-nothing None = refl
with_front-nothing (Some more) = refl
