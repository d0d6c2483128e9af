-- What a true report of one answer says, of a script of the first version: its verdict lines are those of the true verdicts of its command.
use Rattle.std.proofs.Common.{◌≡◌, ℕ, ◌≤◌, Bool, true, false, List, [], ◌∷◌, map, Option, Some, None, refl, sym, ap, ◌∙◌, subst, arith}
use Rattle.std.specs.Prelude.{codes}
use Rattle.std.specs.Fmt.{digits}
use Rattle.std.specs.List.{flat_map}
use Rattle.rp_language.specs.Expression.{Command}
use Rattle.rp_language.specs.Grammar.{Version, one, two, bad_syntax, Reading, blank, command, bad, reading, command_words}
use Rattle.rp_language.specs.Name.{label_eq}
use Rattle.rp_model.specs.states.State.{State, opening}
use Rattle.rp_geometry.specs.searches.ProofLine.{ProofLine}
use Rattle.rp_model.specs.commands.Verdict.{Verdict}
use Rattle.rp_reports.specs.Text.{verdict_text, echo_text}
use Rattle.rp_reports.specs.Report.{report_mark, version_by, marked}
use Rattle.rp_model.specs.states.Sound.{AreAlike}
use Rattle.rp_reports.specs.TrueReport.{ToldAnswer, told_echo, told_lines, true_rule, limit_or_true, true_by_reading, IsTrueAnswer, after_told, AreTrueAnswers, IsTrueReport}
use Rattle.rp_reports.specs.laws.CheckLaws.{bytes_told, SameAnswerLines, AreNumbered}
use Rattle.rp_correctness.proofs.ToldOnce.{echo_once, reports_are_told_once_spec}
use Rattle.rp_states.proofs.Labels.{label_is}
use Rattle.rp_checker_completeness.proofs.ReportTaken.{empty_is_blank}

-- true answers have numbers of lines
true_are_numbered : (v : Version) (last : ℕ) (s : State) (told : List ToldAnswer) → AreTrueAnswers v last s told → AreNumbered told
true_are_numbered v last s [] h = tt
true_are_numbered v last s (a ∷ told) h = (h.0.1, true_are_numbered v a.number (after_told v s a) told h.2)

-- the text of the mark of the second version is no command
mark_is_bad : reading one (codes "rp 2") ≡ bad bad_syntax
unfolding reading command_words
mark_is_bad = refl

-- the mark is an echo of that text with the number 0
mark_is_echo : report_mark ≡ echo_text 0 (codes "rp 2")
unfolding digits
mark_is_echo = refl

-- a text that is read as a command is some text
command_text : (text : List ℕ) (c : Command) → reading one text ≡ command c → [] ≡ text → ⊥
command_text text c read e = not_blank (sym (empty_is_blank one) ∙ ap (reading one) e ∙ read)
  where
    not_blank : blank ≡ command c → ⊥
    not_blank f = cc

-- verdicts of the same lines that are true
abbrev pub TrueLines : Command → List Verdict → Type 0
TrueLines c vs = (ws : List Verdict) × (map verdict_text ws ≡ map verdict_text vs) × limit_or_true (true_rule opening c) ws

module _ (n : ℕ) (small : n ≤ 16777216) (text : List ℕ) (c : Command) (read : reading one text ≡ command c) (ps : List ProofLine) (vs : List Verdict) where
  -- an answer of the same lines
  same_answer : (a : ToldAnswer) → bytes_told a.text ≡ text → map verdict_text a.verdicts ≡ map verdict_text vs → IsTrueAnswer one opening a → TrueLines c vs
  same_answer a e lines h = by a.text e h
    where
      by : (o : Option (List ℕ)) → bytes_told o ≡ text → IsTrueAnswer one opening (record { number = a.number; text = o; proofs = a.proofs; verdicts = a.verdicts }) → TrueLines c vs
      by None f k = absurd (command_text text c read f)
      by (Some other) f k = (a.verdicts, lines, subst (λ (r : Reading). true_by_reading opening r a.verdicts) (ap (reading one) f ∙ read) k)

  -- its lines
  abbrev its_lines : List (List ℕ)
  its_lines = flat_map told_lines (record { number = n; text = Some text; proofs = ps; verdicts = vs } ∷ [])

  -- the first is not the mark of the second version, whose text is no command
  not_mark : told_echo n (Some text) ≡ report_mark → ⊥
  not_mark e = no_command (sym mark_is_bad ∙ ap (reading one) (sym (echo_once n 0 text (codes "rp 2") small (omega arith) (e ∙ mark_is_echo)).1) ∙ read)
    where
      no_command : bad bad_syntax ≡ command c → ⊥
      no_command f = cc

  -- so they are read by the first version
  first_version : version_by report_mark its_lines ≡ one
  first_version = by (label_eq (told_echo n (Some text)) report_mark) refl
    where
      by : (b : Bool) → label_eq (told_echo n (Some text)) report_mark ≡ b → elim b as (λ _. Version) [ true ↦ two | false ↦ one ] ≡ one
      by false e = refl
      by true e = absurd (not_mark (label_is (told_echo n (Some text)) report_mark e))

  -- true answers that are told in its lines
  by_version : (told : List ToldAnswer) → its_lines ≡ flat_map told_lines told → AreTrueAnswers one 0 opening told → TrueLines c vs
  by_version told lines answers = by told (reports_are_told_once_spec told (record { number = n; text = Some text; proofs = ps; verdicts = vs } ∷ []) (true_are_numbered one 0 opening told answers) (small, tt) (sym lines)) answers
    where
      by : (told : List ToldAnswer) → AreAlike SameAnswerLines told (record { number = n; text = Some text; proofs = ps; verdicts = vs } ∷ []) → AreTrueAnswers one 0 opening told → TrueLines c vs
      by [] same h = absurd same
      by (a ∷ []) same h = same_answer a same.0.text same.0.verdicts h.1
      by (a ∷ b ∷ told) same h = absurd same.1

  -- a true report of one answer
  pub one_answer : IsTrueReport its_lines → TrueLines c vs
  one_answer report = by_version report.0 (report.1 ∙ ap (λ v. marked report_mark v (flat_map told_lines report.0)) first_version) (subst (λ v. AreTrueAnswers v 0 opening report.0) first_version report.2)
