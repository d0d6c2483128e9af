-- The report of an upgraded script: the answers of the script, without those of bad lines and with every command in its spelling of the second version.
use Rattle.std.proofs.Common.{◌≡◌, ℕ, suc, ◌-◌, ◌≤◌, Bool, true, false, ◌==◌, nat_le, nat_lt, List, [], ◌∷◌, ◌++◌, map, length, take, Ok, Err, refl, sym, ap, ◌∙◌, subst, arith, le-ltb}
use Rattle.std.specs.Prelude.{◌↔◌, slice_index}
use Rattle.std.specs.List.{AllByRecursion}
use Rattle.std.proofs.lemmas.Bool.{ltb-false}
use Rattle.std.proofs.lemmas.List.{length-take-le}
use Rattle.rp_algebra.proofs.Listed.{all_map}
use Rattle.rp_algebra.proofs.Lists.{images_twice}
use Rattle.rp_language.specs.Expression.{Command}
use Rattle.rp_language.specs.Grammar.{space, Version, one, two, too_long, Reading, blank, command, bad, words_of, command_words, reading_of, most_bytes, is_blank, reading, spelling}
use Rattle.rp_language.specs.Laws.{SpellingIsRead, UpgradeIsRead}
use Rattle.rp_language.proofs.ReadBytes.{IsPrinted, read_is_printed_spec}
use Rattle.rp_model.specs.states.State.{State, opening}
use Rattle.rp_reports.specs.Text.{Answer, answer_lines, text_of_lines}
use Rattle.rp_reports.specs.Report.{without_return, script_lines, script_mark, report_mark, version_by, body_of, marked, script_version, script_body, blank_answer, bad_answer, AnswersCommand, IsAnswerTo, after_reading, IsReportFrom, IsReport}
use Rattle.rp_reports.specs.Upgrade.{upgraded_line, upgraded_script}
use Rattle.rp_reports.specs.laws.UpgradeLaws.{upgraded_answer, IsUpgradedFrom, IsUpgradedReport, UpgradeKeepsTheReport}
use Rattle.rp_reports.proofs.Lines.{is_end, HasNoEnd, script_lines_no_end, lines_of_text, without_same}
use Rattle.rp_states.proofs.Listing.{all_mapped}

-- ---- blank lines

-- what is read where the line is not too long and not blank
abbrev read_by : Bool → Bool → Reading → Reading
read_by long empty r = elim long as (λ _. Reading) [ true ↦ bad too_long | false ↦ elim empty as (λ _. Reading) [ true ↦ blank | false ↦ r ] ]

-- a blank line is not too long, and is empty or a note
record ReadBlank (v : Version) (line : List ℕ) : Type 0 where
  short : nat_lt (most_bytes v) (length line) ≡ false
  empty : is_blank line ≡ true

-- a line that is read as blank
read_blank : (v : Version) (line : List ℕ) → reading v line ≡ blank → ReadBlank v line
unfolding reading
read_blank v line e = of_tests (nat_lt (most_bytes v) (length line)) (is_blank line) (command_words v (record { words = words_of line; nodes = 0 })) refl refl e
  where
    of_tests : (long empty : Bool) (r : _) → nat_lt (most_bytes v) (length line) ≡ long → is_blank line ≡ empty → read_by long empty (reading_of r) ≡ blank → ReadBlank v line
    of_tests true empty r short is e = absurd (cc)
    of_tests false true r short is e = record { short = short; empty = is }
    of_tests false false (Err f) short is e = absurd (cc)
    of_tests false false (Ok r) short is e = absurd (cc)

-- such a line is read as blank in the second version
blank_reads : (line : List ℕ) → length line ≤ 262144 → is_blank line ≡ true → reading two line ≡ blank
unfolding reading
blank_reads line short e =
    let long = le-ltb (most_bytes two) (length line) short in
    λ i. read_by (long i) (e i) (reading_of (command_words two (record { words = words_of line; nodes = 0 })))

-- no version has longer lines than the second
blank_short : (v : Version) (line : List ℕ) → nat_lt (most_bytes v) (length line) ≡ false → length line ≤ 262144
blank_short one line e = let short = ltb-false (most_bytes one) (length line) e in omega arith
blank_short two line e = ltb-false (most_bytes two) (length line) e

-- a blank line without its carriage return is blank
blank_without : (line : List ℕ) → is_blank line ≡ true → (is_blank (without_return line) ≡ true) × (length (without_return line) ≤ length line)
blank_without [] e = (refl, omega arith)
blank_without (b ∷ []) e = by (b == 13) refl
  where
    by : (t : Bool) → (b == 13) ≡ t → (is_blank (elim t as (λ _. List ℕ) [ true ↦ [] | false ↦ b ∷ [] ]) ≡ true) × (length (elim t as (λ _. List ℕ) [ true ↦ [] | false ↦ b ∷ [] ]) ≤ 1)
    by true is = (refl, omega arith)
    by false is = (e, omega arith)
blank_without (b ∷ c ∷ bs) e = by (slice_index (b ∷ c ∷ bs) (length (b ∷ c ∷ bs) - 1) == 13)
  where
    shorter : take (length (b ∷ c ∷ bs) - 1) (b ∷ c ∷ bs) ≡ b ∷ take (length bs) (c ∷ bs)
    shorter = let n : length (b ∷ c ∷ bs) - 1 ≡ suc (length bs) = omega arith in ap (λ (k : ℕ). take k (b ∷ c ∷ bs)) n

    by : (t : Bool) → (is_blank (elim t as (λ _. List ℕ) [ true ↦ take (length (b ∷ c ∷ bs) - 1) (b ∷ c ∷ bs) | false ↦ b ∷ c ∷ bs ]) ≡ true)
        × (length (elim t as (λ _. List ℕ) [ true ↦ take (length (b ∷ c ∷ bs) - 1) (b ∷ c ∷ bs) | false ↦ b ∷ c ∷ bs ]) ≤ length (b ∷ c ∷ bs))
    by true = (ap is_blank shorter ∙ e, let n = length-take-le (length bs) (c ∷ bs) (omega arith) in let m = ap length shorter in omega arith)
    by false = (e, omega arith)

-- a blank line of any version, as it stands in the text of the upgraded script
blank_again : (v : Version) (line : List ℕ) → reading v line ≡ blank → reading two (without_return line) ≡ blank
blank_again v line e =
    let r = read_blank v line e in
    let w = blank_without line r.empty in
    let short = blank_short v line r.short in
    blank_reads (without_return line) (let le = w.1 in omega arith) w.0

-- ---- one line

-- what the line in the place of one reads as
abbrev upgraded_reading : Reading → Reading
upgraded_reading blank = blank
upgraded_reading (command c) = command c
upgraded_reading (bad f) = blank

-- what is told of a line in a report: an answer, and the lines behind it
abbrev Told : (Answer → Type 0) → (List (List ℕ) → Type 0) → (Answer → Answer) → List (List ℕ) → Type 0
Told Here Behind shown told = (a : Answer) × (rest : List (List ℕ)) × Here a × Behind rest × (told ≡ answer_lines false (shown a) ++ rest)

-- what is told of the upgraded line is what is told of the line, as the upgraded script has it
told_alike : (s : State) (n : ℕ) (line other : List ℕ) (r : Reading) → ((c : Command) → r ≡ command c → other ≡ spelling two c) → (Behind There : List (List ℕ) → Type 0) → ((rest : List (List ℕ)) → Behind rest ↔ There rest) → (told : List (List ℕ)) →
    Told (IsAnswerTo s n other (upgraded_reading r)) Behind (λ a. a) told ↔ Told (IsAnswerTo s n line r) There (upgraded_answer r) told
told_alike s n line other blank spelled Behind There same told = (
  (λ h. (h.0, h.1, h.2, (same h.1).0 h.3, h.4)),
  (λ h. (h.0, h.1, h.2, (same h.1).1 h.3, h.4)),
)
told_alike s n line other (bad f) spelled Behind There same told = (
  (λ h. (bad_answer n line f, h.1, refl, (same h.1).0 h.3, h.4 ∙ ap (λ (a : Answer). answer_lines false a ++ h.1) h.2)),
  (λ h. (blank_answer n, h.1, refl, (same h.1).1 h.3, h.4 ∙ ap (λ (a : Answer). answer_lines false (blank_answer a.number) ++ h.1) h.2)),
)
told_alike s n line other (command c) spelled Behind There same told = (
  (λ h.
      let a = h.0 in
      let is : AnswersCommand s n other c a = h.2 in
      let echo = is.echo ∙ spelled c refl in (
        record { number = a.number; echo = line; proofs = a.proofs; verdicts = a.verdicts },
        h.1,
        record { number = is.number; echo = refl; proofs = is.proofs; verdicts = is.verdicts },
        (same h.1).0 h.3,
        h.4 ∙ ap (λ (text : List ℕ). answer_lines false (record { number = a.number; echo = text; proofs = a.proofs; verdicts = a.verdicts }) ++ h.1) echo,
      )),
  (λ h.
      let a = h.0 in
      let is : AnswersCommand s n line c a = h.2 in (
        record { number = a.number; echo = spelling two c; proofs = a.proofs; verdicts = a.verdicts },
        h.1,
        record { number = is.number; echo = sym (spelled c refl); proofs = is.proofs; verdicts = is.verdicts },
        (same h.1).1 h.3,
        h.4,
      )),
)

-- the state is the same
state_alike : (n : ℕ) (s : State) (r : Reading) → after_reading n s (upgraded_reading r) ≡ after_reading n s r
state_alike n s blank = refl
state_alike n s (command c) = refl
state_alike n s (bad f) = refl

-- ---- all lines

-- a byte that does not stand before a space is no line end
printed_no_end : (b : ℕ) → nat_le space b ≡ true → is_end b ≡ false
printed_no_end b e = grind arith

-- nor is it a carriage return
printed_no_return : (b : ℕ) → nat_le space b ≡ true → (b == 13) ≡ false
printed_no_return b e = grind arith

module _ (read_again : SpellingIsRead) (read_upgraded : UpgradeIsRead) where
  -- the spelling of a command of a line of either version is read in the second
  spelling_reads : (v : Version) (line : List ℕ) (c : Command) → reading v line ≡ command c → reading two (spelling two c) ≡ command c
  spelling_reads one line c e = read_upgraded line c e
  spelling_reads two line c e = read_again two line c e

  -- no byte of it stands before a space
  spelling_printed : (v : Version) (line : List ℕ) (c : Command) → reading v line ≡ command c → IsPrinted (spelling two c)
  spelling_printed v line c e = read_is_printed_spec two (spelling two c) c (spelling_reads v line c e)

  -- so it ends with no carriage return
  spelling_same : (v : Version) (line : List ℕ) (c : Command) → reading v line ≡ command c → without_return (spelling two c) ≡ spelling two c
  spelling_same v line c e = without_same (spelling two c) (all_map (λ b. nat_le space b ≡ true) (λ b. (b == 13) ≡ false) printed_no_return (spelling two c) (spelling_printed v line c e))

  -- the line in the place of one, as it stands in the text of the upgraded script
  abbrev other_line : Version → List ℕ → List ℕ
  other_line v line = without_return (upgraded_line line (reading v line))

  -- what it reads as
  other_reads : (v : Version) (line : List ℕ) (r : Reading) → reading v line ≡ r → reading two (without_return (upgraded_line line r)) ≡ upgraded_reading r
  other_reads v line blank e = blank_again v line e
  other_reads v line (bad f) e = blank_reads [] (omega arith) refl
  other_reads v line (command c) e = ap (reading two) (spelling_same v line c e) ∙ spelling_reads v line c e

  -- of a command it is the spelling
  other_spelled : (v : Version) (line : List ℕ) (c : Command) → reading v line ≡ command c → other_line v line ≡ spelling two c
  other_spelled v line c e = ap (λ (r : Reading). without_return (upgraded_line line r)) e ∙ spelling_same v line c e

  -- what is told of the lines in the place of some is what is told of these, as the upgraded script has it
  all_alike : (v : Version) (lines : List (List ℕ)) (s : State) (n : ℕ) (told : List (List ℕ)) → IsReportFrom two false s n (map (other_line v) lines) told ↔ IsUpgradedFrom v s n lines told
  all_alike v [] s n told = (λ h. h, λ h. h)
  all_alike v (line ∷ lines) s n told =
      let r = reading v line in
      let next = after_reading n s r in
      let alike = told_alike s n line (other_line v line) r (λ c e. other_spelled v line c e) (λ rest. IsReportFrom two false next (suc n) (map (other_line v) lines) rest) (λ rest. IsUpgradedFrom v next (suc n) lines rest) (all_alike v lines next (suc n)) told in
      subst (λ (q : Reading). Told (IsAnswerTo s n (other_line v line) q) (λ rest. IsReportFrom two false (after_reading n s q) (suc n) (map (other_line v) lines) rest) (λ a. a) told ↔ Told (IsAnswerTo s n line r) (λ rest. IsUpgradedFrom v next (suc n) lines rest) (upgraded_answer r) told)
      (sym (other_reads v line r refl))
      (subst (λ (t : State). Told (IsAnswerTo s n (other_line v line) (upgraded_reading r)) (λ rest. IsReportFrom two false t (suc n) (map (other_line v) lines) rest) (λ a. a) told ↔ Told (IsAnswerTo s n line r) (λ rest. IsUpgradedFrom v next (suc n) lines rest) (upgraded_answer r) told)
      (sym (state_alike n s r)) alike)

  -- ---- the text

  -- the line in the place of one without a line end has none
  upgraded_no_end : (v : Version) (line : List ℕ) (r : Reading) → reading v line ≡ r → HasNoEnd line → HasNoEnd (upgraded_line line r)
  upgraded_no_end v line blank e h = h
  upgraded_no_end v line (bad f) e h = tt
  upgraded_no_end v line (command c) e h = all_map (λ b. nat_le space b ≡ true) (λ b. is_end b ≡ false) printed_no_end (spelling two c) (spelling_printed v line c e)

  -- the body has no line end
  body_no_end : (v : Version) (lines : List (List ℕ)) → AllByRecursion HasNoEnd lines → AllByRecursion HasNoEnd (body_of v lines)
  body_no_end one lines h = h
  body_no_end two [] h = tt
  body_no_end two (line ∷ lines) h = h.1

  -- the lines of the text of the upgraded script
  other_lines : (bytes : List ℕ) → script_lines (text_of_lines (upgraded_script bytes)) ≡ script_mark ∷ map (other_line (script_version bytes)) (script_body bytes)
  unfolding upgraded_script script_body
  other_lines bytes =
      let v = script_version bytes in
      let ends = body_no_end v (script_lines bytes) (script_lines_no_end bytes) in
      let none = all_mapped HasNoEnd (λ line. upgraded_line line (reading v line)) (script_body bytes) (all_map HasNoEnd (λ line. HasNoEnd (upgraded_line line (reading v line))) (λ line h. upgraded_no_end v line (reading v line) refl h) (script_body bytes) ends) in
      lines_of_text (upgraded_script bytes) ((refl, (refl, (refl, (refl, tt)))), none)
      ∙ ap (λ (lines : List (List ℕ)). script_mark ∷ lines) (images_twice (λ line. upgraded_line line (reading v line)) without_return (script_body bytes))

  -- a report of lines
  abbrev IsReportBy : List (List ℕ) → List (List ℕ) → Type 0
  IsReportBy lines told =
      (rest : List (List ℕ)) × IsReportFrom (version_by script_mark lines) false opening 1 (body_of (version_by script_mark lines) lines) rest × (told ≡ marked report_mark (version_by script_mark lines) rest)

  -- a script is reported by its lines
  report_by : (bytes : List ℕ) (told : List (List ℕ)) → IsReport bytes told ≡ IsReportBy (script_lines bytes) told
  unfolding script_version script_body
  report_by bytes told = refl

  -- the law
  pub upgrade_keeps_the_report_from : UpgradeKeepsTheReport
  upgrade_keeps_the_report_from bytes told =
      let v = script_version bytes in
      let alike = all_alike v (script_body bytes) opening 1 in
      let of_lines : IsReportBy (script_mark ∷ map (other_line v) (script_body bytes)) told ↔ IsUpgradedReport bytes told = ((λ h. (h.0, (alike h.0).0 h.1, h.2)), (λ h. (h.0, (alike h.0).1 h.1, h.2))) in
      subst (λ (R : Type 0). R ↔ IsUpgradedReport bytes told) (sym (report_by (text_of_lines (upgraded_script bytes)) told))
      (subst (λ (lines : List (List ℕ)). IsReportBy lines told ↔ IsUpgradedReport bytes told) (sym (other_lines bytes)) of_lines)
