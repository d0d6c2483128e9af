-- The slices of a section on the lines of a report: each is told by its own line, so the lines may be taken one by one.
use Rattle.std.proofs.Common.{◌≡◌, ℕ, suc, ℤ, ◌+◌, Bool, true, false, ◌&&◌, List, [], ◌∷◌, ◌++◌, map, length, drop, Option, Some, None, refl, ap, ◌∙◌, subst}
use Rattle.std.specs.Prelude.{option_and_then}
use Rattle.std.proofs.lemmas.Slice.Eq.{bytes_eq-Decides}
use Rattle.rp_algebra.proofs.Tests.{and_second}
use Rattle.rp_algebra.proofs.Options.{none_not_some, same_some}
use Rattle.rp_geometry.specs.sets.Shape.{Part}
use Rattle.rp_geometry.specs.sections.Slice.{Slice, is_slice, slice_of}
use Rattle.rp_language.specs.Name.{label_eq}
use Rattle.rp_language.specs.Expression.{Command}
use Rattle.rp_semantics.specs.Walk.{Outcome, done, stopped, after_first, Walk, pass, ◌>>◌}
use Rattle.rp_model.specs.states.State.{PlainState}
use Rattle.rp_model.specs.commands.Verdict.{Verdict, section_lines}
use Rattle.rp_model.specs.commands.Reply.{Reply, reply_lines}
use Rattle.rp_reports.specs.Text.{verdict_text}
use Rattle.rp_reports.specs.ProofText.{loose_words}
use Rattle.rp_reports.specs.SliceText.{is_written_slice, slice_of_words, slice_if_spelled, slice_read}
use Rattle.rp_reports.specs.Check.{Trail, taken, taken_if, follow_line, follow_lines, next_slice, slice_told, slices_told, follow_slices, limit_allowed, follow_reply, follow_walk, follow_command, line_tester}
use Rattle.rp_checker_completeness.proofs.Due.{Due, replied, sliced, due_row, finish, row_is_due}
use Rattle.rp_checker_completeness.proofs.TakenParts.{trail}
use Rattle.rp_checker_completeness.proofs.ToldLines.{line_taken}

-- ---- the reply at a trail

-- the reply that is due, with the slices that the lines show
abbrev pub reply_at : Due → Trail → Reply
reply_at (replied r) t = r
reply_at (sliced z ps) t = reply_lines (section_lines (slices_told z ps (drop 1 t.lines)))

-- what a row comes to, with the slices that the lines show
abbrev pub shown : Outcome Trail Due → Outcome Trail Reply
shown (done d t) = done (reply_at d t) t
shown (stopped e t) = stopped e t

-- what a followed row comes to
abbrev pub follow_due : ℕ → PlainState → Bool → Outcome Trail Due → Outcome Trail PlainState
follow_due n s allowed o = follow_walk n s allowed (shown o)

-- the check shows the slices so
shown_is : (o : Outcome Trail Due) → after_first (finish line_tester) o ≡ shown o
unfolding follow_slices
shown_is (done (replied r) t) = refl
shown_is (done (sliced z ps) t) = refl
shown_is (stopped e t) = refl

-- the answer to a command
pub command_is_due : (n : ℕ) (s : PlainState) (c : Command) (t : Trail) → follow_command n s c t ≡ follow_due n s (limit_allowed s c) (due_row line_tester s c t)
unfolding follow_command
command_is_due n s c t = ap (follow_walk n s (limit_allowed s c)) (row_is_due line_tester s c t ∙ shown_is (due_row line_tester s c t))

-- ---- slices, one by one

-- the line that is wanted for the slice of a part, where these lines stand next
abbrev pub slice_line : ℤ → Part → List (List ℕ) → List ℕ
slice_line z p lines = verdict_text (Verdict.slice (slice_told z p.cell (next_slice lines)))

-- the lines of the slices of parts, one by one
abbrev pub follow_each : ℤ → List Part → Walk Trail (Unit {0})
follow_each z [] = pass tt
follow_each z (p ∷ ps) = do
  λ t. follow_line (slice_line z p t.lines) t.lines t
  follow_each z ps

-- the line that says how many slices there are, and then those of the slices
abbrev pub follow_shown : ℤ → List Part → Walk Trail (Unit {0})
follow_shown z ps = do
  λ t. follow_line (verdict_text (Verdict.sections (length ps))) t.lines t
  follow_each z ps

-- a line and then two walks that come to the same
pub line_then : (want : List ℕ) (first second : Walk Trail (Unit {0})) (t : Trail) → first (taken t) ≡ second (taken t) → (lines : List (List ℕ)) → after_first (λ _. first) (follow_line want lines t) ≡ after_first (λ _. second) (follow_line want lines t)
line_then want first second t e [] = refl
line_then want first second t e (line ∷ lines) = by_test (label_eq want line)
  where
    by_test : (b : Bool) → after_first (λ _. first) (taken_if {A = Unit {0}} b tt t) ≡ after_first (λ _. second) (taken_if {A = Unit {0}} b tt t)
    by_test true = e
    by_test false = refl

-- the lines of the slices that are told are wanted one by one
each_is : (z : ℤ) (ps : List Part) (t : Trail) → follow_lines (map verdict_text (map Verdict.slice (slices_told z ps t.lines))) t ≡ follow_each z ps t
each_is z [] t = refl
each_is z (p ∷ ps) t = line_then (slice_line z p t.lines) (follow_lines (map verdict_text (map Verdict.slice (slices_told z ps (drop 1 t.lines))))) (follow_each z ps) t (each_is z ps (taken t)) t.lines

-- as many slices are told as there are parts
pub told_length : (z : ℤ) (ps : List Part) (lines : List (List ℕ)) → length (slices_told z ps lines) ≡ length ps
told_length z [] lines = refl
told_length z (p ∷ ps) lines = ap (λ n. suc n) (told_length z ps (drop 1 lines))

-- the verdict lines of a section
section_is : (z : ℤ) (ps : List Part) (t : Trail) → follow_lines (map verdict_text (section_lines (slices_told z ps (drop 1 t.lines)))) t ≡ follow_shown z ps t
section_is z ps t =
    ap (λ n. follow_lines (verdict_text (Verdict.sections n) ∷ map verdict_text (map Verdict.slice (slices_told z ps (drop 1 t.lines)))) t) (told_length z ps (drop 1 t.lines))
    ∙ line_then (verdict_text (Verdict.sections (length ps))) (follow_lines (map verdict_text (map Verdict.slice (slices_told z ps (drop 1 t.lines))))) (follow_each z ps) t (each_is z ps (taken t)) t.lines

-- the reply of a section
pub section_reply : (n : ℕ) (s : PlainState) (z : ℤ) (ps : List Part) (t : Trail) → follow_reply n s (reply_at (sliced z ps) t) t ≡ after_first (λ _. pass s) (follow_shown z ps t)
section_reply n s z ps t = ap (after_first (λ _. pass s)) (section_is z ps t)

-- ---- the lines that the program writes

-- the slices that are found
abbrev pub found_slices : ℤ → List Part → List Slice
found_slices z ps = map (λ p. slice_of z p.cell) ps

-- what a line is read as, it spells
pub read_says : (line : List ℕ) (s : Slice) → slice_read line ≡ Some s → label_eq (verdict_text (Verdict.slice s)) line ≡ true
unfolding slice_read
read_says line s e = by_read (slice_of_words (loose_words line)) e
  where
    by_test : (x : Slice) (b : Bool) → (is_written_slice x && label_eq (verdict_text (Verdict.slice x)) line) ≡ b → elim b as (λ _. Option Slice) [ true ↦ Some x | false ↦ None ] ≡ Some s → label_eq (verdict_text (Verdict.slice s)) line ≡ true
    by_test x true f k = subst (λ y. label_eq (verdict_text (Verdict.slice y)) line ≡ true) (same_some _ _ k) (and_second (is_written_slice x) (label_eq (verdict_text (Verdict.slice x)) line) f)
    by_test x false f k = absurd (none_not_some s k)

    by_read : (o : Option Slice) → option_and_then (slice_if_spelled line) o ≡ Some s → label_eq (verdict_text (Verdict.slice s)) line ≡ true
    by_read None k = absurd (none_not_some s k)
    by_read (Some x) k = by_test x (is_written_slice x && label_eq (verdict_text (Verdict.slice x)) line) refl k

-- the line of the slice that is found is the one that is wanted where it stands
own_line : (z : ℤ) (p : Part) (rest : List (List ℕ)) → label_eq (slice_line z p (verdict_text (Verdict.slice (slice_of z p.cell)) ∷ rest)) (verdict_text (Verdict.slice (slice_of z p.cell))) ≡ true
own_line z p rest = by_read (slice_read own) refl
  where
    own : List ℕ
    own = verdict_text (Verdict.slice (slice_of z p.cell))

    same : label_eq own own ≡ true
    same = (bytes_eq-Decides own own).1 refl

    by_test : (s : Slice) → slice_read own ≡ Some s → (b : Bool) → label_eq (verdict_text (Verdict.slice (elim b as (λ _. Slice) [ true ↦ s | false ↦ slice_of z p.cell ]))) own ≡ true
    by_test s e true = read_says own s e
    by_test s e false = same

    by_read : (o : Option Slice) → slice_read own ≡ o → label_eq (verdict_text (Verdict.slice (slice_told z p.cell o))) own ≡ true
    by_read None e = same
    by_read (Some s) e = by_test s e (is_slice z p.cell s)

-- the lines of the slices that are found are taken
pub each_taken : (z : ℤ) (ps : List Part) (rest : List (List ℕ)) (n tests : ℕ) → (k : ℕ) × (follow_each z ps (trail (map verdict_text (map Verdict.slice (found_slices z ps)) ++ rest) n tests) ≡ done tt (trail rest k tests))
each_taken z [] rest n tests = (n, refl)
each_taken z (p ∷ ps) rest n tests =
    let more = each_taken z ps rest (n + 1) tests in
    let own : List ℕ = verdict_text (Verdict.slice (slice_of z p.cell)) in
    let lines : List (List ℕ) = map verdict_text (map Verdict.slice (found_slices z ps)) ++ rest in
    (more.0, ap (λ (b : Bool). after_first (λ _. follow_each z ps) (taken_if b tt (trail (own ∷ lines) n tests))) (own_line z p lines) ∙ more.1)

-- as many slices are found as there are parts
found_length : (z : ℤ) (ps : List Part) → length (found_slices z ps) ≡ length ps
found_length z [] = refl
found_length z (p ∷ ps) = ap (λ n. suc n) (found_length z ps)

-- the verdict lines of a section with the slices that are found are taken
pub shown_taken : (z : ℤ) (ps : List Part) (rest : List (List ℕ)) (n tests : ℕ) → (k : ℕ) × (follow_shown z ps (trail (map verdict_text (section_lines (found_slices z ps)) ++ rest) n tests) ≡ done tt (trail rest k tests))
shown_taken z ps rest n tests =
    let more = each_taken z ps rest (n + 1) tests in
    let want : List ℕ = verdict_text (Verdict.sections (length ps)) in
    let lines : List (List ℕ) = map verdict_text (map Verdict.slice (found_slices z ps)) ++ rest in (
      more.0,
      ap (λ m. follow_shown z ps (trail (verdict_text (Verdict.sections m) ∷ lines) n tests)) (found_length z ps)
          ∙ ap (after_first (λ _. follow_each z ps)) (line_taken want lines (trail (want ∷ lines) n tests)) ∙ more.1,
    )
