-- The row of a section: the verdict lines of the slices that the lines tell, and the first line that is another one.
use Rattle.std.proofs.Common.{◌≡◌, ℕ, ℤ, List, map, length, refl, sym, ap, ◌∙◌, subst}
use Rattle.std.specs.Prelude.{Result}
use Rattle.std.proofs.lemmas.List.{length-map}
use Rattle.rp_geometry.specs.sets.Shape.{Part}
use Rattle.rp_semantics.specs.Walk.{Outcome, done, after_first}
use Rattle.rp_model.specs.commands.Verdict.{Verdict, section_lines}
use Rattle.rp_model.specs.commands.Reply.{reply_lines}
use Rattle.rp_model.specs.commands.Section.{row_section}
use Rattle.rp_reports.specs.Text.{verdict_text}
use Rattle.rp_reports.specs.Check.{Trail, taken, follow_line, follow_lines, slices_told, follow_slices, line_tester}
use Rattle.rp_checker_completeness.proofs.Shown.{told_length}
use Rattle.rp_cert.specs.Section.{slice_shown}
use Rattle.rp_cert.specs.declared.slice.Slice.{Slice as CodeSlice}
use Rattle.rp_oracle.specs.declared.stopped.Stopped.{Stopped}
use Rattle.rp_oracle.specs.declared.stopped.Stopped.TheVariants.{Wrong}
use Rattle.rp_oracle.specs.Refines.{StopsBy, Refines}
use Rattle.rp_trail.specs.Slices.{follow_slice_lines}
use Rattle.rp_oracle.proofs.Left.{stops_on}
use Rattle.rp_check_state.specs.Followed.{IsUnshown}
use Rattle.rp_check_state.specs.Slices.{follow_section_lines}

-- slices that are those told are as many
pub slices_counted : (z : ℤ) (ps : List Part) (lines : List (List ℕ)) (found : List CodeSlice) → map slice_shown found ≡ slices_told z ps lines → length found ≡ length ps
slices_counted z ps lines found e = sym (length-map found slice_shown) ∙ ap length e ∙ told_length z ps lines

-- the row comes to the slices that the lines behind the next one tell
pub told_reply : (z : ℤ) (ps : List Part) (t : Trail) → row_section line_tester z ps t ≡ done (reply_lines (section_lines (slices_told z ps (taken t).lines))) t
unfolding follow_slices
told_reply z ps t = refl

module _ (z : ℤ) (ps : List Part) (t : Trail) where
  -- the texts of the slices
  abbrev texts : List (List ℕ)
  texts = map verdict_text (map Verdict.slice (slices_told z ps (taken t).lines))

  -- all lines, by how many slices there are
  abbrev lines_by : ℕ → Outcome Trail (Unit {0})
  lines_by n = after_first (λ _. follow_lines texts) (follow_line (verdict_text (Verdict.sections n)) t.lines t)

  -- the first line is that of how many parts there are
  by_parts : follow_section_lines z ps t ≡ lines_by (length ps)
  by_parts = ap lines_by (told_length z ps (taken t).lines)

  -- where it stops, so do all
  pub count_stops : (e : Stopped) (u : Trail) → StopsBy e u (follow_line (verdict_text (Verdict.sections (length ps))) t.lines t) → StopsBy e u (follow_section_lines z ps t)
  count_stops e u h = subst (λ o. StopsBy e u o) (sym by_parts) (stops_on (λ _. follow_lines texts) e u (follow_line (verdict_text (Verdict.sections (length ps))) t.lines t) h)

  -- it was taken: the lines of the slices are left
  pub count_taken : {A : Type 0} (r : Result A Stopped) (u v : Trail) → u ≡ taken t → follow_line (verdict_text (Verdict.sections (length ps))) t.lines t ≡ done tt u → Refines (λ _. tt) r v (follow_slice_lines z ps u) → Refines (λ _. tt) r v (follow_section_lines z ps t)
  count_taken r u v e m h =
      subst (λ o. Refines (λ _. tt) r v o) (sym (by_parts ∙ ap (after_first (λ _. follow_lines texts)) m ∙ ap (λ (w : Trail). follow_lines (map verdict_text (map Verdict.slice (slices_told z ps w.lines))) u) (sym e))) h

  -- a line is wrong
  pub line_is_wrong : (n : ℕ) (u : Trail) → n ≡ u.number → StopsBy Wrong u (follow_section_lines z ps t) → IsUnshown n t (row_section line_tester z ps t)
  line_is_wrong n u number stops = record { reply = reply_lines (section_lines (slices_told z ps (taken t).lines)); comes = told_reply z ps t; at = u; stops = stops; number = number }

  -- all slices are told
  pub slices_told_all : (found : List CodeSlice) (lines : List Verdict) → map slice_shown found ≡ slices_told z ps (taken t).lines → lines ≡ section_lines (map slice_shown found) → row_section line_tester z ps t ≡ done (reply_lines lines) t
  slices_told_all found lines e f = told_reply z ps t ∙ ap (λ (vs : List Verdict). done (reply_lines vs) t) (sym (f ∙ ap section_lines e))
