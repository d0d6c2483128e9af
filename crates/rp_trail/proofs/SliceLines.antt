-- The lines of slices, one by one: each is taken exactly where it shows a slice that passes.
use Rattle.std.proofs.Common.{◌≡◌, ℕ, ℤ, ◌+◌, ◌<◌, ◌≤◌, Bool, true, false, List, [], ◌∷◌, ◌++◌, map, length, drop, get_or, Option, Some, None, refl, sym, ap, ◌∙◌}
use Rattle.std.proofs.lemmas.List.{append_assoc, append-nil, drop_all, map-append}
use Rattle.rp_algebra.proofs.Lists.{drop_item}
use Rattle.rp_geometry.specs.sets.Shape.{Part}
use Rattle.rp_geometry.specs.sections.Trace.{IsHeight}
use Rattle.rp_geometry.specs.sections.Slice.{Slice, is_slice, slice_of}
use Rattle.rp_geometry.specs.parts.Parts.{IsCheckedPart}
use Rattle.rp_semantics.specs.Walk.{done, stopped, line_wrong, Walk}
use Rattle.rp_model.specs.commands.Verdict.{Verdict}
use Rattle.rp_reports.specs.Text.{verdict_text}
use Rattle.rp_reports.specs.Check.{Trail, taken, taken_if, follow_line, follow_lines, next_slice, slice_told, slices_told}
use Rattle.rp_slice.proofs.RingFound.{slice_is_found_spec}
use Rattle.rp_slice.proofs.Sizes.{ring_is_kept_spec, ring_is_short_spec}
use Rattle.rp_checker_completeness.proofs.Shown.{slice_line, follow_each, line_then}
use Rattle.rp_checker_completeness.proofs.SlicesAgain.{is_passing, wanted_where_passing}
use Rattle.rp_cert.specs.Section.{slice_shown}
use Rattle.rp_cert.specs.declared.slice.Slice.{Slice as CodeSlice}
use Rattle.rp_oracle.specs.declared.stopped.Stopped.{Stopped}
use Rattle.rp_oracle.specs.Refines.{StopsBy}
use Rattle.rp_trail.specs.Slices.{follow_slice_line, follow_slice_lines}
use Rattle.rp_oracle.proofs.Left.{IsLeft, left_as, next_left, stop_left}

-- ---- one line

module _ (z : ℤ) (height : IsHeight z) (p : Part) (checked : IsCheckedPart p) where
  -- the next line is taken exactly where it shows a slice that passes
  line_where_passing : (t : Trail) → follow_slice_line z p t ≡ taken_if (is_passing z p.cell (next_slice t.lines)) tt t
  line_where_passing t = by t.lines
    where
      by : (lines : List (List ℕ)) → follow_line (slice_line z p lines) lines t ≡ taken_if (is_passing z p.cell (next_slice lines)) tt t
      by [] = refl
      by (line ∷ lines) = ap (λ (b : Bool). taken_if b tt t) (wanted_where_passing slice_is_found_spec ring_is_kept_spec ring_is_short_spec z height p checked.half_spaces checked.few line lines)

  -- by what was read of it
  line_by_read : (t : Trail) (o : Option Slice) (b : Bool) → o ≡ next_slice t.lines → is_passing z p.cell o ≡ b → follow_slice_line z p t ≡ taken_if b tt t
  line_by_read t o b e f = line_where_passing t ∙ ap (λ (x : Option Slice). taken_if (is_passing z p.cell x) tt t) (sym e) ∙ ap (λ (x : Bool). taken_if x tt t) f

  -- it shows none
  pub none_shown : (t : Trail) → None ≡ next_slice t.lines → follow_slice_line z p t ≡ stopped line_wrong t
  none_shown t e = line_by_read t None false e refl

  -- it shows one that does not pass
  pub not_passing : (t : Trail) (s : Slice) → Some s ≡ next_slice t.lines → is_slice z p.cell s ≡ false → follow_slice_line z p t ≡ stopped line_wrong t
  not_passing t s e f = line_by_read t (Some s) false e f

  -- it shows one that passes
  pub line_taken : (t : Trail) (s : Slice) → Some s ≡ next_slice t.lines → is_slice z p.cell s ≡ true → follow_slice_line z p t ≡ done tt (taken t)
  line_taken t s e f = line_by_read t (Some s) true e f

-- and that one is told
pub slice_is_told : (z : ℤ) (p : Part) (t : Trail) (s : Slice) → Some s ≡ next_slice t.lines → is_slice z p.cell s ≡ true → s ≡ slice_told z p.cell (next_slice t.lines)
slice_is_told z p t s e f = sym (ap (slice_told z p.cell) (sym e) ∙ ap (λ (b : Bool). elim b as (λ _. Slice) [ true ↦ s | false ↦ slice_of z p.cell ]) f)

-- ---- the lines in order

-- the lines of the slices that are told are wanted one by one
pub told_one_by_one : (z : ℤ) (ps : List Part) (t : Trail) → follow_slice_lines z ps t ≡ follow_each z ps t
told_one_by_one z [] t = refl
told_one_by_one z (p ∷ ps) t = line_then (slice_line z p t.lines) (follow_lines (map verdict_text (map Verdict.slice (slices_told z ps (drop 1 t.lines))))) (follow_each z ps) t (told_one_by_one z ps (taken t)) t.lines

-- at the start all lines are left
pub each_left : (z : ℤ) (ps : List Part) (t : Trail) → IsLeft t (follow_slice_lines z ps) t (follow_each z ps)
each_left z ps t = record { same = sym (told_one_by_one z ps t) }

module _ (z : ℤ) (ps : List Part) (i : ℕ) (p : Part) (h : i < length ps) (e : p ≡ get_or ps i p) where
  -- the line of the next part and those behind it
  next_part : follow_each z (drop i ps) ≡ follow_each z (p ∷ drop (i + 1) ps)
  next_part = ap (follow_each z) (drop_item ps i p h e)

  -- it was taken: those behind it are left
  pub slice_taken : {start now new : Trail} {whole : Walk Trail (Unit {0})} → IsLeft start whole now (follow_each z (drop i ps)) → follow_slice_line z p now ≡ done tt new → IsLeft start whole new (follow_each z (drop (i + 1) ps))
  slice_taken l m = next_left (follow_slice_line z p) (λ _. follow_each z (drop (i + 1) ps)) (left_as next_part l) m

  -- it stops: so do all
  pub slice_stops : {start now : Trail} {whole : Walk Trail (Unit {0})} → IsLeft start whole now (follow_each z (drop i ps)) → (x : Stopped) (new : Trail) → StopsBy x new (follow_slice_line z p now) → StopsBy x new (whole start)
  slice_stops l x new m = stop_left (follow_slice_line z p) (λ _. follow_each z (drop (i + 1) ps)) (left_as next_part l) x new m

  -- one slice more is told
  pub told_more : (found items : List CodeSlice) (s : CodeSlice) (t new : Trail) (all : List Slice) → slice_shown s ≡ slice_told z p.cell (next_slice t.lines) → new ≡ taken t → items ≡ found ++ s ∷ []
      → map slice_shown found ++ slices_told z (drop i ps) t.lines ≡ all → map slice_shown items ++ slices_told z (drop (i + 1) ps) new.lines ≡ all
  told_more found items s t new all told takes more left =
      let rest = slices_told z (drop (i + 1) ps) (drop 1 t.lines) in
      ap (λ (u : Trail). map slice_shown items ++ slices_told z (drop (i + 1) ps) u.lines) takes
      ∙ ap (λ (xs : List CodeSlice). map slice_shown xs ++ rest) more
      ∙ ap (λ (xs : List Slice). xs ++ rest) (map-append slice_shown found (s ∷ []))
      ∙ append_assoc (map slice_shown found) (slice_shown s ∷ []) rest
      ∙ ap (λ (x : Slice). map slice_shown found ++ (x ∷ rest)) told
      ∙ sym (ap (λ (qs : List Part). map slice_shown found ++ slices_told z qs t.lines) (drop_item ps i p h e))
      ∙ left

-- and all are told
pub all_told : (z : ℤ) (ps : List Part) (i : ℕ) (found : List CodeSlice) (t : Trail) (all : List Slice) → length ps ≤ i → map slice_shown found ++ slices_told z (drop i ps) t.lines ≡ all → map slice_shown found ≡ all
all_told z ps i found t all h e =
    sym (append-nil (map slice_shown found)) ∙ sym (ap (λ (qs : List Part). map slice_shown found ++ slices_told z qs t.lines) (drop_all i ps h)) ∙ e
