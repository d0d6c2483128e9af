-- A slice that keeps its bounds is read again from its line; those that pass keep them, so a line is the one that is wanted exactly where it shows a slice that passes.
use Rattle.std.proofs.Common.{◌≡◌, ℕ, ◌+◌, ◌≤◌, ℤ, Bool, true, false, ◌&&◌, nat_le, List, [], ◌∷◌, ◌++◌, length, Option, Some, None, refl, sym, ap, ◌∙◌, subst, arith}
use Rattle.std.specs.Prelude.{codes, option_and_then}
use Rattle.std.specs.List.{AllByRecursion, list_all, flat_map}
use Rattle.std.proofs.lemmas.Slice.Eq.{bytes_eq-Decides}
use Rattle.rp_algebra.proofs.Listed.{list_all_true}
use Rattle.rp_algebra.proofs.Tests.{and_first, and_second, and_true, false_unless, false_not_true}
use Rattle.rp_geometry.specs.Geometry.{HalfSpace, IsKeptHalfSpace, IsKeptPoint, half_edge, is_listed, cube_box}
use Rattle.rp_geometry.specs.sets.Shape.{Part}
use Rattle.rp_geometry.specs.searches.Certificate.{Multiple, is_multiplier}
use Rattle.rp_geometry.specs.sections.Trace.{Trace, IsHeight, with_sides, cube_sides}
use Rattle.rp_geometry.specs.sections.Ring.{RingStep}
use Rattle.rp_geometry.specs.sections.Flat.{is_one_to_three}
use Rattle.rp_geometry.specs.sections.Slice.{Slice, ring, flat, is_slice, slice_of}
use Rattle.rp_geometry.specs.laws.SectionLaws.{SliceIsFound, IsSmallTrace, RingIsKept, RingIsShort, greatest_trace_offset}
use Rattle.rp_geometry.specs.parts.Parts.{AreKeptHalfSpaces, IsCheckedPart, most_half_spaces}
use Rattle.rp_geometry.proofs.Kept.{are_half_spaces, kept_together, kept_box}
use Rattle.rp_convex.proofs.Tests.{listed-to}
use Rattle.rp_language.specs.Name.{label_eq}
use Rattle.rp_language.specs.Grammar.{Word}
use Rattle.rp_model.specs.commands.Verdict.{Verdict}
use Rattle.rp_reports.specs.Text.{point_text, term_text, items_text, trace_text, step_text, slice_text, verdict_text}
use Rattle.rp_reports.specs.ProofText.{cons_some, map_some, is_written_point, is_written_multiple, is_written_half_space}
use Rattle.rp_reports.specs.SliceText.{is_written_trace, is_written_step, is_three_to_36, is_written_slice, steps_of_numbers, slice_of_kind, slice_of_words, slice_if_spelled, slice_read}
use Rattle.rp_semantics.specs.Walk.{after_first, Walk, pass, ◌>>◌}
use Rattle.rp_reports.specs.Check.{Trail, taken, taken_if, follow_line, next_slice, slice_told}
use Rattle.rp_checker_completeness.proofs.LooseWords.{GivesWords, gives_sep, gives_none, gives_word, gives_both, words_given, gives_in_parentheses, gives_items, items_apart}
use Rattle.rp_checker_completeness.proofs.ProofsAgain.{IsShort, number_words, loose_numbers, numbers_again, point_numbers, term_numbers, short_within, short_coefficient, short_point, short_term, short_all, words_of_all, gives_point, gives_terms, terms_again, written_all}
use Rattle.rp_checker_completeness.proofs.WrittenHalfSpaces.{within_size, half_space_written}
use Rattle.rp_checker_completeness.proofs.KeptPoints.{point_written}
use Rattle.rp_checker_completeness.proofs.Shown.{slice_line, read_says, follow_each}

-- ---- the numbers of steps

-- the numbers of a trace
abbrev trace_numbers : Trace → List ℤ
trace_numbers t = t.a ∷ t.b ∷ t.d ∷ []

-- the numbers of a step
abbrev step_numbers : RingStep → List ℤ
step_numbers s = s.edge.a ∷ s.edge.b ∷ s.edge.d ∷ point_numbers s.end

-- the numbers of a trace that may be written are short
short_trace : (t : Trace) → is_written_trace t ≡ true → AllByRecursion IsShort (trace_numbers t)
short_trace t e =
    let ab = and_first _ _ e in
    (short_coefficient t.a (and_first _ _ ab), (short_coefficient t.b (and_second _ _ ab), (short_within 1125899906842624 (omega arith) t.d (and_second _ _ e), tt)))

-- so are those of a step
short_step : (s : RingStep) → is_written_step s ≡ true → AllByRecursion IsShort (step_numbers s)
short_step s e =
    let t = short_trace s.edge (and_first (is_written_trace s.edge) (is_written_point s.end) e) in
    (t.0, (t.1.0, (t.1.1.0, short_point s.end (and_second (is_written_trace s.edge) (is_written_point s.end) e))))

-- the words of a step
gives_step : (s : RingStep) → AllByRecursion IsShort (step_numbers s) → GivesWords (step_text s) (number_words (step_numbers s))
gives_step s h =
    gives_both (trace_text s.edge ++ codes " ") (point_text s.end) (number_words (trace_numbers s.edge)) (number_words (point_numbers s.end))
    (gives_both (trace_text s.edge) (codes " ") (number_words (trace_numbers s.edge)) []
    (gives_in_parentheses (number_words (trace_numbers s.edge)) (loose_numbers (trace_numbers s.edge) (h.0, (h.1.0, (h.1.1.0, tt)))))
    (gives_sep 32 [] [] refl gives_none) refl)
    (gives_point s.end h.1.1.1) refl

-- those of several steps
gives_steps : (steps : List RingStep) → AllByRecursion (λ s. AllByRecursion IsShort (step_numbers s)) steps → GivesWords (items_text step_text steps) (number_words (flat_map step_numbers steps))
gives_steps steps h = subst (GivesWords (items_text step_text steps)) (words_of_all step_numbers steps) (gives_items step_text (λ s. number_words (step_numbers s)) (λ s. AllByRecursion IsShort (step_numbers s)) gives_step steps h)

-- steps are made again of their numbers
steps_again : (steps : List RingStep) → steps_of_numbers (flat_map step_numbers steps) ≡ Some steps
steps_again [] = refl
steps_again (s ∷ steps) = ap (cons_some (Some s)) (steps_again steps)

-- ---- lines

-- a line of a kind and of numbers
record LineOf (s : Slice) : Type 0 where
  kind : Word
  numbers : List ℤ
  gives : GivesWords (slice_text s) (kind ∷ number_words numbers)
  short : AllByRecursion IsShort numbers
  back : slice_of_kind kind numbers ≡ Some s

-- each slice that keeps its bounds has one
line_of : (s : Slice) → is_written_slice s ≡ true → LineOf s
unfolding is_written_slice
line_of (ring steps) e =
    let h = written_all is_written_step (λ s. AllByRecursion IsShort (step_numbers s)) (is_three_to_36 (length steps)) short_step steps e in
    record {
      kind = codes "ring";
      numbers = flat_map step_numbers steps;
      gives = gives_both (codes "ring") (items_text step_text steps) (codes "ring" ∷ []) (number_words (flat_map step_numbers steps)) (gives_word (codes "ring") (refl, (refl, (refl, (refl, tt))))) (gives_steps steps h) (items_apart step_text steps);
      short = short_all step_numbers steps h;
      back = ap (map_some ring) (steps_again steps);
    }
line_of (flat terms) e =
    let h = written_all is_written_multiple (λ t. AllByRecursion IsShort (term_numbers t)) (is_one_to_three (length terms)) short_term terms e in
    record {
      kind = codes "flat";
      numbers = flat_map term_numbers terms;
      gives = gives_both (codes "flat") (items_text term_text terms) (codes "flat" ∷ []) (number_words (flat_map term_numbers terms)) (gives_word (codes "flat") (refl, (refl, (refl, (refl, tt))))) (gives_terms terms h) (items_apart term_text terms);
      short = short_all term_numbers terms h;
      back = ap (map_some flat) (terms_again terms);
    }

-- a verdict line has its mark in front
gives_verdict : (s : Slice) (words : List Word) → GivesWords (slice_text s) words → GivesWords (verdict_text (Verdict.slice s)) (codes "=" ∷ words)
gives_verdict s words g = gives_both (codes "=") (32 ∷ slice_text s) (codes "=" ∷ []) words (gives_word (codes "=") (refl, tt)) (gives_sep 32 (slice_text s) words refl g) refl

-- a text is read as the slice where all tests pass
if_spelled_itself : (s : Slice) → is_written_slice s ≡ true → slice_if_spelled (verdict_text (Verdict.slice s)) s ≡ Some s
if_spelled_itself s e = here (is_written_slice s && label_eq (verdict_text (Verdict.slice s)) (verdict_text (Verdict.slice s))) (and_true _ _ e ((bytes_eq-Decides (verdict_text (Verdict.slice s)) (verdict_text (Verdict.slice s))).1 refl))
  where
    here : (b : Bool) → b ≡ true → elim b as (λ _. Option Slice) [ true ↦ Some s | false ↦ None ] ≡ Some s
    here true h = refl
    here false h = absurd (cc)

-- a slice that keeps its bounds is read again from its line
pub slice_again : (s : Slice) → is_written_slice s ≡ true → slice_read (verdict_text (Verdict.slice s)) ≡ Some s
unfolding slice_read
slice_again s e =
    let k = line_of s e in
    let line : List ℕ = verdict_text (Verdict.slice s) in
    ap (λ ws. option_and_then (slice_if_spelled line) (slice_of_words ws)) (words_given line (codes "=" ∷ k.kind ∷ number_words k.numbers) (gives_verdict s (k.kind ∷ number_words k.numbers) k.gives))
    ∙ ap (λ o. option_and_then (slice_if_spelled line) (option_and_then (slice_of_kind k.kind) o)) (numbers_again k.numbers k.short)
    ∙ ap (option_and_then (slice_if_spelled line)) k.back
    ∙ if_spelled_itself s e

-- ---- slices that pass keep their bounds

-- the numbers of a small trace may be written
trace_written : (t : Trace) → IsSmallTrace t → is_written_trace t ≡ true
trace_written t k = and_true _ _ (and_true _ _ (within_size half_edge t.a k.a) (within_size half_edge t.b k.b)) (within_size greatest_trace_offset t.d k.d)

-- a step with a small trace and a kept point
step_written : (s : RingStep) → IsSmallTrace s.edge × IsKeptPoint s.end → is_written_step s ≡ true
step_written s k = and_true (is_written_trace s.edge) (is_written_point s.end) (trace_written s.edge k.0) (point_written s.end k.1)

-- the four upright sides of the cube are as the program keeps half-spaces
sides_kept : AreKeptHalfSpaces cube_sides
sides_kept = let k = kept_box cube_box refl in (k.0, (k.1.0, (k.1.1.0, (k.1.1.1.0, tt))))

-- a term of the flat list may be written
term_written : (cell : List HalfSpace) → AreKeptHalfSpaces cell → (t : Multiple) → (is_multiplier t.factor && is_listed t.of (with_sides cell)) ≡ true → is_written_multiple t ≡ true
term_written cell k t e =
    and_true (is_multiplier t.factor) (is_written_half_space t.of) (and_first (is_multiplier t.factor) (is_listed t.of (with_sides cell)) e)
    (half_space_written t.of (listed-to IsKeptHalfSpace t.of (with_sides cell) (and_second (is_multiplier t.factor) (is_listed t.of (with_sides cell)) e) (kept_together cell cube_sides k sides_kept)))

-- a number from 3 to 36 passes the test
three_to_36 : (n m : ℕ) → nat_le 3 n ≡ true → n ≤ m + 4 → m ≤ 32 → is_three_to_36 n ≡ true
three_to_36 n m e f g = and_true (nat_le 3 n) (nat_le n 36) e (at_most n m f g)
  where
    at_most : (n m : ℕ) → n ≤ m + 4 → m ≤ 32 → nat_le n 36 ≡ true
    at_most n m f g = grind arith

module _ (kept : RingIsKept) (short : RingIsShort) (z : ℤ) (height : IsHeight z) (cell : List HalfSpace) (half_spaces : AreKeptHalfSpaces cell) (few : length cell ≤ most_half_spaces) where
  -- a slice that passes keeps its bounds
  pub passing_is_written : (s : Slice) → is_slice z cell s ≡ true → is_written_slice s ≡ true
  unfolding is_written_slice
  passing_is_written (ring steps) e =
      let four = and_first _ _ e in
      let three = and_first _ _ four in
      let two = and_first _ _ three in
      and_true (is_three_to_36 (length steps)) (list_all is_written_step steps)
      (three_to_36 (length steps) (length cell) (and_first _ _ two) (short z cell steps e) few)
      (list_all_true is_written_step (λ s. IsSmallTrace s.edge × IsKeptPoint s.end) step_written steps (kept z cell steps height (are_half_spaces cell half_spaces) e))
  passing_is_written (flat terms) e =
      let three = and_first _ _ e in
      let two = and_first _ _ three in
      and_true (is_one_to_three (length terms)) (list_all is_written_multiple terms) (and_first _ _ two)
      (list_all_true is_written_multiple (λ t. (is_multiplier t.factor && is_listed t.of (with_sides cell)) ≡ true) (term_written cell half_spaces) terms
      (all_of_test terms (and_second _ _ two)))
    where
      all_of_test : (ts : List Multiple) → list_all (λ t. is_multiplier t.factor && is_listed t.of (with_sides cell)) ts ≡ true → AllByRecursion (λ (t : Multiple). (is_multiplier t.factor && is_listed t.of (with_sides cell)) ≡ true) ts
      all_of_test [] h = tt
      all_of_test (t ∷ ts) h = (
        and_first (is_multiplier t.factor && is_listed t.of (with_sides cell)) (list_all (λ u. is_multiplier u.factor && is_listed u.of (with_sides cell)) ts) h,
        all_of_test ts (and_second (is_multiplier t.factor && is_listed t.of (with_sides cell)) (list_all (λ u. is_multiplier u.factor && is_listed u.of (with_sides cell)) ts) h),
      )

-- ---- the line that is wanted

-- what was read of a line passes
abbrev pub is_passing : ℤ → List HalfSpace → Option Slice → Bool
is_passing z cell None = false
is_passing z cell (Some s) = is_slice z cell s

module _ (found : SliceIsFound) (kept : RingIsKept) (short : RingIsShort) (z : ℤ) (height : IsHeight z) (p : Part) (half_spaces : AreKeptHalfSpaces p.cell) (few : length p.cell ≤ most_half_spaces) where
  -- the slice that is found is read again from its line
  pub found_again : slice_read (verdict_text (Verdict.slice (slice_of z p.cell))) ≡ Some (slice_of z p.cell)
  found_again = slice_again (slice_of z p.cell) (passing_is_written kept short z height p.cell half_spaces few (slice_of z p.cell) (found z p.cell height (are_half_spaces p.cell half_spaces)).passes)

  -- the line of the slice that is found shows a slice that passes
  found_passes : (line : List ℕ) → label_eq (verdict_text (Verdict.slice (slice_of z p.cell))) line ≡ true → is_passing z p.cell (slice_read line) ≡ true
  found_passes line e =
      subst (λ l. is_passing z p.cell (slice_read l) ≡ true) ((bytes_eq-Decides (verdict_text (Verdict.slice (slice_of z p.cell))) line).0 e)
      (subst (λ o. is_passing z p.cell o ≡ true) (sym found_again) (found z p.cell height (are_half_spaces p.cell half_spaces)).passes)

  -- a line is the one that is wanted exactly where it shows a slice that passes
  pub wanted_where_passing : (line : List ℕ) (rest : List (List ℕ)) → label_eq (slice_line z p (line ∷ rest)) line ≡ is_passing z p.cell (slice_read line)
  wanted_where_passing line rest = by_read (slice_read line) refl
    where
      other : is_passing z p.cell (slice_read line) ≡ false → label_eq (verdict_text (Verdict.slice (slice_of z p.cell))) line ≡ false
      other f = false_unless (label_eq (verdict_text (Verdict.slice (slice_of z p.cell))) line) (λ e. false_not_true (is_passing z p.cell (slice_read line)) (found_passes line e) f)

      by_test : (s : Slice) → slice_read line ≡ Some s → (b : Bool) → is_slice z p.cell s ≡ b → label_eq (verdict_text (Verdict.slice (elim b as (λ _. Slice) [ true ↦ s | false ↦ slice_of z p.cell ]))) line ≡ b
      by_test s e true f = read_says line s e
      by_test s e false f = other (ap (is_passing z p.cell) e ∙ f)

      by_read : (o : Option Slice) → slice_read line ≡ o → label_eq (verdict_text (Verdict.slice (slice_told z p.cell o))) line ≡ is_passing z p.cell o
      by_read None e = other (ap (is_passing z p.cell) e)
      by_read (Some s) e = by_test s e (is_slice z p.cell s) refl

  -- the next line is taken exactly where it shows a slice that passes
  next_where_passing : (t : Trail) → follow_line (slice_line z p t.lines) t.lines t ≡ taken_if (is_passing z p.cell (next_slice t.lines)) tt t
  next_where_passing t = by t.lines
    where
      by : (lines : List (List ℕ)) → follow_line (slice_line z p lines) lines t ≡ taken_if (is_passing z p.cell (next_slice lines)) tt t
      by [] = refl
      by (line ∷ lines) = ap (λ (b : Bool). taken_if b tt t) (wanted_where_passing line lines)

-- the lines of slices, one by one, each taken where it shows a slice that passes for its part
abbrev pub follow_passing : ℤ → List Part → Walk Trail (Unit {0})
follow_passing z [] = pass tt
follow_passing z (p ∷ ps) = do
  λ t. taken_if {A = Unit {0}} (is_passing z p.cell (next_slice t.lines)) tt t
  follow_passing z ps

module _ (found : SliceIsFound) (kept : RingIsKept) (short : RingIsShort) (z : ℤ) (height : IsHeight z) where
  -- so the lines of slices are taken
  pub each_where_passing : (ps : List Part) → AllByRecursion IsCheckedPart ps → (t : Trail) → follow_each z ps t ≡ follow_passing z ps t
  each_where_passing [] h t = refl
  each_where_passing (p ∷ ps) h t = ap (after_first (λ _. follow_each z ps)) (next_where_passing found kept short z height p h.0.half_spaces h.0.few t) ∙ by (is_passing z p.cell (next_slice t.lines)) (each_where_passing ps h.1 (taken t))
    where
      by : (b : Bool) → follow_each z ps (taken t) ≡ follow_passing z ps (taken t) → after_first (λ _. follow_each z ps) (taken_if {A = Unit {0}} b tt t) ≡ after_first (λ _. follow_passing z ps) (taken_if {A = Unit {0}} b tt t)
      by true e = e
      by false e = refl
