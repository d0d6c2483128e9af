-- A line is read as one that shows a slice exactly where it is the text of a slice that keeps its bounds.
use Rattle.std.proofs.Common.{◌≡◌, ℕ, ◌≤◌, true, ◌&&◌, ℤ, List, [], ◌∷◌, ◌++◌, length, Option, Some, None, refl, sym, ap, ◌∙◌, subst, arith, append_assoc}
use Rattle.std.specs.Prelude.{codes, option_map, option_and_then}
use Rattle.std.specs.List.{list_all}
use Rattle.std.specs.Fmt.{signed_decimal}
use Rattle.std.proofs.lemmas.Slice.Eq.{bytes_eq-Decides}
use Rattle.rp_algebra.proofs.Options.{none_not_some, same_some, some_if}
use Rattle.rp_algebra.proofs.Tests.{and_first, and_second, and_true}
use Rattle.rp_geometry.specs.Geometry.{RationalPoint, is_within_bound, cube_bound}
use Rattle.rp_geometry.specs.searches.Certificate.{Multiple, is_one_to_four}
use Rattle.rp_geometry.specs.sections.Trace.{Trace, trace_of}
use Rattle.rp_geometry.specs.sections.Ring.{RingStep}
use Rattle.rp_geometry.specs.sections.Flat.{is_one_to_three}
use Rattle.rp_geometry.specs.sections.Slice.{Slice, ring, flat}
use Rattle.rp_language.specs.Name.{label_eq}
use Rattle.rp_language.specs.Grammar.{space}
use Rattle.rp_model.specs.commands.Verdict.{Verdict}
use Rattle.rp_reports.specs.Text.{in_parentheses, point_text, term_text, trace_text, step_text, verdict_text}
use Rattle.rp_reports.specs.ProofText.{is_written_point, is_written_multiple, loose_words}
use Rattle.rp_reports.specs.SliceText.{trace_bound, is_written_trace, is_written_step, is_three_to_36, is_written_slice, slice_of_words, slice_if_spelled, slice_read}
use Rattle.rp_checker_completeness.proofs.SlicesAgain.{slice_again}
use Rattle.rp_text.specs.Readers.{Taker, ◌>>=◌, gives, gives_some, the_word, number_before, point, term, spaced_item, items, few_items}
use Rattle.rp_text.specs.SliceReaders.{three_numbers, written_edge, edge, step_of, step, if_ring, ring_steps, if_flat, flat_terms, slice}
use Rattle.rp_text.proofs.ReaderLaws.{ReadsExactly, IsShort, steps, onward, kept_true, led, made, word_sound, number_sound, number_complete, within_short, point_reads, term_reads, spaced_reads, items_sound, items_complete, few_sound, few_complete}
use Rattle.rp_text.proofs.ProofLaws.{word_or}

-- ---- edges

-- three words in parentheses, from the front
three_text : (a b d rest : List ℕ) → in_parentheses (a ∷ b ∷ d ∷ []) ++ rest ≡ 40 ∷ (a ++ (space ∷ (b ++ (space ∷ (d ++ (41 ∷ rest))))))
three_text a b d rest = simp append_assoc refl

-- what is read behind two numbers
abbrev third_of : ℤ → ℤ → Taker (ℤ × ℤ × ℤ)
third_of a b = number_before 41 >>= λ d. gives (a, b, d)

-- what is read behind one number
abbrev second_of : ℤ → Taker (ℤ × ℤ × ℤ)
second_of a = number_before space >>= third_of a

-- what is read behind the bracket
abbrev first_of : Unit {0} → Taker (ℤ × ℤ × ℤ)
first_of u = number_before space >>= second_of

-- three numbers that were read
three_sound : (line : List ℕ) (q : ℤ × ℤ × ℤ) (rest : List ℕ) → three_numbers line ≡ Some (q, rest) → line ≡ trace_text (trace_of q.0 q.1 q.2) ++ rest
unfolding three_numbers
three_sound line q rest e =
    let o = steps (the_word (codes "(")) first_of line q rest e in
    let a = steps (number_before space) second_of o.between q rest o.after in
    let b = steps (number_before space) (third_of a.value) a.between q rest a.after in
    let d = steps (number_before 41) (λ (d : ℤ). gives (a.value, b.value, d)) b.between q rest b.after in
    let same : ((a.value, b.value, d.value), d.between) ≡ (q, rest) = same_some ((a.value, b.value, d.value), d.between) (q, rest) d.after in
    let i = number_sound space o.between a.value a.between a.before in
    let j = number_sound space a.between b.value b.between b.before in
    let k = number_sound 41 b.between d.value d.between d.before in
    word_sound (codes "(") line o.value o.between o.before
    ∙ ap (λ (t : List ℕ). 40 ∷ t) (i.0 ∙ ap (λ (t : List ℕ). signed_decimal a.value ++ (space ∷ t)) (j.0 ∙ ap (λ (t : List ℕ). signed_decimal b.value ++ (space ∷ t)) k.0))
    ∙ sym (three_text (signed_decimal a.value) (signed_decimal b.value) (signed_decimal d.value) d.between)
    ∙ ap (λ (r : (ℤ × ℤ × ℤ) × List ℕ). trace_text (trace_of r.0.0 r.0.1 r.0.2) ++ r.1) same

-- three short numbers in parentheses are read
three_complete : (t : Trace) (rest : List ℕ) → IsShort t.a → IsShort t.b → IsShort t.d → three_numbers (trace_text t ++ rest) ≡ Some ((t.a, t.b, t.d), rest)
unfolding three_numbers
three_complete t rest a b d =
    let t2 : List ℕ = signed_decimal t.d ++ (41 ∷ rest) in
    let t1 : List ℕ = signed_decimal t.b ++ (space ∷ t2) in
    let t0 : List ℕ = signed_decimal t.a ++ (space ∷ t1) in
    ap (the_word (codes "(") >>= first_of) (three_text (signed_decimal t.a) (signed_decimal t.b) (signed_decimal t.d) rest)
    ∙ onward (the_word (codes "(")) first_of (40 ∷ t0) tt t0 refl
    ∙ onward (number_before space) second_of t0 t.a t1 (number_complete space refl t.a t1 a)
    ∙ onward (number_before space) (third_of t.a) t1 t.b t2 (number_complete space refl t.b t2 b)
    ∙ onward (number_before 41) (λ (v : ℤ). gives (t.a, t.b, v)) t2 t.d rest (number_complete 41 refl t.d rest d)

-- edges are read
edge_reads : ReadsExactly trace_text is_written_trace edge
unfolding edge
edge_reads = record {
  sound = λ line x rest e.
      let s = steps three_numbers next line x rest e in
      let made_of : Trace = trace_of s.value.0 s.value.1 s.value.2 in
      let h = made (λ (y : Trace). (y, s.between)) (written_edge made_of) (x, rest) s.after in
      let k = some_if (is_written_trace made_of) made_of h.0 h.1 in
      let is : made_of ≡ x = k.1 ∙ ap (λ (r : Trace × List ℕ). r.0) h.2 in
      let behind_it : s.between ≡ rest = ap (λ (r : Trace × List ℕ). r.1) h.2 in (
        three_sound line s.value s.between s.before ∙ (λ i. trace_text (is i) ++ behind_it i),
        subst (λ (y : Trace). is_written_trace y ≡ true) is k.0,
      );
  complete = λ x rest e.
      let ab = and_first (is_within_bound cube_bound x.a && is_within_bound cube_bound x.b) (is_within_bound trace_bound x.d) e in
      onward three_numbers next (trace_text x ++ rest) (x.a, x.b, x.d) rest
      (three_complete x rest
      (within_short 16777216 (omega arith) x.a (and_first (is_within_bound cube_bound x.a) (is_within_bound cube_bound x.b) ab))
      (within_short 16777216 (omega arith) x.b (and_second (is_within_bound cube_bound x.a) (is_within_bound cube_bound x.b) ab))
      (within_short 1125899906842624 (omega arith) x.d (and_second (is_within_bound cube_bound x.a && is_within_bound cube_bound x.b) (is_within_bound trace_bound x.d) e)))
      ∙ ap (λ (o : Option Trace). gives_some o rest) (kept_true (is_written_trace x) x e);
}
  where
    next : ℤ × ℤ × ℤ → Taker Trace
    next q = gives_some (written_edge (trace_of q.0 q.1 q.2))

-- ---- steps

-- what is read behind an edge
abbrev behind_edge : Trace → Taker RingStep
behind_edge t = spaced_item point >>= λ p. gives (step_of t p)

-- steps are read
pub step_reads : ReadsExactly step_text is_written_step step
unfolding step
step_reads = record {
  sound = λ line x rest e.
      let s = steps edge behind_edge line x rest e in
      let u = steps (spaced_item point) (λ (p : RationalPoint). gives (step_of s.value p)) s.between x rest s.after in
      let same : (step_of s.value u.value, u.between) ≡ (x, rest) = same_some (step_of s.value u.value, u.between) (x, rest) u.after in
      let one = edge_reads.sound line s.value s.between s.before in
      let two = (spaced_reads point_text is_written_point point point_reads).sound s.between u.value u.between u.before in (
        one.0 ∙ ap (λ (t : List ℕ). trace_text s.value ++ t) two.0 ∙ sym (step_front s.value u.value u.between) ∙ ap (λ (r : RingStep × List ℕ). step_text r.0 ++ r.1) same,
        subst (λ (y : RingStep). is_written_step y ≡ true) (ap (λ (r : RingStep × List ℕ). r.0) same) (and_true (is_written_trace s.value) (is_written_point u.value) one.1 two.1),
      );
  complete = λ x rest e.
      let tail : List ℕ = (space ∷ point_text x.end) ++ rest in
      ap (edge >>= behind_edge) (step_front x.edge x.end rest)
      ∙ onward edge behind_edge (trace_text x.edge ++ tail) x.edge tail (edge_reads.complete x.edge tail (and_first (is_written_trace x.edge) (is_written_point x.end) e))
      ∙ onward (spaced_item point) (λ (p : RationalPoint). gives (step_of x.edge p)) tail x.end rest ((spaced_reads point_text is_written_point point point_reads).complete x.end rest (and_second (is_written_trace x.edge) (is_written_point x.end) e));
}
  where
    step_front : (t : Trace) (p : RationalPoint) (rest : List ℕ) → step_text (step_of t p) ++ rest ≡ trace_text t ++ ((space ∷ point_text p) ++ rest)
    step_front t p rest = append_assoc (trace_text t ++ codes " ") (point_text p) rest ∙ append_assoc (trace_text t) (codes " ") (point_text p ++ rest)

-- ---- slices

-- the line is the text of a slice that keeps its bounds
abbrev Spells : List ℕ → Slice → Type 0
Spells line s = (line ≡ verdict_text (Verdict.slice s)) × (is_written_slice s ≡ true)

-- the steps of a ring that were read
ring_sound : (line rest : List ℕ) (s : Slice) → line ≡ codes "= ring" ++ rest → option_map ring (ring_steps rest) ≡ Some s → Spells line s
unfolding is_written_slice
ring_sound line rest s e f =
    let m = made ring (ring_steps rest) s f in
    let l = led if_ring (items step 36 rest) m.0 m.1 in
    let k = some_if (is_three_to_36 (length l.value)) l.value m.0 l.leads in
    let h = items_sound step_text is_written_step step step_reads 36 rest l.value l.found in
    let is : ring l.value ≡ s = ap ring k.1 ∙ m.2 in
    (e ∙ ap (λ (t : List ℕ). codes "= ring" ++ t) h.text_is ∙ ap (λ (x : Slice). verdict_text (Verdict.slice x)) is, subst (λ (x : Slice). is_written_slice x ≡ true) is (and_true (is_three_to_36 (length l.value)) (list_all is_written_step l.value) k.0 h.all_fit))

-- the multiples of a flat certificate that were read
flat_sound : (line rest : List ℕ) (s : Slice) → line ≡ codes "= flat" ++ rest → option_map flat (flat_terms rest) ≡ Some s → Spells line s
unfolding is_written_slice
flat_sound line rest s e f =
    let m = made flat (flat_terms rest) s f in
    let l = led if_flat (few_items term rest) m.0 m.1 in
    let k = some_if (is_one_to_three (length l.value)) l.value m.0 l.leads in
    let h = few_sound term_text is_written_multiple term term_reads rest l.value l.found in
    let is : flat l.value ≡ s = ap flat k.1 ∙ m.2 in
    (e ∙ ap (λ (t : List ℕ). codes "= flat" ++ t) h.0 ∙ ap (λ (x : Slice). verdict_text (Verdict.slice x)) is, subst (λ (x : Slice). is_written_slice x ≡ true) is (and_true (is_one_to_three (length l.value)) (list_all is_written_multiple l.value) k.0 (and_second (is_one_to_four (length l.value)) (list_all is_written_multiple l.value) h.1)))

-- a slice that was read
slice_sound : (line : List ℕ) (s : Slice) → slice line ≡ Some s → Spells line s
unfolding slice
slice_sound line s e =
    word_or (codes "= ring") line (λ (rest : List ℕ). option_map ring (ring_steps rest)) _ s (Spells line s) e (λ rest. ring_sound line rest s) (λ e.
    word_or (codes "= flat") line (λ (rest : List ℕ). option_map flat (flat_terms rest)) None s (Spells line s) e (λ rest. flat_sound line rest s) (λ e. absurd (none_not_some s e)))

-- a count
at_most_36 : (n : ℕ) → is_three_to_36 n ≡ true → n ≤ 36
at_most_36 n e = grind arith

-- a count of at most three
one_to_four : (n : ℕ) → is_one_to_three n ≡ true → is_one_to_four n ≡ true
one_to_four n e = grind arith

-- the text of a slice that keeps its bounds is read
slice_complete : (s : Slice) → is_written_slice s ≡ true → slice (verdict_text (Verdict.slice s)) ≡ Some s
unfolding slice is_written_slice
slice_complete (ring xs) e =
    let count = and_first (is_three_to_36 (length xs)) (list_all is_written_step xs) e in
    ap (λ (o : Option (List RingStep)). option_map ring (option_and_then if_ring o)) (items_complete step_text is_written_step step step_reads 36 xs (and_second (is_three_to_36 (length xs)) (list_all is_written_step xs) e) (at_most_36 (length xs) count))
    ∙ ap (option_map ring) (kept_true (is_three_to_36 (length xs)) xs count)
slice_complete (flat ts) e =
    let count = and_first (is_one_to_three (length ts)) (list_all is_written_multiple ts) e in
    ap (λ (o : Option (List Multiple)). option_map flat (option_and_then if_flat o)) (few_complete term_text is_written_multiple term term_reads ts (and_true (is_one_to_four (length ts)) (list_all is_written_multiple ts) (one_to_four (length ts) count) (and_second (is_one_to_three (length ts)) (list_all is_written_multiple ts) e)))
    ∙ ap (option_map flat) (kept_true (is_one_to_three (length ts)) ts count)

-- what the loose reader takes is a text that keeps its bounds
read_spells : (line : List ℕ) (s : Slice) → slice_read line ≡ Some s → Spells line s
unfolding slice_read
read_spells line s e = by (slice_of_words (loose_words line)) e
  where
    by : (o : Option Slice) → option_and_then (slice_if_spelled line) o ≡ Some s → Spells line s
    by None e = absurd (none_not_some s e)
    by (Some t) e =
        let h = some_if (is_written_slice t && label_eq (verdict_text (Verdict.slice t)) line) t s e in
        let same : verdict_text (Verdict.slice t) ≡ line = (bytes_eq-Decides (verdict_text (Verdict.slice t)) line).0 (and_second (is_written_slice t) (label_eq (verdict_text (Verdict.slice t)) line) h.0) in
        (sym same ∙ ap (λ (x : Slice). verdict_text (Verdict.slice x)) h.1, subst (λ (r : Slice). is_written_slice r ≡ true) h.1 (and_first (is_written_slice t) (label_eq (verdict_text (Verdict.slice t)) line) h.0))

-- the two readers read the same
pub slice_is_read : (line : List ℕ) → slice line ≡ slice_read line
slice_is_read line = by (slice line) (slice_read line) refl refl
  where
    by : (o r : Option Slice) → slice line ≡ o → slice_read line ≡ r → o ≡ r
    by None None f g = refl
    by (Some s) r f g = let h = slice_sound line s f in sym (slice_again s h.1) ∙ ap slice_read (sym h.0) ∙ g
    by None (Some s) f g = let h = read_spells line s g in sym f ∙ ap slice h.0 ∙ slice_complete s h.1
