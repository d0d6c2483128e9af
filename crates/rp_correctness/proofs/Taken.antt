-- The lines that the check takes while it follows a row are proof lines.
use Rattle.std.proofs.Common.{◌≡◌, ℕ, ℤ, ◌+◌, Bool, true, false, ◌&&◌, ◌||◌, List, [], ◌∷◌, ◌++◌, length, drop, map, nat_le, Option, Some, None, refl, sym, ap, ◌∙◌, append_assoc}
use Rattle.std.specs.Prelude.{option_and_then}
use Rattle.std.proofs.lemmas.List.{map-append}
use Rattle.rp_algebra.proofs.Tests.{and_second}
use Rattle.rp_algebra.proofs.Options.{none_not_some, some_if}
use Rattle.rp_geometry.specs.Geometry.{HalfSpace, complement, is_listed, box_half_spaces, cube_half_spaces}
use Rattle.rp_geometry.specs.sets.Shape.{Part}
use Rattle.rp_geometry.specs.searches.Certificate.{is_inside_certificate, is_weak_point, is_outside_certificate}
use Rattle.rp_geometry.specs.searches.ProofLine.{ProofLine, in_line, out_line, at_line, apart_line, drop_line, box_line}
use Rattle.rp_language.specs.Name.{label_eq}
use Rattle.rp_semantics.specs.Walk.{limit_met, limit_told, line_wrong, Outcome, done, stopped, after_first, Walk, pass, stop, ◌>>=◌, most_tests}
use Rattle.rp_geometry.specs.parts.Parts.{most_half_spaces}
use Rattle.rp_reports.specs.Text.{proof_text}
use Rattle.rp_reports.specs.ProofText.{is_written, read_words, loose_words, if_spelled, proof_read}
use Rattle.rp_language.specs.Expression.{Command}
use Rattle.rp_model.specs.states.State.{StateOf}
use Rattle.rp_model.specs.commands.Row.{row}
use Rattle.rp_reports.specs.Check.{Trail, tells_limit, nothing_due, next_proof, taken, taken_if, follow_count, strict_by_line, follow_strict, weak_by_line, follow_weak, without, dropped_by, follow_drops, if_few, is_proper_box, box_by_line, side_by_line, follow_side, follow_sides, follow_made, part_if, follow_part, follow_slices, line_tester}
use Rattle.rp_states.proofs.Labels.{label_is}
use Rattle.rp_parametricity.proofs.OneTester.{OutcomeFact, TestsFulfil}
use Rattle.rp_parametricity.proofs.Audits.{each_row_fulfils}

-- ---- a proof line that is read is the line

-- a line that is read as a proof line is its text
pub proof_is_text : (line : List ℕ) (p : ProofLine) → proof_read line ≡ Some p → line ≡ proof_text p
unfolding proof_read
proof_is_text line p e = by (read_words (loose_words line)) e
  where
    by : (o : Option ProofLine) → option_and_then (if_spelled line) o ≡ Some p → line ≡ proof_text p
    by None f = absurd (none_not_some p f)
    by (Some q) f =
        let h = some_if (is_written q && label_eq (proof_text q) line) q p f in
        sym (label_is (proof_text q) line (and_second (is_written q) (label_eq (proof_text q) line) h.0)) ∙ ap proof_text h.1

-- ---- what was taken

-- the lines of the first trail are some proof lines and then those of the second
pub record Took (t u : Trail) : Type 0 where
  pub proofs : List ProofLine
  pub lines : t.lines ≡ map proof_text proofs ++ u.lines

-- nothing was taken
took_nothing : (t u : Trail) → t.lines ≡ u.lines → Took t u
took_nothing t u e = record { proofs = []; lines = e }

-- what was taken first and what was taken then
took_both : (t u v : Trail) → Took t u → Took u v → Took t v
took_both t u v h g = record {
  proofs = h.proofs ++ g.proofs;
  lines = h.lines ∙ ap (λ (ls : List (List ℕ)). map proof_text h.proofs ++ ls) g.lines
      ∙ sym (append_assoc (map proof_text h.proofs) (map proof_text g.proofs) v.lines)
      ∙ ap (λ (ls : List (List ℕ)). ls ++ v.lines) (sym (map-append proof_text h.proofs g.proofs));
}

-- the next line is taken, where it is a proof line
took_next : (t : Trail) (p : ProofLine) → next_proof t.lines ≡ Some p → Took t (taken t)
took_next t p e = record { proofs = p ∷ []; lines = by t.lines e }
  where
    by : (lines : List (List ℕ)) → next_proof lines ≡ Some p → lines ≡ proof_text p ∷ drop 1 lines
    by [] f = absurd (none_not_some p f)
    by (line ∷ lines) f = ap (λ (l : List ℕ). l ∷ lines) (proof_is_text line p f)

-- where a walk ends
abbrev pub trail_after : {A : Type 0} → Outcome Trail A → Trail
trail_after (done x u) = u
trail_after (stopped e u) = u

-- the walk takes proof lines
abbrev pub Takes : {A : Type 0} → Walk Trail A → Type 0
Takes walk = (t : Trail) → Took t (trail_after (walk t))

-- one walk and then the next
takes_then : {A B : Type 0} (next : A → Walk Trail B) (t : Trail) (o : Outcome Trail A) → Took t (trail_after o) → ((x : A) → Takes (next x)) → Took t (trail_after (after_first next o))
takes_then next t (done x u) h g = took_both t u (trail_after (next x u)) h (g x u)
takes_then next t (stopped e u) h g = h

-- that a walk takes proof lines, as a fact of what it comes to
abbrev taking : OutcomeFact Trail
taking = record {
  Of = λ t o. Took t (trail_after o);
  passes = λ x t. took_nothing t t refl;
  limits = λ t. took_nothing t t refl;
  ends = λ e t u h. h;
  goes_on = λ x t u o h g. took_both t u (trail_after o) h g;
}

-- one walk and then the next
then_takes : {A B : Type 0} (first : Walk Trail A) (next : A → Walk Trail B) → Takes first → ((x : A) → Takes (next x)) → Takes (first >>= next)
then_takes first next h g t = takes_then next t (first t) (h t) g

-- ---- tests

-- no line that is due
nothing_taken : (A : Type 0) (t : Trail) → Took t (trail_after (nothing_due {A = A} t))
nothing_taken A t = by (tells_limit t.lines)
  where
    by : (b : Bool) → Took t (trail_after (elim b as (λ _. Outcome Trail A) [ true ↦ stopped limit_told t | false ↦ stopped line_wrong t ]))
    by true = took_nothing t t refl
    by false = took_nothing t t refl

-- a line whose certificate passes, or not
taken_where : {A : Type 0} (b : Bool) (x : A) (t : Trail) (p : ProofLine) → next_proof t.lines ≡ Some p → Took t (trail_after (taken_if b x t))
taken_where true x t p e = took_next t p e
taken_where false x t p e = took_nothing t t refl

-- counting takes no line
count_takes : (n : ℕ) → Takes (follow_count n)
count_takes n t = by (nat_le (t.tests + n) most_tests)
  where
    by : (b : Bool) → Took t (trail_after (elim b as (λ _. Outcome Trail (Unit {0})) [ true ↦ done tt (record { lines = t.lines; number = t.number; tests = t.tests + n }) | false ↦ stopped limit_met t ]))
    by true = took_nothing t _ refl
    by false = took_nothing t t refl

-- a strict test
strict_takes : (cell : List HalfSpace) → Takes (follow_strict cell)
unfolding follow_strict
strict_takes cell t = by (next_proof t.lines) refl
  where
    by : (o : Option ProofLine) → next_proof t.lines ≡ o → Took t (trail_after (strict_by_line cell o t))
    by None e = nothing_taken _ t
    by (Some (in_line points)) e = taken_where (is_inside_certificate cell points) true t (in_line points) e
    by (Some (out_line terms)) e = taken_where (is_outside_certificate true cell terms) false t (out_line terms) e
    by (Some (at_line p)) e = nothing_taken _ t
    by (Some (apart_line terms)) e = nothing_taken _ t
    by (Some (drop_line h terms)) e = nothing_taken _ t
    by (Some (box_line b)) e = nothing_taken _ t

-- a weak test
weak_takes : (cell : List HalfSpace) → Takes (follow_weak cell)
unfolding follow_weak
weak_takes cell t = by (next_proof t.lines) refl
  where
    by : (o : Option ProofLine) → next_proof t.lines ≡ o → Took t (trail_after (weak_by_line cell o t))
    by None e = nothing_taken _ t
    by (Some (in_line points)) e = nothing_taken _ t
    by (Some (out_line terms)) e = nothing_taken _ t
    by (Some (at_line p)) e = taken_where (is_weak_point cell p) true t (at_line p) e
    by (Some (apart_line terms)) e = taken_where (is_outside_certificate false cell terms) false t (apart_line terms) e
    by (Some (drop_line h terms)) e = nothing_taken _ t
    by (Some (box_line b)) e = nothing_taken _ t

-- ---- a part test

-- lines that drop half-spaces
drops_take : (lines : List (List ℕ)) (kept : List HalfSpace) (t : Trail) → t.lines ≡ lines → Took t (trail_after (follow_drops lines kept t))
drops_take [] kept t e = took_nothing t t refl
drops_take (line ∷ lines) kept t e = by (λ h. drops_take lines (without h kept) (taken t) (ap (λ (ls : List (List ℕ)). drop 1 ls) e)) (proof_read line) refl (dropped_by kept (proof_read line)) refl
  where
    by : ((h : HalfSpace) → Took (taken t) (trail_after (follow_drops lines (without h kept) (taken t)))) → (p : Option ProofLine) → proof_read line ≡ p → (o : Option HalfSpace) → dropped_by kept p ≡ o → Took t (trail_after (elim o as (λ _. Outcome Trail (List HalfSpace)) [ Some h ↦ follow_drops lines (without h kept) (taken t) | None ↦ done kept t ]))
    by further p f None g = took_nothing t t refl
    by further None f (Some h) g = absurd (none_not_some h g)
    by further (Some p) f (Some h) g = took_both t (taken t) (trail_after (follow_drops lines (without h kept) (taken t))) (took_next t p (ap next_proof e ∙ f)) (further h)

-- a limit on half-spaces
few_takes : (kept : List HalfSpace) → Takes (if_few kept)
few_takes kept t = by (nat_le (length kept) most_half_spaces)
  where
    by : (b : Bool) → Took t (trail_after ((elim b as (λ _. Walk Trail (Unit {0})) [ true ↦ pass tt | false ↦ stop limit_met ]) t))
    by true = took_nothing t t refl
    by false = took_nothing t t refl

-- the box
box_takes : (t : Trail) → Took t (trail_after (box_by_line (next_proof t.lines) t))
box_takes t = by (next_proof t.lines) refl
  where
    by : (o : Option ProofLine) → next_proof t.lines ≡ o → Took t (trail_after (box_by_line o t))
    by None e = nothing_taken _ t
    by (Some (in_line points)) e = nothing_taken _ t
    by (Some (out_line terms)) e = nothing_taken _ t
    by (Some (at_line p)) e = nothing_taken _ t
    by (Some (apart_line terms)) e = nothing_taken _ t
    by (Some (drop_line h terms)) e = nothing_taken _ t
    by (Some (box_line b)) e = taken_where (is_proper_box b) b t (box_line b) e

-- the certificate of a side
side_takes : (kept : List HalfSpace) (side : HalfSpace) → Takes (follow_side kept side)
side_takes kept side t = by (is_listed side kept || is_listed side cube_half_spaces)
  where
    by_line : (o : Option ProofLine) → next_proof t.lines ≡ o → Took t (trail_after (side_by_line kept side o t))
    by_line None e = nothing_taken _ t
    by_line (Some (in_line points)) e = nothing_taken _ t
    by_line (Some (out_line terms)) e = taken_where (is_outside_certificate true (kept ++ complement side ∷ []) terms) tt t (out_line terms) e
    by_line (Some (at_line p)) e = nothing_taken _ t
    by_line (Some (apart_line terms)) e = nothing_taken _ t
    by_line (Some (drop_line h terms)) e = nothing_taken _ t
    by_line (Some (box_line b)) e = nothing_taken _ t

    by : (b : Bool) → Took t (trail_after (elim b as (λ _. Outcome Trail (Unit {0})) [ true ↦ done tt t | false ↦ side_by_line kept side (next_proof t.lines) t ]))
    by true = took_nothing t t refl
    by false = by_line (next_proof t.lines) refl

-- the certificates of the sides
sides_take : (kept sides : List HalfSpace) → Takes (follow_sides kept sides)
sides_take kept [] = λ t. took_nothing t t refl
sides_take kept (side ∷ sides) = then_takes (follow_side kept side) (λ _. follow_sides kept sides) (side_takes kept side) (λ _. sides_take kept sides)

-- the part that is made
made_takes : (cell : List HalfSpace) → Takes (follow_made cell)
made_takes cell =
    then_takes (λ t. follow_drops t.lines cell t) _ (λ t. drops_take t.lines cell t refl) λ kept.
    then_takes (if_few kept) _ (few_takes kept) λ _.
    then_takes (λ t. box_by_line (next_proof t.lines) t) _ box_takes λ b.
    then_takes (follow_sides kept (box_half_spaces b)) _ (sides_take kept (box_half_spaces b)) λ _ t. took_nothing t t refl

-- a part test
part_takes : (cell : List HalfSpace) → Takes (follow_part cell)
unfolding follow_part
part_takes cell = then_takes (follow_strict cell) (λ inside. part_if inside cell) (strict_takes cell) by
  where
    by : (b : Bool) → Takes (part_if b cell)
    by true = made_takes cell
    by false = λ t. took_nothing t t refl

-- the slices that are shown
slices_take : (z : ℤ) (ps : List Part) → Takes (follow_slices z ps)
unfolding follow_slices
slices_take z ps t = took_nothing t t refl

-- each test of the check
tests_take : TestsFulfil taking line_tester
tests_take = record { count = count_takes; strict = strict_takes; weak = weak_takes; part = part_takes }

-- the row of a command takes proof lines, whatever it comes to
pub row_takes : {S : Type 0} (s : StateOf S) (c : Command) → Takes (row line_tester s c)
row_takes s c = each_row_fulfils taking line_tester tests_take slices_take (λ _ e t. took_nothing t t refl) s c
