-- The lines of a report that the check takes answer rightly, whoever wrote them.
use Rattle.std.proofs.Common.{◌≡◌, ℕ, ◌≤◌, ℤ, ◌*ℤ◌, ◌≤ℤ◌, ◌<ℤ◌, Bool, true, false, ◌&&◌, ◌||◌, ⊎_elim, List, [], ◌∷◌, ◌++◌, length, drop, refl, sym, ◌∙◌, arith}
use Rattle.std.specs.Prelude.{◌↔◌, IsTrue, Option, Some, None, nat_le, int_le, int_lt}
use Rattle.std.specs.List.{AllByRecursion}
use Rattle.std.proofs.lemmas.Int.{ints}
use Rattle.std.proofs.lemmas.Bool.{or_cases}
use Rattle.rp_algebra.proofs.Listed.{list_all_is}
use Rattle.rp_algebra.proofs.Tests.{and_first, and_second, and_true, at_most_is, false_not_true}
use Rattle.rp_geometry.specs.Geometry.{RationalPoint, HalfSpace, IntegerBox, IsPoint, IsKeptHalfSpace, holds, all_hold, complement, is_cube_point, is_listed, cube_half_spaces, box_half_spaces, is_box_in_bounds, is_between}
use Rattle.rp_geometry.specs.sets.Shape.{Part, passes, shape_of_cell, shape_of_parts}
use Rattle.rp_geometry.specs.sets.Sets.{IsNonempty}
use Rattle.rp_geometry.specs.searches.Certificate.{is_inside_certificate, is_weak_point, is_outside_certificate}
use Rattle.rp_geometry.specs.searches.ProofLine.{ProofLine, in_line, out_line, at_line, apart_line, drop_line, box_line}
use Rattle.rp_reports.specs.ProofText.{proof_read}
use Rattle.rp_geometry.specs.parts.PartTest.{whole_part}
use Rattle.rp_geometry.specs.parts.LeastBox.{IsInBox, BoxHoldsCell}
use Rattle.rp_geometry.specs.laws.CellLaws.{IsSolution}
use Rattle.rp_semantics.specs.Walk.{Outcome, done, stopped, limit_told, line_wrong, pass, stop, limit_met, Walk}
use Rattle.rp_geometry.specs.parts.Parts.{most_half_spaces, AreKeptHalfSpaces, IsCheckedPart, AreParts}
use Rattle.rp_reports.specs.Check.{Trail, tells_limit, nothing_due, next_proof, taken, taken_if, strict_by_line, follow_strict, weak_by_line, follow_weak, without, dropped_by, follow_drops, if_few, box_by_line, is_proper_box, side_by_line, follow_side, follow_sides, follow_made, part_if, follow_part, next_slice, slice_told, slices_told, follow_slices}
use Rattle.rp_semantics.specs.FormLaws.{IfDone, IsMadeOf, ArePassingSlices}
use Rattle.rp_semantics.proofs.Outcomes.{weaker_done, then_done}
use Rattle.rp_geometry.specs.sections.Trace.{IsHeight}
use Rattle.rp_geometry.specs.sections.Slice.{Slice, is_slice, slice_of}
use Rattle.rp_slice.proofs.RingFound.{slice_is_found_spec}
use Rattle.rp_reports.specs.laws.RowLaws.{LineTesterIsRight}
use Rattle.rp_geometry.proofs.Boxes.{box_holds}
use Rattle.rp_convex.proofs.Certified.{inside_certificate_shows_member_spec}
use Rattle.rp_convex.proofs.Cube.{cube_half_spaces_hold_cube_spec}
use Rattle.rp_convex.proofs.Held.{in_cell_is_member}
use Rattle.rp_convex.proofs.Tests.{listed-to}
use Rattle.rp_geometry.proofs.Members.{member_in_cube, member_passes}
use Rattle.rp_geometry.proofs.Kept.{are_half_spaces, kept_box, part_is_checked}
use Rattle.rp_forms.proofs.Alike.{Alike, same_of_alike, one_part}
use Rattle.rp_forms.proofs.First.{none_made}
use Rattle.rp_forms.proofs.Whole.{whole_is_part}
use Rattle.rp_row_soundness.proofs.Written.{next_is_written, written_point, written_box}
use Rattle.rp_row_soundness.proofs.Dropped.{no_member, no_weak_point, shown, without_kept, IsDropped, dropped_is, dropped_alike}

-- ---- lines

-- a line that is taken passes its test
taken_told : {A : Type 0} (b : Bool) (x : A) (Q : A → Type 0) (t : Trail) → (b ≡ true → Q x) → IfDone (taken_if b x t) Q
taken_told true x Q t h = h refl
taken_told false x Q t h = tt

-- the walk stops, either way
stops : {A : Type 0} (Q : A → Type 0) (t : Trail) (b : Bool) → IfDone (elim b as (λ _. Outcome Trail A) [ true ↦ stopped limit_told t | false ↦ stopped line_wrong t ]) Q
stops Q t true = tt
stops Q t false = tt

-- a line that does not fit stops the walk
nothing_told : {A : Type 0} (Q : A → Type 0) (t : Trail) → IfDone (nothing_due t) Q
nothing_told Q t = stops Q t (tells_limit t.lines)

-- ---- a strict and a weak test

-- found or not, by the line
strict_told : (cell : List HalfSpace) → AreKeptHalfSpaces cell → (o : Option ProofLine) (t : Trail) → IfDone (strict_by_line cell o t) (λ found. IsTrue found ↔ IsNonempty (shape_of_cell cell))
strict_told cell k (Some (in_line points)) t =
    taken_told (is_inside_certificate cell points) true (λ found. IsTrue found ↔ IsNonempty (shape_of_cell cell)) t (λ e. (λ _. inside_certificate_shows_member_spec cell points e, λ _. refl))
strict_told cell k (Some (out_line terms)) t =
    taken_told (is_outside_certificate true cell terms) false (λ found. IsTrue found ↔ IsNonempty (shape_of_cell cell)) t
    (λ e. (λ f. absurd (false_not_true false f refl), λ n. absurd (no_member cell terms (are_half_spaces cell k) e n)))
strict_told cell k (Some (at_line p)) t = nothing_told _ t
strict_told cell k (Some (apart_line terms)) t = nothing_told _ t
strict_told cell k (Some (drop_line h terms)) t = nothing_told _ t
strict_told cell k (Some (box_line b)) t = nothing_told _ t
strict_told cell k None t = nothing_told _ t

-- a strict test by the next line
follow_strict_told : (cell : List HalfSpace) → AreKeptHalfSpaces cell → (t : Trail) → IfDone (follow_strict cell t) (λ found. IsTrue found ↔ IsNonempty (shape_of_cell cell))
unfolding follow_strict
follow_strict_told cell k t = strict_told cell k (next_proof t.lines) t

-- the weak system of the cell has a point
abbrev HasWeakPoint : List HalfSpace → Type 0
HasWeakPoint cell = (p : RationalPoint) × IsSolution false cell p

-- found or not, by the line
weak_told : (cell : List HalfSpace) → AreKeptHalfSpaces cell → (t : Trail) (o : Option ProofLine) → next_proof t.lines ≡ o → IfDone (weak_by_line cell o t) (λ found. IsTrue found ↔ HasWeakPoint cell)
weak_told cell k t (Some (at_line p)) r =
    taken_told (is_weak_point cell p) true (λ found. IsTrue found ↔ HasWeakPoint cell) t (λ e. (λ _. (p, (written_point p (next_is_written t.lines (at_line p) r), e)), λ _. refl))
weak_told cell k t (Some (apart_line terms)) r =
    taken_told (is_outside_certificate false cell terms) false (λ found. IsTrue found ↔ HasWeakPoint cell) t
    (λ e. (λ f. absurd (false_not_true false f refl), λ n. absurd (no_weak_point cell terms (are_half_spaces cell k) e n)))
weak_told cell k t (Some (in_line points)) r = nothing_told _ t
weak_told cell k t (Some (out_line terms)) r = nothing_told _ t
weak_told cell k t (Some (drop_line h terms)) r = nothing_told _ t
weak_told cell k t (Some (box_line b)) r = nothing_told _ t
weak_told cell k t None r = nothing_told _ t

-- a weak test by the next line
follow_weak_told : (cell : List HalfSpace) → AreKeptHalfSpaces cell → (t : Trail) → IfDone (follow_weak cell t) (λ found. IsTrue found ↔ HasWeakPoint cell)
unfolding follow_weak
follow_weak_told cell k t = weak_told cell k t (next_proof t.lines) refl

-- ---- a part

-- half-spaces as they are kept, with the members of the cell
pub record IsSlimOf (cell kept : List HalfSpace) : Type 0 where
  pub half_spaces : AreKeptHalfSpaces kept
  pub alike : Alike (shape_of_cell kept) (shape_of_cell cell)

-- the rest of the lines, where one is dropped
abbrev drop_or_stay : List (List ℕ) → List HalfSpace → Trail → Option HalfSpace → Outcome Trail (List HalfSpace)
drop_or_stay lines kept t o = elim o [ Some h ↦ follow_drops lines (without h kept) (taken t) | None ↦ done kept t ]

-- lines that drop half-spaces keep the members
follow_drops_told : (cell : List HalfSpace) (lines : List (List ℕ)) (kept : List HalfSpace) (t : Trail) → IsSlimOf cell kept → IfDone (follow_drops lines kept t) (IsSlimOf cell)
follow_drops_told cell [] kept t s = s
follow_drops_told cell (line ∷ lines) kept t s =
    one_told cell lines kept t s (λ h j. follow_drops_told cell lines (without h kept) (taken t) j) (dropped_by kept (proof_read line)) (λ h e. dropped_is kept (proof_read line) h e)
  where
    one_told : (cell : List HalfSpace) (lines : List (List ℕ)) (kept : List HalfSpace) (t : Trail) → IsSlimOf cell kept → ((h : HalfSpace) → IsSlimOf cell (without h kept) → IfDone (follow_drops lines (without h kept) (taken t)) (IsSlimOf cell))
        → (o : Option HalfSpace) → ((h : HalfSpace) → o ≡ Some h → IsDropped kept h) → IfDone (drop_or_stay lines kept t o) (IsSlimOf cell)
    one_told cell lines kept t s rest None dropped = s
    one_told cell lines kept t s rest (Some h) dropped =
        rest h (record { half_spaces = without_kept h kept s.half_spaces; alike = λ p w c. dropped_alike kept h s.half_spaces (dropped h refl) p w c ∙ s.alike p w c })

-- few half-spaces, by the test
abbrev few_by : Bool → Walk Trail (Unit {0})
few_by b = elim b [ true ↦ pass tt | false ↦ stop limit_met ]

-- what is kept is few
if_few_told : (kept : List HalfSpace) (t : Trail) → IfDone (if_few kept t) (λ _. length kept ≤ most_half_spaces)
if_few_told kept t = by_test (nat_le (length kept) most_half_spaces) refl
  where
    at_most : (m : ℕ) → nat_le m most_half_spaces ≡ true → m ≤ most_half_spaces
    at_most m e = grind arith

    by_test : (b : Bool) → nat_le (length kept) most_half_spaces ≡ b → IfDone (few_by b t) (λ _. length kept ≤ most_half_spaces)
    by_test true e = at_most (length kept) e
    by_test false e = tt

-- the box of a line keeps its bounds
box_told : (t : Trail) (o : Option ProofLine) → next_proof t.lines ≡ o → IfDone (box_by_line o t) (λ b. is_box_in_bounds b ≡ true)
box_told t (Some (box_line b)) r = taken_told (is_proper_box b) b (λ b. is_box_in_bounds b ≡ true) t (λ _. written_box b (next_is_written t.lines (box_line b) r))
box_told t (Some (in_line points)) r = nothing_told _ t
box_told t (Some (out_line terms)) r = nothing_told _ t
box_told t (Some (at_line p)) r = nothing_told _ t
box_told t (Some (apart_line terms)) r = nothing_told _ t
box_told t (Some (drop_line h terms)) r = nothing_told _ t
box_told t None r = nothing_told _ t

-- the half-space holds the points of the cell
abbrev Holds : List HalfSpace → HalfSpace → Type 0
Holds cell h = (p : RationalPoint) → IsPoint p → is_cube_point p ≡ true → passes (shape_of_cell cell) p ≡ true → holds h p ≡ true

-- a half-space of the cell holds its points
holds_of_cell : (cell : List HalfSpace) (h : HalfSpace) → is_listed h cell ≡ true → Holds cell h
holds_of_cell cell h l p w c m = listed-to (λ g. holds g p ≡ true) h cell l (all_hold_each cell p m)
  where
    all_hold_each : (cell : List HalfSpace) (p : RationalPoint) → passes (shape_of_cell cell) p ≡ true → AllByRecursion (λ g. holds g p ≡ true) cell
    all_hold_each [] p m = tt
    all_hold_each (g ∷ cell) p m = (and_first (holds g p) (passes (shape_of_cell cell) p) m, all_hold_each cell p (and_second (holds g p) (passes (shape_of_cell cell) p) m))

-- a half-space of the cube holds all points
holds_of_cube : (cell : List HalfSpace) (h : HalfSpace) → is_listed h cube_half_spaces ≡ true → Holds cell h
holds_of_cube cell h l p w c m = listed-to (λ g. holds g p ≡ true) h cube_half_spaces l (list_all_is (λ g. holds g p) (λ g. holds g p ≡ true) (λ g e. e) cube_half_spaces (cube_half_spaces_hold_cube_spec p w ∙ c))

-- a side that a line shows
side_line_told : (kept : List HalfSpace) (side : HalfSpace) → AreKeptHalfSpaces kept → IsKeptHalfSpace side → (o : Option ProofLine) (t : Trail) → IfDone (side_by_line kept side o t) (λ _. Holds kept side)
side_line_told kept side k ks (Some (out_line terms)) t = taken_told (is_outside_certificate true (kept ++ complement side ∷ []) terms) tt (λ _. Holds kept side) t (λ e. shown kept side terms k ks e)
side_line_told kept side k ks (Some (in_line points)) t = nothing_told _ t
side_line_told kept side k ks (Some (at_line p)) t = nothing_told _ t
side_line_told kept side k ks (Some (apart_line terms)) t = nothing_told _ t
side_line_told kept side k ks (Some (drop_line h terms)) t = nothing_told _ t
side_line_told kept side k ks (Some (box_line b)) t = nothing_told _ t
side_line_told kept side k ks None t = nothing_told _ t

-- a side that is known, or that the next line shows
abbrev side_by : List HalfSpace → HalfSpace → Trail → Bool → Outcome Trail (Unit {0})
side_by kept side t b = elim b [ true ↦ done tt t | false ↦ side_by_line kept side (next_proof t.lines) t ]

-- each side holds the points of the cell
follow_side_told : (kept : List HalfSpace) (side : HalfSpace) → AreKeptHalfSpaces kept → IsKeptHalfSpace side → (t : Trail) → IfDone (follow_side kept side t) (λ _. Holds kept side)
follow_side_told kept side k ks t = by_test (is_listed side kept || is_listed side cube_half_spaces) refl
  where
    by_test : (b : Bool) → (is_listed side kept || is_listed side cube_half_spaces) ≡ b → IfDone (side_by kept side t b) (λ _. Holds kept side)
    by_test true e = ⊎_elim (λ l. holds_of_cell kept side l) (λ l. holds_of_cube kept side l) (or_cases (is_listed side kept) (is_listed side cube_half_spaces) e)
    by_test false e = side_line_told kept side k ks (next_proof t.lines) t

-- and so do all of them
follow_sides_told : (kept sides : List HalfSpace) → AreKeptHalfSpaces kept → AreKeptHalfSpaces sides → (t : Trail) → IfDone (follow_sides kept sides t) (λ _. AllByRecursion (Holds kept) sides)
follow_sides_told kept [] k ks t = tt
follow_sides_told kept (side ∷ sides) k ks t =
    then_done (λ _. Holds kept side) _ (follow_side kept side t) _
    (follow_side_told kept side k ks.0 t)
    (λ _ v h. weaker_done (λ _. AllByRecursion (Holds kept) sides) _ (follow_sides kept sides v) (follow_sides_told kept sides k ks.1 v) (λ _ j. (h, j)))

-- a point that the six sides hold is in the box
in_box : (b : IntegerBox) (p : RationalPoint) → all_hold (box_half_spaces b) p ≡ true → IsInBox b p
in_box b p e =
    let s = sym (box_holds b p) ∙ e in
    let xy = and_first (is_between b.x1 b.x2 p.x p.w && is_between b.y1 b.y2 p.y p.w) (is_between b.z1 b.z2 p.z p.w) s in
    record {
      x = between b.x1 b.x2 p.x p.w (and_first (is_between b.x1 b.x2 p.x p.w) (is_between b.y1 b.y2 p.y p.w) xy);
      y = between b.y1 b.y2 p.y p.w (and_second (is_between b.x1 b.x2 p.x p.w) (is_between b.y1 b.y2 p.y p.w) xy);
      z = between b.z1 b.z2 p.z p.w (and_second (is_between b.x1 b.x2 p.x p.w && is_between b.y1 b.y2 p.y p.w) (is_between b.z1 b.z2 p.z p.w) s);
    }
  where
    below_is : (u v : ℤ) → int_lt u v ≡ true → u <ℤ v
    below_is u v e = grind (arith, ints)

    between : (l h v w : ℤ) → is_between l h v w ≡ true → ((l *ℤ w) ≤ℤ v) × (v <ℤ (h *ℤ w))
    between l h v w e = (at_most_is (l *ℤ w) v (and_first (int_le (l *ℤ w) v) (int_lt v (h *ℤ w)) e), below_is v (h *ℤ w) (and_second (int_le (l *ℤ w) v) (int_lt v (h *ℤ w)) e))

-- a box whose sides hold the points of the cell holds the cell
box_of_sides : (cell : List HalfSpace) (b : IntegerBox) → AllByRecursion (Holds cell) (box_half_spaces b) → BoxHoldsCell b cell
box_of_sides cell b all p e =
    let m = in_cell_is_member cell p e in
    in_box b p (each (box_half_spaces b) all p m.0 (member_in_cube (shape_of_cell cell) p m) (member_passes (shape_of_cell cell) p m))
  where
    each : (sides : List HalfSpace) → AllByRecursion (Holds cell) sides → (p : RationalPoint) → IsPoint p → is_cube_point p ≡ true → passes (shape_of_cell cell) p ≡ true → all_hold sides p ≡ true
    each [] all p w c m = refl
    each (side ∷ sides) all p w c m = and_true (holds side p) (all_hold sides p) (all.0 p w c m) (each sides all.1 p w c m)

-- ---- a part test

-- the part with the box
abbrev boxed : List HalfSpace → IntegerBox → Part
boxed kept b = record { cell = kept; bounds = b }

-- it is a part as the check keeps it, with the members of the cell
part_made : (cell kept : List HalfSpace) (b : IntegerBox) → IsNonempty (shape_of_cell cell) → IsSlimOf cell kept → length kept ≤ most_half_spaces → AllByRecursion (Holds kept) (box_half_spaces b) → IsMadeOf IsCheckedPart cell (Some (boxed kept b))
part_made cell kept b (p, m) s few sides = record {
  fact = record { half_spaces = s.half_spaces; few = few; nonempty = (p, (same_of_alike (shape_of_cell kept) (shape_of_cell cell) s.alike).1 p m); box = box_of_sides kept b sides };
  members = same_of_alike (shape_of_parts (boxed kept b ∷ [])) (shape_of_cell cell) (λ p w c. one_part (boxed kept b) p ∙ s.alike p w c);
}

-- what follows the strict test of a cell with a member
follow_made_told : (cell : List HalfSpace) → AreKeptHalfSpaces cell → IsNonempty (shape_of_cell cell) → (t : Trail) → IfDone (follow_made cell t) (λ o. IsMadeOf IsCheckedPart cell o)
follow_made_told cell k n t =
    then_done (IsSlimOf cell) _ (follow_drops t.lines cell t) _
    (follow_drops_told cell t.lines cell t (record { half_spaces = k; alike = λ p w c. refl }))
    (λ kept t₁ s. then_done (λ _. length kept ≤ most_half_spaces) _ (if_few kept t₁) _
    (if_few_told kept t₁)
    (λ _ t₂ few. then_done (λ b. is_box_in_bounds b ≡ true) _ (box_by_line (next_proof t₂.lines) t₂) _
    (box_told t₂ (next_proof t₂.lines) refl)
    (λ b t₃ bounds. then_done (λ _. AllByRecursion (Holds kept) (box_half_spaces b)) _ (follow_sides kept (box_half_spaces b) t₃) _
    (follow_sides_told kept (box_half_spaces b) s.half_spaces (kept_box b bounds) t₃)
    (λ _ t₄ sides. part_made cell kept b n s few sides))))

-- a part, where the strict test found a member
part_if_told : (cell : List HalfSpace) → AreKeptHalfSpaces cell → (found : Bool) → IsTrue found ↔ IsNonempty (shape_of_cell cell) → (t : Trail) → IfDone (part_if found cell t) (λ o. IsMadeOf IsCheckedPart cell o)
part_if_told cell k true e t = follow_made_told cell k (e.0 refl) t
part_if_told cell k false e t = none_made IsCheckedPart cell (λ n. false_not_true false (e.1 n) refl)

-- a part test by the next lines
follow_part_told : (cell : List HalfSpace) → AreKeptHalfSpaces cell → (t : Trail) → IfDone (follow_part cell t) (λ o. IsMadeOf IsCheckedPart cell o)
unfolding follow_part
follow_part_told cell k t =
    then_done (λ found. IsTrue found ↔ IsNonempty (shape_of_cell cell)) _ (follow_strict cell t) _
    (follow_strict_told cell k t)
    (λ found v e. part_if_told cell k found e v)

-- ---- slices

-- the slice that is told of a cell passes
slice_told_passes : (z : ℤ) → IsHeight z → (cell : List HalfSpace) → AreKeptHalfSpaces cell → (o : Option Slice) → is_slice z cell (slice_told z cell o) ≡ true
slice_told_passes z h cell k None = (slice_is_found_spec z cell h (are_half_spaces cell k)).passes
slice_told_passes z h cell k (Some s) = by_test (is_slice z cell s) refl
  where
    by_test : (b : Bool) → is_slice z cell s ≡ b → is_slice z cell (elim b [ true ↦ s | false ↦ slice_of z cell ]) ≡ true
    by_test true e = e
    by_test false e = (slice_is_found_spec z cell h (are_half_spaces cell k)).passes

-- the slices that are told of parts pass
slices_told_pass : (z : ℤ) → IsHeight z → (ps : List Part) → AllByRecursion IsCheckedPart ps → (lines : List (List ℕ)) → ArePassingSlices z ps (slices_told z ps lines)
slices_told_pass z h [] k lines = tt
slices_told_pass z h (p ∷ ps) k lines = (slice_told_passes z h p.cell k.0.half_spaces (next_slice lines), slices_told_pass z h ps k.1 (drop 1 lines))

-- the slices that the report shows
follow_slices_told : (z : ℤ) → IsHeight z → (ps : List Part) → AreParts IsCheckedPart ps → (t : Trail) → IfDone (follow_slices z ps t) (λ shown. ArePassingSlices z ps shown)
unfolding follow_slices
follow_slices_told z h ps k t = slices_told_pass z h ps k.each (drop 1 t.lines)

-- the law
pub line_tester_is_right_spec : LineTesterIsRight
line_tester_is_right_spec = record {
  whole = part_is_checked whole_part whole_is_part;
  checked = λ p k. k;
  strict = follow_strict_told;
  weak = follow_weak_told;
  part = follow_part_told;
  slices = follow_slices_told;
}
