-- Tests that are followed on the next line.
use Rattle.std.proofs.Common.{◌≡◌, ◌<◌, ◌≤◌, ℕ, Bool, true, false, List, [], ◌∷◌, length, drop, refl, sym, ap, ◌∙◌, subst, arith}
use Rattle.std.specs.Prelude.{Option, Some, None, Result, Ok, Err, IfOk, nat_le}
use Rattle.rp_algebra.proofs.Options.{none_not_some}
use Rattle.rp_geometry.specs.Geometry.{RationalPoint, HalfSpace, IntegerBox, box_half_spaces}
use Rattle.rp_geometry.specs.sets.Shape.{Part}
use Rattle.rp_geometry.specs.searches.Certificate.{Multiple}
use Rattle.rp_geometry.specs.searches.ProofLine.{ProofLine, in_line, out_line, at_line, apart_line, drop_line, box_line}
use Rattle.rp_space.specs.Boxes.{integer_box}
use Rattle.rp_cert.specs.Lines.{line_of}
use Rattle.rp_cert.specs.declared.proof.Proof.{Proof}
use Rattle.rp_cert.specs.declared.proof.Proof.TheVariants.{In, Out, At, Apart, Dropped, Bounds}
use Rattle.rp_geometry.specs.parts.Parts.{most_half_spaces, AreKeptHalfSpaces, IsCheckedPart}
use Rattle.rp_semantics.specs.Walk.{Outcome, done, limit_met, Walk, pass, stop, after_first, ◌>>=◌}
use Rattle.rp_semantics.specs.FormLaws.{IfDone, IsMadeOf}
use Rattle.rp_reports.specs.Check.{Trail, taken, taken_if, next_proof, strict_by_line, follow_strict, weak_by_line, follow_weak, without, dropped_by, follow_drops, if_few, box_by_line, follow_sides, follow_made, part_if, follow_part}
use Rattle.rp_row_soundness.proofs.Lines.{line_tester_is_right_spec}
use Rattle.rp_oracle.specs.declared.stopped.Stopped.{Stopped}
use Rattle.rp_oracle.specs.declared.stopped.Stopped.TheVariants.{Limit}
use Rattle.rp_oracle.specs.Refines.{StopsBy, Refines}
use Rattle.rp_trail.specs.Stops.{IsNotDue, IsShown}
use Rattle.rp_oracle.proofs.Left.{IsLeft, all_left, next_left, stop_left, stops_on, end_left}
use Rattle.rp_trail.proofs.Due.{not_due}

-- ---- what a walk comes to

-- what is known of the end of a walk is known of the result
pub right_where : {A B : Type 0} (view : A → B) (P : B → Type 0) (r : Result A Stopped) (new : Trail) (o : Outcome Trail B) → Refines view r new o → IfDone o P → IfOk r (λ x. P (view x))
right_where view P (Ok x) new o m h = subst (λ out. IfDone out P) m h
right_where view P (Err e) new o m h = tt

-- a line that is taken passes what it shows
pub taken_right : {A : Type 0} (P : A → Type 0) (b : Bool) (x : A) (t : Trail) → P x → IfDone (taken_if b x t) P
taken_right P true x t p = p
taken_right P false x t p = tt

-- ---- lines

-- a strict test in words of the next proof line
pub strict_shown : (cell : List HalfSpace) (o : Option ProofLine) (r : Result Bool Stopped) (old new : Trail) → o ≡ next_proof old.lines → Refines (λ b. b) r new (strict_by_line cell o old) → Refines (λ b. b) r new (follow_strict cell old)
unfolding follow_strict
strict_shown cell o r old new e h = subst (λ o. Refines (λ b. b) r new (strict_by_line cell o old)) e h

-- a weak test in words of the next proof line
pub weak_shown : (cell : List HalfSpace) (o : Option ProofLine) (r : Result Bool Stopped) (old new : Trail) → o ≡ next_proof old.lines → Refines (λ b. b) r new (weak_by_line cell o old) → Refines (λ b. b) r new (follow_weak cell old)
unfolding follow_weak
weak_shown cell o r old new e h = subst (λ o. Refines (λ b. b) r new (weak_by_line cell o old)) e h

-- a proof line that is of no strict test
pub not_strict : (cell : List HalfSpace) (p : Proof) (t : Trail) (e : Stopped) → ((points : List RationalPoint) → p ≡ In points → ⊥) → ((terms : List Multiple) → p ≡ Out terms → ⊥) → Some (line_of p) ≡ next_proof t.lines → IsNotDue e t
    → StopsBy e t (follow_strict cell t)
not_strict cell (In points) t e f g s h = absurd (f points refl)
not_strict cell (Out terms) t e f g s h = absurd (g terms refl)
not_strict cell (At p) t e f g s h = strict_shown cell (Some (at_line p)) (Err e) t t s (not_due Bool e t h)
not_strict cell (Apart terms) t e f g s h = strict_shown cell (Some (apart_line terms)) (Err e) t t s (not_due Bool e t h)
not_strict cell (Dropped k terms) t e f g s h = strict_shown cell (Some (drop_line k terms)) (Err e) t t s (not_due Bool e t h)
not_strict cell (Bounds b) t e f g s h = strict_shown cell (Some (box_line (integer_box b))) (Err e) t t s (not_due Bool e t h)

-- a proof line that is of no weak test
pub not_weak : (cell : List HalfSpace) (p : Proof) (t : Trail) (e : Stopped) → ((x : RationalPoint) → p ≡ At x → ⊥) → ((terms : List Multiple) → p ≡ Apart terms → ⊥) → Some (line_of p) ≡ next_proof t.lines → IsNotDue e t
    → StopsBy e t (follow_weak cell t)
not_weak cell (At x) t e f g s h = absurd (f x refl)
not_weak cell (Apart terms) t e f g s h = absurd (g terms refl)
not_weak cell (In points) t e f g s h = weak_shown cell (Some (in_line points)) (Err e) t t s (not_due Bool e t h)
not_weak cell (Out terms) t e f g s h = weak_shown cell (Some (out_line terms)) (Err e) t t s (not_due Bool e t h)
not_weak cell (Dropped k terms) t e f g s h = weak_shown cell (Some (drop_line k terms)) (Err e) t t s (not_due Bool e t h)
not_weak cell (Bounds b) t e f g s h = weak_shown cell (Some (box_line (integer_box b))) (Err e) t t s (not_due Bool e t h)

-- ---- lines that drop half-spaces

-- one that drops a half-space is a line
pub drop_is_left : (kept : List HalfSpace) (lines : List (List ℕ)) (h : HalfSpace) → dropped_by kept (next_proof lines) ≡ Some h → 0 < length lines
drop_is_left kept [] h e = absurd (none_not_some h e)
drop_is_left kept (line ∷ lines) h e = omega arith

-- behind a line fewer are left
pub fewer_left : (lines : List (List ℕ)) → 0 < length lines → length (drop 1 lines) < length lines
fewer_left [] h = absurd (omega arith)
fewer_left (line ∷ lines) h = omega arith

-- the rest of the lines, where one is dropped
abbrev drop_or_stay : List (List ℕ) → List HalfSpace → Trail → Option HalfSpace → Outcome Trail (List HalfSpace)
drop_or_stay lines kept t o = elim o [ Some h ↦ follow_drops lines (without h kept) (taken t) | None ↦ done kept t ]

-- one is dropped
pub drop_step : (lines : List (List ℕ)) (kept : List HalfSpace) (t : Trail) (h : HalfSpace) → dropped_by kept (next_proof lines) ≡ Some h → follow_drops lines kept t ≡ follow_drops (drop 1 lines) (without h kept) (taken t)
drop_step [] kept t h e = absurd (none_not_some h e)
drop_step (line ∷ lines) kept t h e = ap (drop_or_stay lines kept t) e

-- none is dropped
pub drop_stop : (lines : List (List ℕ)) (kept : List HalfSpace) (t : Trail) → dropped_by kept (next_proof lines) ≡ None → follow_drops lines kept t ≡ done kept t
drop_stop [] kept t e = refl
drop_stop (line ∷ lines) kept t e = ap (drop_or_stay lines kept t) e

-- ---- a part test

-- the strict test stops it
pub part_stops : (cell : List HalfSpace) (t u : Trail) (e : Stopped) → StopsBy e u (follow_strict cell t) → StopsBy e u (follow_part cell t)
unfolding follow_part
part_stops cell t u e m = stops_on (λ inside. part_if inside cell) e u (follow_strict cell t) m

-- there is no member
pub part_none : (cell : List HalfSpace) (t u : Trail) → follow_strict cell t ≡ done false u → follow_part cell t ≡ done None u
unfolding follow_part
part_none cell t u e = ap (after_first (λ inside. part_if inside cell)) e

-- there is a member: the part is left
pub part_some : (cell : List HalfSpace) (t u : Trail) → follow_strict cell t ≡ done true u → follow_part cell t ≡ follow_made cell u
unfolding follow_part
part_some cell t u e = ap (after_first (λ inside. part_if inside cell)) e

-- what follows the strict test stops it
pub part_made_stops : (cell : List HalfSpace) (t u v : Trail) (e : Stopped) → follow_strict cell t ≡ done true u → StopsBy e v (follow_made cell u) → StopsBy e v (follow_part cell t)
part_made_stops cell t u v e m h = subst (λ o. StopsBy e v o) (sym (part_some cell t u m)) h

-- the part with the box
abbrev pub boxed : List HalfSpace → IntegerBox → Part
boxed kept b = record { cell = kept; bounds = b }

-- what is left behind the box
abbrev pub after_box : List HalfSpace → IntegerBox → Walk Trail (Option Part)
after_box kept b = follow_sides kept (box_half_spaces b) >>= λ _. pass (Some (boxed kept b))

-- what is left behind the lines that drop half-spaces, if few are kept
abbrev pub after_few : List HalfSpace → Walk Trail (Option Part)
after_few kept = (λ t. box_by_line (next_proof t.lines) t) >>= after_box kept

-- few half-spaces, by the test
abbrev few_by : Bool → Walk Trail (Unit {0})
few_by b = elim b [ true ↦ pass tt | false ↦ stop limit_met ]

-- half-spaces were dropped: the test of their number is left
pub drops_followed : (cell kept : List HalfSpace) (t u : Trail) → follow_drops t.lines cell t ≡ done kept u → IsLeft t (follow_made cell) u (if_few kept >>= λ _. after_few kept)
drops_followed cell kept t u e = next_left (λ t. follow_drops t.lines cell t) (λ kept. if_few kept >>= λ _. after_few kept) (all_left t (follow_made cell)) e

-- too many are kept
pub too_many : (cell kept : List HalfSpace) (t u : Trail) → follow_drops t.lines cell t ≡ done kept u → most_half_spaces < length kept → StopsBy Limit u (follow_made cell t)
too_many cell kept t u e h = stop_left (if_few kept) (λ _. after_few kept) (drops_followed cell kept t u e) Limit u (ap (λ b. few_by b u) (above (length kept) h))
  where
    above : (n : ℕ) → most_half_spaces < n → nat_le n most_half_spaces ≡ false
    above n h = grind arith

-- few are kept: the box is left
pub few_kept : (cell kept : List HalfSpace) (t u : Trail) → follow_drops t.lines cell t ≡ done kept u → length kept ≤ most_half_spaces → IsLeft t (follow_made cell) u (after_few kept)
few_kept cell kept t u e h = next_left (if_few kept) (λ _. after_few kept) (drops_followed cell kept t u e) (ap (λ b. few_by b u) (below (length kept) h))
  where
    below : (n : ℕ) → n ≤ most_half_spaces → nat_le n most_half_spaces ≡ true
    below n h = grind arith

-- the sides are left
pub box_followed : (cell kept : List HalfSpace) (b : IntegerBox) (t u v : Trail) → IsLeft t (follow_made cell) u (after_few kept) → box_by_line (next_proof u.lines) u ≡ done b v → IsLeft t (follow_made cell) v (after_box kept b)
box_followed cell kept b t u v l m = next_left (λ t. box_by_line (next_proof t.lines) t) (after_box kept) l m

-- the sides stop it
pub sides_stop : (cell kept : List HalfSpace) (b : IntegerBox) (t u v : Trail) (e : Stopped) → IsLeft t (follow_made cell) u (after_box kept b) → StopsBy e v (follow_sides kept (box_half_spaces b) u) → StopsBy e v (follow_made cell t)
sides_stop cell kept b t u v e l m = stop_left (follow_sides kept (box_half_spaces b)) (λ _. pass (Some (boxed kept b))) l e v m

-- the part is made
pub sides_followed : (cell kept : List HalfSpace) (b : IntegerBox) (t u v : Trail) → IsLeft t (follow_made cell) u (after_box kept b) → follow_sides kept (box_half_spaces b) u ≡ done tt v → follow_made cell t ≡ done (Some (boxed kept b)) v
sides_followed cell kept b t u v l m = end_left (done (Some (boxed kept b)) v) (next_left (follow_sides kept (box_half_spaces b)) (λ _. pass (Some (boxed kept b))) l m) refl

-- and it is as it must be
pub made_checked : (cell : List HalfSpace) (p : Part) (t u : Trail) → AreKeptHalfSpaces cell → IsShown cell t → follow_made cell t ≡ done (Some p) u → IsCheckedPart p
made_checked cell p t u k s e = (of_done (follow_part cell s.start) (part_some cell s.start t s.shown ∙ e) (line_tester_is_right_spec.part cell k s.start)).fact
  where
    of_done : (o : Outcome Trail (Option Part)) → o ≡ done (Some p) u → IfDone o (λ m. IsMadeOf IsCheckedPart cell m) → IsMadeOf IsCheckedPart cell (Some p)
    of_done o e h = subst (λ out. IfDone out (λ m. IsMadeOf IsCheckedPart cell m)) e h
