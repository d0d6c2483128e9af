-- The check takes the lines that the program writes in a part test: what is dropped, the box, and the sides.
use Rattle.std.proofs.Common.{◌≡◌, ℕ, ◌+◌, ℤ, pos, neg_ℤ, ◌≤ℤ◌, ◌<ℤ◌, ◌*ℤ◌, Bool, true, false, ◌&&◌, ◌||◌, not, List, [], ◌∷◌, ◌++◌, map, length, nat_le, Option, Some, None, refl, sym, ap, ◌∙◌, subst, arith, append_assoc}
use Rattle.std.specs.Prelude.{int_lt, int_le}
use Rattle.std.specs.List.{AllByRecursion}
use Rattle.std.proofs.lemmas.Int.{ints}
use Rattle.std.proofs.lemmas.Bool.{or_left, or_right}
use Rattle.rp_algebra.proofs.IntLaws.{nonneg_of_pos_ℤ, lt_of_mul_lt_left_ℤ, mul_comm_ℤ}
use Rattle.rp_algebra.proofs.Tests.{and_true, and_first, and_second, false_not_true, false_unless, less_true}
use Rattle.rp_algebra.proofs.Options.{same_some}
use Rattle.rp_algebra.proofs.Listed.{Listed, first, later, all_append, listed_left, listed_right, all_of, pass_all, all_pass}
use Rattle.rp_geometry.specs.Geometry.{RationalPoint, HalfSpace, IntegerBox, IsKeptHalfSpace, complement, holds, half_space_eq, is_listed, box_half_spaces, cube_half_spaces, cube_box, is_box_in_bounds, all_hold, is_cube_point, is_in_range, cube_bound, is_in_box}
use Rattle.rp_geometry.specs.sets.Shape.{Part, shape_of_cell, IsMember, passes}
use Rattle.rp_geometry.specs.sets.Sets.{IsEmpty}
use Rattle.rp_geometry.specs.searches.Certificate.{Multiple, is_outside_certificate}
use Rattle.rp_geometry.specs.searches.ProofLine.{ProofLine, out_line, drop_line, box_line, outside_terms}
use Rattle.rp_geometry.specs.parts.PartTest.{has_member, Slimmed, slim_from, slimmed, side_lines, part_lines, part_of}
use Rattle.rp_geometry.specs.parts.LeastBox.{least_box, BoxHoldsCell, IsInBox, IsBoxWithin}
use Rattle.rp_semantics.specs.Walk.{Outcome, done, after_first, Walk, pass, stop, limit_met, ◌>>=◌, ◌>>◌}
use Rattle.rp_geometry.specs.parts.Parts.{most_half_spaces, AreKeptHalfSpaces, IsPart}
use Rattle.rp_reports.specs.Text.{proof_text}
use Rattle.rp_reports.specs.ProofText.{is_written, proof_read}
use Rattle.rp_reports.specs.Check.{Trail, taken, taken_if, next_proof, without, dropped_by, follow_drops, if_few, is_proper_box, box_by_line, side_by_line, follow_sides, follow_made}
use Rattle.rp_geometry.proofs.Boxes.{box_holds}
use Rattle.rp_geometry.proofs.Complement.{complement_holds_the_others_spec}
use Rattle.rp_convex.proofs.InsideFound.{inside_is_found_spec}
use Rattle.rp_convex.proofs.Inside.{member_held}
use Rattle.rp_convex.proofs.Tests.{half_space_eq-same, half_space_eq-to}
use Rattle.rp_parts.proofs.Slim.{others_of}
use Rattle.rp_checker_completeness.proofs.LooseWords.{++-none}
use Rattle.rp_checker_completeness.proofs.ProofsAgain.{proof_again}
use Rattle.rp_geometry.proofs.Kept.{are_half_spaces, kept_complement, kept_box}
use Rattle.rp_checker_completeness.proofs.WrittenHalfSpaces.{half_space_written}
use Rattle.rp_checker_completeness.proofs.FirstLines.{ShowsOutside, shows_no_member, shows_empty}
use Rattle.rp_convex.proofs.Held.{member_in_cell}

-- ---- the trail

-- a trail of lines
abbrev pub trail : List (List ℕ) → ℕ → ℕ → Trail
trail lines n tests = record { lines = lines; number = n; tests = tests }

-- the texts of proof lines, and lines behind them
abbrev pub texts_before : List ProofLine → List (List ℕ) → List (List ℕ)
texts_before ls rest = map proof_text ls ++ rest

-- ---- what is dropped

-- a half-space that stands in no list before another place
not_listed_without : (h : HalfSpace) (kept hs : List HalfSpace) → is_listed h kept ≡ false → without h (kept ++ h ∷ hs) ≡ kept ++ hs
not_listed_without h [] hs e = here (half_space_eq h h) (half_space_eq-same h)
  where
    here : (b : Bool) → b ≡ true → elim b as (λ _. List HalfSpace) [ true ↦ hs | false ↦ h ∷ without h hs ] ≡ hs
    here true k = refl
    here false k = absurd (cc)
not_listed_without h (k ∷ kept) hs e = here (half_space_eq h k) refl (λ f. not_listed_without h kept hs f)
  where
    here : (b : Bool) → half_space_eq h k ≡ b → (is_listed h kept ≡ false → without h (kept ++ h ∷ hs) ≡ kept ++ hs) → elim b as (λ _. List HalfSpace) [ true ↦ kept ++ h ∷ hs | false ↦ k ∷ without h (kept ++ h ∷ hs) ] ≡ k ∷ kept ++ hs
    here true is rest = absurd (false_not_true (is_listed h (k ∷ kept)) (or_left (half_space_eq h k) (is_listed h kept) is) e)
    here false is rest = ap (λ l. k ∷ l) (rest (false_unless (is_listed h kept) (λ l. false_not_true (is_listed h (k ∷ kept)) (or_right (half_space_eq h k) (is_listed h kept) l) e)))

-- a half-space is listed where it stands
listed_there : (h : HalfSpace) (kept hs : List HalfSpace) → is_listed h (kept ++ h ∷ hs) ≡ true
listed_there h [] hs = or_left (half_space_eq h h) (is_listed h hs) (half_space_eq-same h)
listed_there h (k ∷ kept) hs = or_right (half_space_eq h k) (is_listed h (kept ++ h ∷ hs)) (listed_there h kept hs)

-- no half-space of the second list is listed in the first
abbrev Apart : List HalfSpace → List HalfSpace → Type 0
Apart kept hs = AllByRecursion (λ g. is_listed g kept ≡ false) hs

-- neither in a list nor the one behind it
neither : (g h : HalfSpace) (kept : List HalfSpace) → is_listed g kept ≡ false → half_space_eq g h ≡ false → is_listed g (kept ++ h ∷ []) ≡ false
neither g h [] e f = λ i. f i || false
neither g h (k ∷ kept) e f = here (half_space_eq g k) e (λ l. neither g h kept l f)
  where
    here : (b : Bool) → (b || is_listed g kept) ≡ false → (is_listed g kept ≡ false → is_listed g (kept ++ h ∷ []) ≡ false) → (b || is_listed g (kept ++ h ∷ [])) ≡ false
    here true l rest = l
    here false l rest = rest l

-- a cell with a half-space and its complement has no member
never_both_sides : (cell : List HalfSpace) → AreKeptHalfSpaces cell → (h : HalfSpace) → Listed h cell → Listed (complement h) cell → has_member cell ≡ true → ⊥
unfolding has_member
never_both_sides cell k h l m e =
    let n = (inside_is_found_spec cell (are_half_spaces cell k)).some.0 e in
    at_point n.0 n.1 (member_held cell n.0 n.1 h (listed_left h cell cube_half_spaces l)) (member_held cell n.0 n.1 (complement h) (listed_left (complement h) cell cube_half_spaces m))
  where
    at_point : (p : RationalPoint) → IsMember (shape_of_cell cell) p → holds h p ≡ true → holds (complement h) p ≡ true → ⊥
    at_point p s a b = false_not_true true refl (sym b ∙ complement_holds_the_others_spec h (all_of IsKeptHalfSpace cell k h l).numbers p s.0 ∙ ap not a)

-- the list without one half-space, and with its complement, is kept
others_kept : (kept : List HalfSpace) (h : HalfSpace) (hs : List HalfSpace) → AreKeptHalfSpaces kept → AreKeptHalfSpaces (h ∷ hs) → AreKeptHalfSpaces (others_of kept h hs)
others_kept kept h hs a b = all_append IsKeptHalfSpace (kept ++ hs) (complement h ∷ []) (all_append IsKeptHalfSpace kept hs a b.1) (kept_complement h b.0, tt)

-- a half-space that stays stands nowhere behind
still_apart : (kept : List HalfSpace) (h : HalfSpace) (hs : List HalfSpace) → ((g : HalfSpace) → Listed g hs → half_space_eq g h ≡ false) → Apart kept hs → Apart (kept ++ h ∷ []) hs
still_apart kept h [] n a = tt
still_apart kept h (g ∷ hs) n a = (neither g h kept a.0 (n g first), still_apart kept h hs (λ f l. n f (later l)) a.1)

-- a half-space that stays is no other one behind it
stays_alone : (kept : List HalfSpace) (h : HalfSpace) (hs : List HalfSpace) → AreKeptHalfSpaces kept → AreKeptHalfSpaces (h ∷ hs) → has_member (others_of kept h hs) ≡ true → (g : HalfSpace) → Listed g hs → half_space_eq g h ≡ false
stays_alone kept h hs a b e g l = false_unless (half_space_eq g h) (λ s.
    never_both_sides (others_of kept h hs) (others_kept kept h hs a b) h
    (subst (λ k. Listed k (others_of kept h hs)) (sym (half_space_eq-to g h s)) (listed_left g (kept ++ hs) (complement h ∷ []) (listed_right g kept hs l)))
    (listed_right (complement h) (kept ++ hs) (complement h ∷ []) first) e)

-- ---- the lines of what is dropped are taken

-- the check drops what the lines drop
record Drops (s : Slimmed) (current : List HalfSpace) (rest : List (List ℕ)) (tests : ℕ) : Type 0 where
  drops : (n : ℕ) → (k : ℕ) × (follow_drops (texts_before s.lines rest) current (trail (texts_before s.lines rest) n tests) ≡ done s.kept (trail rest k tests))

-- a line that drops is taken
drop_taken : (kept : List HalfSpace) (h : HalfSpace) (hs : List HalfSpace) → AreKeptHalfSpaces kept → AreKeptHalfSpaces (h ∷ hs) → is_listed h kept ≡ false → ShowsOutside true (others_of kept h hs)
    → dropped_by (kept ++ h ∷ hs) (proof_read (proof_text (drop_line h (outside_terms true (others_of kept h hs))))) ≡ Some h
unfolding is_written
drop_taken kept h hs a b e s =
    ap (dropped_by (kept ++ h ∷ hs)) (proof_again (drop_line h (outside_terms true (others_of kept h hs))) (and_true _ _ (half_space_written h b.0) s.written))
    ∙ here (is_listed h (kept ++ h ∷ hs) && is_outside_certificate true (without h (kept ++ h ∷ hs) ++ complement h ∷ []) (outside_terms true (others_of kept h hs)))
    (and_true _ _ (listed_there h kept hs) (ap (λ l. is_outside_certificate true (l ++ complement h ∷ []) (outside_terms true (others_of kept h hs))) (not_listed_without h kept hs e) ∙ s.passes))
  where
    here : (b : Bool) → b ≡ true → elim b as (λ _. Option HalfSpace) [ true ↦ Some h | false ↦ None ] ≡ Some h
    here true k = refl
    here false k = absurd (cc)

-- no line that drops stands next
abbrev NoDrop : List (List ℕ) → Type 0
NoDrop rest = (kept : List HalfSpace) (t : Trail) → follow_drops rest kept t ≡ done kept t

-- one half-space that stays, or goes with its line
abbrev chosen : Bool → Slimmed → HalfSpace → List Multiple → Slimmed → Slimmed
chosen t stays h ts goes = elim t [ true ↦ stays | false ↦ record { kept = goes.kept; lines = drop_line h ts ∷ goes.lines } ]

-- the half-space goes
drop_on : (s : Slimmed) (kept : List HalfSpace) (h : HalfSpace) (hs : List HalfSpace) (rest : List (List ℕ)) (tests : ℕ) → is_listed h kept ≡ false
    → dropped_by (kept ++ h ∷ hs) (proof_read (proof_text (drop_line h (outside_terms true (others_of kept h hs))))) ≡ Some h
    → Drops s (kept ++ hs) rest tests → Drops (record { kept = s.kept; lines = drop_line h (outside_terms true (others_of kept h hs)) ∷ s.lines }) (kept ++ h ∷ hs) rest tests
drop_on s kept h hs rest tests e d r = record { drops = λ n. ((r.drops (n + 1)).0, here n (dropped_by (kept ++ h ∷ hs) (proof_read (proof_text (drop_line h (outside_terms true (others_of kept h hs)))))) d ∙ ap (λ l. follow_drops (texts_before s.lines rest) l (trail (texts_before s.lines rest) (n + 1) tests)) (not_listed_without h kept hs e) ∙ (r.drops (n + 1)).1) }
  where
    here : (n : ℕ) (o : Option HalfSpace) → o ≡ Some h
        → elim o as (λ _. Outcome Trail (List HalfSpace)) [ Some g ↦ follow_drops (texts_before s.lines rest) (without g (kept ++ h ∷ hs)) (trail (texts_before s.lines rest) (n + 1) tests) | None ↦ done (kept ++ h ∷ hs) (trail (texts_before (drop_line h (outside_terms true (others_of kept h hs)) ∷ s.lines) rest) n tests) ]
        ≡ follow_drops (texts_before s.lines rest) (without h (kept ++ h ∷ hs)) (trail (texts_before s.lines rest) (n + 1) tests)
    here n None k = absurd (cc)
    here n (Some g) k = ap (λ f. follow_drops (texts_before s.lines rest) (without f (kept ++ h ∷ hs)) (trail (texts_before s.lines rest) (n + 1) tests)) (same_some g h k)

-- all lines that drop are taken
drops_on : (hs kept : List HalfSpace) (rest : List (List ℕ)) (tests : ℕ) → NoDrop rest → AreKeptHalfSpaces kept → AreKeptHalfSpaces hs → Apart kept hs → Drops (slim_from kept hs) (kept ++ hs) rest tests
drops_on [] kept rest tests stop a b p = record { drops = λ n. (n, stop (kept ++ []) (trail rest n tests) ∙ ap (λ l. done l (trail rest n tests)) (++-none kept)) }
drops_on (h ∷ hs) kept rest tests stop a b p =
    by_test (has_member (others_of kept h hs)) refl
    (λ e. drops_on hs (kept ++ h ∷ []) rest tests stop (all_append IsKeptHalfSpace kept (h ∷ []) a (b.0, tt)) b.1 (still_apart kept h hs (stays_alone kept h hs a b e) p.1))
    (drops_on hs kept rest tests stop a b.1 p.1)
  where
    by_test : (t : Bool) → has_member (others_of kept h hs) ≡ t → (has_member (others_of kept h hs) ≡ true → Drops (slim_from (kept ++ h ∷ []) hs) ((kept ++ h ∷ []) ++ hs) rest tests) → Drops (slim_from kept hs) (kept ++ hs) rest tests
        → Drops (chosen t (slim_from (kept ++ h ∷ []) hs) h (outside_terms true (others_of kept h hs)) (slim_from kept hs)) (kept ++ h ∷ hs) rest tests
    by_test true e stays goes = subst (λ l. Drops (slim_from (kept ++ h ∷ []) hs) l rest tests) (append_assoc kept (h ∷ []) hs) (stays e)
    by_test false e stays goes = drop_on (slim_from kept hs) kept h hs rest tests p.0 (drop_taken kept h hs a b p.0 (shows_no_member (others_of kept h hs) (others_kept kept h hs a b) e)) goes

-- nothing is listed in an empty list
apart_from_none : (hs : List HalfSpace) → Apart [] hs
apart_from_none [] = tt
apart_from_none (h ∷ hs) = (refl, apart_from_none hs)

-- the lines of slimming are taken
pub slimmed_taken : (cell : List HalfSpace) (rest : List (List ℕ)) (tests : ℕ) → NoDrop rest → AreKeptHalfSpaces cell → (n : ℕ) → (k : ℕ) × (follow_drops (texts_before (slimmed cell).lines rest) cell (trail (texts_before (slimmed cell).lines rest) n tests) ≡ done (slimmed cell).kept (trail rest k tests))
unfolding slimmed
slimmed_taken cell rest tests stop k n = (drops_on cell [] rest tests stop tt k (apart_from_none cell)).drops n

-- ---- the box

-- between a lower and an upper bound at a point there is room
proper_axis : (lo hi v w : ℤ) → pos 0 <ℤ w → (lo *ℤ w) ≤ℤ v → v <ℤ (hi *ℤ w) → lo <ℤ hi
proper_axis lo hi v w p l h = lt_of_mul_lt_left_ℤ w lo hi (nonneg_of_pos_ℤ w p) (between (lo *ℤ w) v (hi *ℤ w) (w *ℤ lo) (w *ℤ hi) l h (mul_comm_ℤ lo w) (mul_comm_ℤ hi w))
  where
    between : (a v b c d : ℤ) → a ≤ℤ v → v <ℤ b → a ≡ c → b ≡ d → c <ℤ d
    between a v b c d l h e f = omega (arith, ints)

-- both ends of an axis keep the bound of the cube
in_bounds : (m lo hi : ℤ) → neg_ℤ m ≤ℤ lo → hi ≤ℤ m → lo <ℤ hi → ((int_le (neg_ℤ m) lo && int_le lo m) ≡ true) × ((int_le (neg_ℤ m) hi && int_le hi m) ≡ true)
in_bounds m lo hi l h p = (low m lo hi l h p, high m lo hi l h p)
  where
    low : (m lo hi : ℤ) → neg_ℤ m ≤ℤ lo → hi ≤ℤ m → lo <ℤ hi → (int_le (neg_ℤ m) lo && int_le lo m) ≡ true
    low m lo hi l h p = grind (arith, ints)

    high : (m lo hi : ℤ) → neg_ℤ m ≤ℤ lo → hi ≤ℤ m → lo <ℤ hi → (int_le (neg_ℤ m) hi && int_le hi m) ≡ true
    high m lo hi l h p = grind (arith, ints)

-- a coordinate in the cube's range, as a fact
range_is : (m v w : ℤ) → (int_le (neg_ℤ m *ℤ w) v && int_lt v (m *ℤ w)) ≡ true → ((neg_ℤ m *ℤ w) ≤ℤ v) × (v <ℤ (m *ℤ w))
range_is m v w e = (low (neg_ℤ m *ℤ w) v (m *ℤ w) e, high (neg_ℤ m *ℤ w) v (m *ℤ w) e)
  where
    low : (a v b : ℤ) → (int_le a v && int_lt v b) ≡ true → a ≤ℤ v
    low a v b e = grind (arith, ints)

    high : (a v b : ℤ) → (int_le a v && int_lt v b) ≡ true → v <ℤ b
    high a v b e = grind (arith, ints)

-- the cube holds every cell
cube_holds : (cell : List HalfSpace) → BoxHoldsCell cube_box cell
cube_holds cell p e =
    let c = and_first (is_cube_point p) (all_hold cell p) e in
    let xy = and_first (is_in_range p.x p.w && is_in_range p.y p.w) (is_in_range p.z p.w) c in
    record {
      x = range_is cube_bound p.x p.w (and_first (is_in_range p.x p.w) (is_in_range p.y p.w) xy);
      y = range_is cube_bound p.y p.w (and_second (is_in_range p.x p.w) (is_in_range p.y p.w) xy);
      z = range_is cube_bound p.z p.w (and_second (is_in_range p.x p.w && is_in_range p.y p.w) (is_in_range p.z p.w) c);
    }

-- what the check asks of a box
pub record BoxTaken (b : IntegerBox) : Type 0 where
  pub proper : is_proper_box b ≡ true
  pub bounds : is_box_in_bounds b ≡ true

-- the box of a part is as the check asks
box_taken : (p : Part) → IsPart p → BoxTaken p.bounds
box_taken p k =
    let (q, m) = k.nonempty in
    at_point q m (k.box.holds_all q (member_in_cell p.cell q m)) (k.box.least cube_box (cube_holds p.cell))
  where
    at_point : (q : RationalPoint) → IsMember (shape_of_cell p.cell) q → IsInBox p.bounds q → IsBoxWithin p.bounds cube_box → BoxTaken p.bounds
    at_point q m i w =
        let x = proper_axis p.bounds.x1 p.bounds.x2 q.x q.w m.0 i.x.0 i.x.1 in
        let y = proper_axis p.bounds.y1 p.bounds.y2 q.y q.w m.0 i.y.0 i.y.1 in
        let z = proper_axis p.bounds.z1 p.bounds.z2 q.z q.w m.0 i.z.0 i.z.1 in
        let bx = in_bounds cube_bound p.bounds.x1 p.bounds.x2 w.x.0 w.x.1 x in
        let by = in_bounds cube_bound p.bounds.y1 p.bounds.y2 w.y.0 w.y.1 y in
        let bz = in_bounds cube_bound p.bounds.z1 p.bounds.z2 w.z.0 w.z.1 z in
        record {
          proper = and_true _ _ (and_true _ _ (less_true p.bounds.x1 p.bounds.x2 x) (less_true p.bounds.y1 p.bounds.y2 y)) (less_true p.bounds.z1 p.bounds.z2 z);
          bounds = and_true _ _ (and_true _ _ (and_true _ _ (and_true _ _ (and_true _ _ bx.0 by.0) bz.0) bx.1) by.1) bz.1;
        }

-- ---- the sides

-- the box of a part holds its members, so outside a side there is none
side_empty : (p : Part) → IsPart p → is_box_in_bounds p.bounds ≡ true → (side : HalfSpace) → Listed side (box_half_spaces p.bounds) → IsEmpty (shape_of_cell (p.cell ++ complement side ∷ []))
side_empty p k b side l q m =
    let inside = k.box.holds_all q (and_true (is_cube_point q) (all_hold p.cell q) (and_first (is_cube_point q) (passes (shape_of_cell (p.cell ++ complement side ∷ [])) q) m.1)
    (pass_all (λ h. holds h q) p.cell (λ h i. member_held (p.cell ++ complement side ∷ []) q m h (listed_left h (p.cell ++ complement side ∷ []) cube_half_spaces (listed_left h p.cell (complement side ∷ []) i))))) in
    let held : all_hold (box_half_spaces p.bounds) q ≡ true = box_holds p.bounds q ∙ between q inside in
    let outside = member_held (p.cell ++ complement side ∷ []) q m (complement side) (listed_left (complement side) (p.cell ++ complement side ∷ []) cube_half_spaces (listed_right (complement side) p.cell (complement side ∷ []) first)) in
    false_not_true true refl (sym outside ∙ complement_holds_the_others_spec side (all_of IsKeptHalfSpace (box_half_spaces p.bounds) (kept_box p.bounds b) side l).numbers q m.0 ∙ ap not (all_pass (λ h. holds h q) (box_half_spaces p.bounds) held side l))
  where
    axis : (a v b : ℤ) → a ≤ℤ v → v <ℤ b → (int_le a v && int_lt v b) ≡ true
    axis a v b l h = grind (arith, ints)

    between : (q : RationalPoint) → IsInBox p.bounds q → is_in_box p.bounds q ≡ true
    between q i = and_true _ _ (and_true _ _ (axis (p.bounds.x1 *ℤ q.w) q.x (p.bounds.x2 *ℤ q.w) i.x.0 i.x.1) (axis (p.bounds.y1 *ℤ q.w) q.y (p.bounds.y2 *ℤ q.w) i.y.0 i.y.1)) (axis (p.bounds.z1 *ℤ q.w) q.z (p.bounds.z2 *ℤ q.w) i.z.0 i.z.1)

-- outside a side of the box of a part there is a certificate
side_shown : (p : Part) → IsPart p → is_box_in_bounds p.bounds ≡ true → (side : HalfSpace) → Listed side (box_half_spaces p.bounds) → ShowsOutside true (p.cell ++ complement side ∷ [])
side_shown p k b side l =
    shows_empty (p.cell ++ complement side ∷ []) (all_append IsKeptHalfSpace p.cell (complement side ∷ []) k.half_spaces (kept_complement side (all_of IsKeptHalfSpace (box_half_spaces p.bounds) (kept_box p.bounds b) side l), tt)) (side_empty p k b side l)

-- the line of a side is taken
side_line_taken : (cell : List HalfSpace) (side : HalfSpace) → ShowsOutside true (cell ++ complement side ∷ []) → (t : Trail) → side_by_line cell side (proof_read (proof_text (out_line (outside_terms true (cell ++ complement side ∷ []))))) t ≡ done tt (taken t)
unfolding is_written
side_line_taken cell side s t =
    ap (λ o. side_by_line cell side o t) (proof_again (out_line (outside_terms true (cell ++ complement side ∷ []))) s.written)
    ∙ ap (λ (b : Bool). taken_if b tt t) s.passes

-- the lines of the sides are taken
pub sides_taken : (cell sides : List HalfSpace) (rest : List (List ℕ)) (tests : ℕ) → ((side : HalfSpace) → Listed side sides → ShowsOutside true (cell ++ complement side ∷ [])) → (n : ℕ)
    → (k : ℕ) × (follow_sides cell sides (trail (texts_before (side_lines cell sides) rest) n tests) ≡ done tt (trail rest k tests))
sides_taken cell [] rest tests s n = (n, refl)
sides_taken cell (side ∷ sides) rest tests s n = by_listed (is_listed side cell || is_listed side cube_half_spaces) (λ m. sides_taken cell sides rest tests (λ g l. s g (later l)) m)
  where
    by_listed : (b : Bool) → ((m : ℕ) → (k : ℕ) × (follow_sides cell sides (trail (texts_before (side_lines cell sides) rest) m tests) ≡ done tt (trail rest k tests)))
        → (k : ℕ) × (after_first (λ _. follow_sides cell sides) (elim b as (λ _. Outcome Trail (Unit {0})) [
          | true ↦ done tt (trail (texts_before (elim b as (λ _. List ProofLine) [ true ↦ side_lines cell sides | false ↦ out_line (outside_terms true (cell ++ complement side ∷ [])) ∷ side_lines cell sides ]) rest) n tests)
          | false ↦ side_by_line cell side (next_proof (texts_before (elim b as (λ _. List ProofLine) [ true ↦ side_lines cell sides | false ↦ out_line (outside_terms true (cell ++ complement side ∷ [])) ∷ side_lines cell sides ]) rest)) (trail (texts_before (elim b as (λ _. List ProofLine) [ true ↦ side_lines cell sides | false ↦ out_line (outside_terms true (cell ++ complement side ∷ [])) ∷ side_lines cell sides ]) rest) n tests)
        ])
        ≡ done tt (trail rest k tests))
    by_listed true r = r n
    by_listed false r = ((r (n + 1)).0, ap (after_first (λ _. follow_sides cell sides)) (side_line_taken cell side (s side first) (trail (proof_text (out_line (outside_terms true (cell ++ complement side ∷ []))) ∷ texts_before (side_lines cell sides) rest) n tests)) ∙ (r (n + 1)).1)

-- ---- the part

-- two runs of lines, and lines behind them
pub texts_both : (a b : List ProofLine) (rest : List (List ℕ)) → texts_before (a ++ b) rest ≡ texts_before a (texts_before b rest)
texts_both [] b rest = refl
texts_both (l ∷ a) b rest = ap (λ ls. proof_text l ∷ ls) (texts_both a b rest)

-- the line of a box is read
box_read : (b : IntegerBox) → BoxTaken b → proof_read (proof_text (box_line b)) ≡ Some (box_line b)
unfolding is_written
box_read b k = proof_again (box_line b) k.bounds

-- and drops nothing
box_drops_nothing : (b : IntegerBox) → BoxTaken b → (rest : List (List ℕ)) → NoDrop (proof_text (box_line b) ∷ rest)
box_drops_nothing b k rest kept t = ap (λ o. elim (dropped_by kept o) as (λ _. Outcome Trail (List HalfSpace)) [ Some h ↦ follow_drops rest (without h kept) (taken t) | None ↦ done kept t ]) (box_read b k)

-- and is taken
box_line_taken : (b : IntegerBox) → BoxTaken b → (t : Trail) → box_by_line (proof_read (proof_text (box_line b))) t ≡ done b (taken t)
box_line_taken b k t = ap (λ o. box_by_line o t) (box_read b k) ∙ ap (λ (c : Bool). taken_if c b t) k.proper

-- what is kept is few
few_pass : (kept : List HalfSpace) → nat_le (length kept) most_half_spaces ≡ true → (t : Trail) → if_few kept t ≡ done tt t
few_pass kept e t = ap (λ (b : Bool). (elim b as (λ _. Walk Trail (Unit {0})) [ true ↦ pass tt | false ↦ stop limit_met ]) t) e

-- the lines of a made part are taken, and give the same part
pub made_taken : (cell : List HalfSpace) → AreKeptHalfSpaces cell → nat_le (length (slimmed cell).kept) most_half_spaces ≡ true → IsPart (part_of (slimmed cell)) → (rest : List (List ℕ)) (tests n : ℕ)
    → (k : ℕ) × (follow_made cell (trail (texts_before (part_lines (slimmed cell)) rest) n tests) ≡ done (Some (part_of (slimmed cell))) (trail rest k tests))
unfolding part_of part_lines
made_taken cell k few part rest tests n =
    let b : IntegerBox = least_box (slimmed cell).kept in
    let kept = (slimmed cell).kept in
    let taken_box = box_taken (part_of (slimmed cell)) part in
    let after_box = texts_before (side_lines kept (box_half_spaces b)) rest in
    let after_drops = proof_text (box_line b) ∷ after_box in
    let drops = slimmed_taken cell after_drops tests (box_drops_nothing b taken_box after_box) k n in
    let sides = sides_taken kept (box_half_spaces b) rest tests (side_shown (part_of (slimmed cell)) part taken_box.bounds) (drops.0 + 1) in (
      sides.0,
      ap (λ ls. follow_made cell (trail ls n tests)) (texts_both (slimmed cell).lines (box_line b ∷ side_lines kept (box_half_spaces b)) rest)
          ∙ ap (after_first (λ kept. if_few kept >> ((λ t. box_by_line (next_proof t.lines) t) >>= λ c. follow_sides kept (box_half_spaces c) >> pass (Some (record { cell = kept; bounds = c }))))) drops.1
          ∙ ap (after_first (λ _. (λ t. box_by_line (next_proof t.lines) t) >>= λ c. follow_sides kept (box_half_spaces c) >> pass (Some (record { cell = kept; bounds = c })))) (few_pass kept few (trail after_drops drops.0 tests))
          ∙ ap (after_first (λ c. follow_sides kept (box_half_spaces c) >> pass (Some (record { cell = kept; bounds = c })))) (box_line_taken b taken_box (trail after_drops drops.0 tests))
          ∙ ap (after_first (λ _. pass (Some (record { cell = kept; bounds = b })))) sides.1,
    )
