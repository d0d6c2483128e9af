-- Lots that are cut, subdivided, consolidated and retired: each row meets its rule, and its new parts have the members of the new sets.
use Rattle.std.proofs.Common.{◌≡◌, ◌+◌, ◌≤◌, Bool, true, false, ◌||◌, List, [], ◌∷◌, ◌++◌, length, map, refl, ap, ◌∙◌}
use Rattle.std.specs.Prelude.{◌==◌}
use Rattle.std.specs.List.{AllByRecursion}
use Rattle.rp_algebra.proofs.Listed.{all_append}
use Rattle.rp_geometry.specs.Geometry.{RationalPoint}
use Rattle.rp_language.specs.Name.{Label}
use Rattle.rp_geometry.specs.sets.Shape.{Shape, Part, passes, shape_of_cell, shape_of_parts}
use Rattle.rp_geometry.specs.sets.Sets.{IsWithin, SameMembers, Overlaps}
use Rattle.rp_semantics.specs.Walk.{Walk, Tester, pass, ◌>>=◌, ◌>>◌}
use Rattle.rp_model.specs.states.State.{most_kept_parts}
use Rattle.rp_geometry.specs.parts.Parts.{most_parts, AreOf}
use Rattle.rp_semantics.specs.Form.{join, subtract}
use Rattle.rp_model.specs.states.State.{State, layer_with_id, layer_of_first, parts_under_lots, lots_replaced}
use Rattle.rp_model.specs.commands.Verdict.{empty_side, says_ok}
use Rattle.rp_model.specs.commands.Checks.{check_live, check_cut, check_consolidate, refuse_if}
use Rattle.rp_model.specs.commands.Reply.{Reply, accepted, check, check_size}
use Rattle.rp_model.specs.commands.Parts.{parts_with_id, joined_parts, new_lot}
use Rattle.rp_model.specs.commands.Retire.{row_retire}
use Rattle.rp_model.specs.commands.Cut.{row_cut, rule_cut}
use Rattle.rp_model.specs.commands.Consolidate.{row_consolidate}
use Rattle.rp_model.specs.commands.Rules.{Rule, accepts, names_then, refused_where}
use Rattle.rp_model.specs.commands.Sets.{lot_of_set, set_with_id, union_of, set_of}
use Rattle.rp_model.specs.commands.Rule.{with_parts, rule_after_labels, change_of}
use Rattle.rp_model.specs.states.Sound.{IsSoundWith}
use Rattle.rp_semantics.specs.FormLaws.{IfDone}
use Rattle.rp_semantics.specs.FormLaws.{WalksAreRight}
use Rattle.rp_semantics.proofs.Outcomes.{then_done, after_done}
use Rattle.rp_reports.specs.laws.RowLaws.{NewPartsAreOf}
use Rattle.rp_geometry.proofs.SameMembers.{same_of_passes, same_itself, same_next, same_union, same_intersection, same_difference, within_of_rest, rest_of_within, common_of_overlaps, overlaps_of_common}
use Rattle.rp_row_soundness.proofs.Outcomes.{Replies, size_done, names_done, test_done}
use Rattle.rp_row_soundness.proofs.Parts.{empty_if, nonempty_if}
use Rattle.rp_row_soundness.proofs.Neighbours.{lot_is_of}
use Rattle.rp_language.specs.Expression.{cut, cut_verb, consolidate_verb, retire_verb}
use Rattle.rp_row_soundness.specs.Limits.{IfDoneWith, PassedByCut}
use Rattle.rp_model.proofs.Refusals.{not_refused_if}
use Rattle.rp_row_soundness.proofs.Stopped.{IfStopped, stopped_told, stopped_weaker, stopped_then, stopped_check, stopped_passed, never_stopped}
use Rattle.rp_row_soundness.proofs.OneAnswer.{one_answer, one_where, one_after_names}
use Rattle.rp_row_soundness.proofs.AfterForms.{one_form, form_stopped}
use Rattle.rp_row_soundness.proofs.Laws.{Meets}
use Rattle.rp_row_soundness.proofs.Spoken.{answers_speak, refused_speaks, names_speak}

-- ---- retired

-- a lot ends
pub retire_meets : {W : Type 0} (P : Part → Type 0) (s : State) (x : Label) (w : W) → IfDone (row_retire s x w) (Replies P (lots_replaced (x ∷ []) []) (names_then (check_live s x) accepts))
retire_meets P s x w = names_done (λ r. NewPartsAreOf P (with_parts (lots_replaced (x ∷ []) []) r.change)) (check_live s x) accepts _ w (λ r. tt) (λ e. (refl, tt))

-- ---- cut

-- parts that have the members of what two lists have in common have those of what their sets have in common
pub common_are_of : (P : Part → Type 0) (a b : Shape) (ps qs made : List Part) → AreOf P a ps → AreOf P b qs → AreOf P (Shape.intersection (shape_of_parts ps) (shape_of_parts qs)) made → AreOf P (Shape.intersection a b) made
common_are_of P a b ps qs made h k m = record {
  all = m.all;
  members = same_next (shape_of_parts made) (Shape.intersection (shape_of_parts ps) (shape_of_parts qs)) (Shape.intersection a b) m.members (same_intersection (shape_of_parts ps) (shape_of_parts qs) a b h.members k.members);
}

-- the same of a difference
pub rest_are_of : (P : Part → Type 0) (a b : Shape) (ps qs made : List Part) → AreOf P a ps → AreOf P b qs → AreOf P (Shape.difference (shape_of_parts ps) (shape_of_parts qs)) made → AreOf P (Shape.difference a b) made
rest_are_of P a b ps qs made h k m = record {
  all = m.all;
  members = same_next (shape_of_parts made) (Shape.difference (shape_of_parts ps) (shape_of_parts qs)) (Shape.difference a b) m.members (same_difference (shape_of_parts ps) (shape_of_parts qs) a b h.members k.members);
}

-- a lot is cut in two
pub cut_meets : {W : Type 0} (P : Part → Type 0) (t : Tester W) → WalksAreRight P t → (s : State) → IsSoundWith P s → (x : Label) (a : Shape) (ps : List Part) → AreOf P a ps → (first second : Label) (w : W)
    → IfDone (row_cut t s x ps first second w)
    (Replies P (lots_replaced (x ∷ []) (lot_of_set (layer_with_id s x) first (Shape.intersection (set_with_id s x) a) (x ∷ []) ∷ lot_of_set (layer_with_id s x) second (Shape.difference (set_with_id s x) a) (x ∷ []) ∷ [])) (rule_cut s x a first second))
cut_meets {W = W} P t right s sound x a ps h first second w =
    names_done Keeps (check_cut s x first second) two_sides _ w (λ r. tt)
    (λ e. then_done (AreOf P (Shape.intersection (shape_of_parts qs) (shape_of_parts ps))) (Both two_sides) (join t qs ps w) _ (right.joins qs ps k.all h.all w)
    (λ inner v m. after_inner inner v (common_are_of P whole a qs ps inner k h m)))
  where
    whole : Shape
    whole = set_with_id s x

    qs : List Part
    qs = parts_with_id s x

    k : AreOf P whole qs
    k = lot_is_of P s sound x

    Keeps : Reply → Type 0
    Keeps r = NewPartsAreOf P (with_parts (lots_replaced (x ∷ []) (lot_of_set (layer_with_id s x) first (Shape.intersection whole a) (x ∷ []) ∷ lot_of_set (layer_with_id s x) second (Shape.difference whole a) (x ∷ []) ∷ [])) r.change)

    Both : Rule → Reply → Type 0
    Both rule r = rule r.verdicts × Keeps r

    outer_side : Rule
    outer_side = refused_where (IsWithin whole a) (empty_side 2) accepts

    two_sides : Rule
    two_sides = refused_where (¬ Overlaps whole a) (empty_side 1) outer_side

    kept : List Part → List Part → Walk W Reply
    kept inner outer =
        check_size (parts_under_lots s.lots + length inner + length outer) most_kept_parts
        >> pass (accepted (lots_replaced (x ∷ []) (new_lot (layer_with_id s x) first inner (x ∷ []) ∷ new_lot (layer_with_id s x) second outer (x ∷ []) ∷ [])))

    after_outer : (inner outer : List Part) (v : W) → AreOf P (Shape.intersection whole a) inner → AreOf P (Shape.difference whole a) outer
        → IfDone (check (refuse_if (length outer == 0) (empty_side 2)) (kept inner outer) v) (Both outer_side)
    after_outer inner outer v m n =
        test_done Keeps (IsWithin whole a) (empty_side 2) accepts (length outer == 0) (kept inner outer) v
        (λ e. within_of_rest whole a (empty_if P (Shape.difference whole a) outer n e))
        (λ e i. let y = nonempty_if P t right.tests (Shape.difference whole a) outer n e in rest_of_within whole a i y.0 y.1)
        (λ r. tt)
        (λ e. after_done (Both accepts) (check_size (parts_under_lots s.lots + length inner + length outer) most_kept_parts v) _ (λ _ u. (refl, (m, (n, tt)))))

    with_outer : List Part → Walk W Reply
    with_outer inner = subtract t qs ps >>= (λ outer. check (refuse_if (length outer == 0) (empty_side 2)) (kept inner outer))

    after_inner : (inner : List Part) (v : W) → AreOf P (Shape.intersection whole a) inner → IfDone (check (refuse_if (length inner == 0) (empty_side 1)) (with_outer inner) v) (Both two_sides)
    after_inner inner v m =
        test_done Keeps (¬ Overlaps whole a) (empty_side 1) outer_side (length inner == 0) (with_outer inner) v
        (λ e o. let y = common_of_overlaps whole a o in empty_if P (Shape.intersection whole a) inner m e y.0 y.1)
        (λ e n. n (overlaps_of_common whole a (nonempty_if P t right.tests (Shape.intersection whole a) inner m e)))
        (λ r. tt)
        (λ e. then_done (AreOf P (Shape.difference (shape_of_parts qs) (shape_of_parts ps))) (Both outer_side) (subtract t qs ps v) _ (right.differences qs ps k.all h.all v)
        (λ outer u n. after_outer inner outer u m (rest_are_of P whole a qs ps outer k h n)))

-- ---- consolidated

-- the union of a set and a list of sets
pub union_more : (a : Shape) (sets : List Shape) → SameMembers (Shape.union a (union_of sets)) (union_of (a ∷ sets))
union_more a [] = same_of_passes (Shape.union a Shape.nothing) a (λ p w c. or_false (passes a p))
  where
    or_false : (b : Bool) → (b || false) ≡ b
    or_false true = refl
    or_false false = refl
union_more a (b ∷ sets) = same_itself (Shape.union a (union_of (b ∷ sets)))

-- the parts of two lists together
pub shape_append : (ps qs : List Part) → SameMembers (shape_of_parts (ps ++ qs)) (Shape.union (shape_of_parts ps) (shape_of_parts qs))
shape_append ps qs = same_of_passes (shape_of_parts (ps ++ qs)) (Shape.union (shape_of_parts ps) (shape_of_parts qs)) (λ p w c. together p ps)
  where
    or_assoc : (x y z : Bool) → (x || (y || z)) ≡ ((x || y) || z)
    or_assoc true y z = refl
    or_assoc false y z = refl

    together : (p : RationalPoint) (ps : List Part) → passes (shape_of_parts (ps ++ qs)) p ≡ (passes (shape_of_parts ps) p || passes (shape_of_parts qs) p)
    together p [] = refl
    together p (r ∷ ps) = ap (λ b. passes (shape_of_cell r.cell) p || b) (together p ps) ∙ or_assoc (passes (shape_of_cell r.cell) p) (passes (shape_of_parts ps) p) (passes (shape_of_parts qs) p)

-- lists of parts that have the members of sets, in order
abbrev pub AreListsOf : (Part → Type 0) → List Shape → List (List Part) → Type 0
AreListsOf P [] [] = Unit {0}
AreListsOf P (a ∷ sets) (ps ∷ lists) = AreOf P a ps × AreListsOf P sets lists
AreListsOf P [] (ps ∷ lists) = ⊥
AreListsOf P (a ∷ sets) [] = ⊥

-- each of the parts of all lists keeps the fact
pub joined_each : (P : Part → Type 0) (sets : List Shape) (lists : List (List Part)) → AreListsOf P sets lists → AllByRecursion P (joined_parts lists)
joined_each P [] [] h = tt
joined_each P (a ∷ sets) (ps ∷ lists) h = all_append P ps (joined_parts lists) h.0.all.each (joined_each P sets lists h.1)
joined_each P [] (ps ∷ lists) h = elim h [ ]
joined_each P (a ∷ sets) [] h = elim h [ ]

-- the parts of all lists have together the members of the union of the sets
pub joined_members : (P : Part → Type 0) (sets : List Shape) (lists : List (List Part)) → AreListsOf P sets lists → SameMembers (shape_of_parts (joined_parts lists)) (union_of sets)
joined_members P [] [] h = same_itself Shape.nothing
joined_members P (a ∷ sets) (ps ∷ lists) h =
    same_next (shape_of_parts (ps ++ joined_parts lists)) (Shape.union (shape_of_parts ps) (shape_of_parts (joined_parts lists))) (union_of (a ∷ sets)) (shape_append ps (joined_parts lists))
    (same_next (Shape.union (shape_of_parts ps) (shape_of_parts (joined_parts lists))) (Shape.union a (union_of sets)) (union_of (a ∷ sets))
    (same_union (shape_of_parts ps) (shape_of_parts (joined_parts lists)) a (union_of sets) h.0.members (joined_members P sets lists h.1)) (union_more a sets))
joined_members P [] (ps ∷ lists) h = elim h [ ]
joined_members P (a ∷ sets) [] h = elim h [ ]

-- lots become one
pub consolidate_meets : {W : Type 0} (P : Part → Type 0) (s : State) → IsSoundWith P s → (x : Label) (ids : List Label) (w : W)
    → IfDone (row_consolidate s x ids w) (Replies P (lots_replaced ids (lot_of_set (layer_of_first s ids) x (union_of (map (λ y. set_with_id s y) ids)) ids ∷ [])) (names_then (check_consolidate s x ids) accepts))
consolidate_meets {W = W} P s sound x ids w =
    names_done Keeps (check_consolidate s x ids) accepts _ w (λ r. tt)
    (λ e. then_done (λ _. length parts ≤ most_parts) Both (check_size (length parts) most_parts w) _ (size_done (length parts) most_parts w)
    (λ _ v few. after_done Both (check_size (parts_under_lots s.lots + length parts) most_kept_parts v) _
    (λ _ u. (refl, (record { all = record { each = joined_each P sets lists (each_list ids); few = few }; members = joined_members P sets lists (each_list ids) }, tt)))))
  where
    sets : List Shape
    sets = map (λ y. set_with_id s y) ids

    lists : List (List Part)
    lists = map (λ y. parts_with_id s y) ids

    parts : List Part
    parts = joined_parts lists

    Keeps : Reply → Type 0
    Keeps r = NewPartsAreOf P (with_parts (lots_replaced ids (lot_of_set (layer_of_first s ids) x (union_of sets) ids ∷ [])) r.change)

    Both : Reply → Type 0
    Both r = accepts r.verdicts × Keeps r

    each_list : (ys : List Label) → AreListsOf P (map (λ y. set_with_id s y) ys) (map (λ y. parts_with_id s y) ys)
    each_list [] = tt
    each_list (y ∷ ys) = (lot_is_of P s sound y, each_list ys)

module _ {W : Type 0} (P : Part → Type 0) (t : Tester W) (right : WalksAreRight P t) (s : State) (sound : IsSoundWith P s) where
  -- the names and the sides of a cut
  cut_passed : (x : Label) (a : Shape) (ps : List Part) → AreOf P a ps → (first second : Label) (w : W) → IfStopped (row_cut t s x ps first second w) (PassedByCut t s x a ps first second w)
  cut_passed x a ps h first second w =
      stopped_check (PassedByCut t s x a ps first second w) (check_cut s x first second) _ w
      (λ e. stopped_weaker (IfDoneWith (join t qs ps w) Inner) (PassedByCut t s x a ps first second w) _
      (stopped_then (AreOf P (Shape.intersection (shape_of_parts qs) (shape_of_parts ps))) Inner (join t qs ps w) _ (right.joins qs ps k.all h.all w)
      (λ inner v m. stopped_check (Inner inner v) (refuse_if (length inner == 0) (empty_side 1)) _ v
      (λ d. stopped_weaker (IfDoneWith (subtract t qs ps v) Outer) (Inner inner v) _
      (stopped_then (AreOf P (Shape.difference (shape_of_parts qs) (shape_of_parts ps))) Outer (subtract t qs ps v) _ (right.differences qs ps k.all h.all v)
      (λ outer u n. stopped_check (Outer outer u) (refuse_if (length outer == 0) (empty_side 2)) _ u
      (λ f. stopped_told _ (Outer outer u) (not_within outer n (not_refused_if (length outer == 0) (empty_side 2) f)))))
      (λ o. (overlaps inner m (not_refused_if (length inner == 0) (empty_side 1) d), o)))))
      (λ o. (e, o)))
    where
      whole : Shape
      whole = set_with_id s x

      qs : List Part
      qs = parts_with_id s x

      k : AreOf P whole qs
      k = lot_is_of P s sound x

      Outer : List Part → W → Type 0
      Outer outer v = ¬ IsWithin whole a

      Inner : List Part → W → Type 0
      Inner inner v = Overlaps whole a × IfDoneWith (subtract t qs ps v) Outer

      overlaps : (inner : List Part) → AreOf P (Shape.intersection (shape_of_parts qs) (shape_of_parts ps)) inner → (length inner == 0) ≡ false → Overlaps whole a
      overlaps inner m d = overlaps_of_common whole a (nonempty_if P t right.tests (Shape.intersection whole a) inner (common_are_of P whole a qs ps inner k h m) d)

      not_within : (outer : List Part) → AreOf P (Shape.difference (shape_of_parts qs) (shape_of_parts ps)) outer → (length outer == 0) ≡ false → ¬ IsWithin whole a
      not_within outer n f i = let y = nonempty_if P t right.tests (Shape.difference whole a) outer (rest_are_of P whole a qs ps outer k h n) f in rest_of_within whole a i y.0 y.1

-- ---- the laws of each

-- cut
pub cut_laws : Meets cut_verb
cut_laws = record {
  replies = λ P t right s sound (x, (e, (first, (second, end)))) kept w.
      one_form P t right s sound e kept.0 (λ f. Replies P (change_of s (cut x e first second)) (rule_after_labels s f (cut x e first second))) (λ ps. row_cut t s x ps first second) w
      (λ ps v h. cut_meets P t right s sound x (set_of s e) ps h first second v);
  passed = λ P t right s sound (x, (e, (first, (second, end)))) kept w. form_stopped P t right s sound e kept.0 (λ ps v. PassedByCut t s x (set_of s e) ps first second v) _ w (λ ps v h. cut_passed P t right s sound x (set_of s e) ps h first second v);
  one = λ exclude pieces s formed h (x, (e, (first, (second, end)))).
      one_after_names (check_cut s x first second) (refused_where (¬ Overlaps (set_with_id s x) (set_of s e)) (empty_side 1) (refused_where (IsWithin (set_with_id s x) (set_of s e)) (empty_side 2) accepts))
      (one_where (¬ Overlaps (set_with_id s x) (set_of s e)) (empty_side 1) (refused_where (IsWithin (set_with_id s x) (set_of s e)) (empty_side 2) accepts)
      (λ _. one_where (IsWithin (set_with_id s x) (set_of s e)) (empty_side 2) accepts (λ _. one_answer (says_ok ∷ []))));
  speaks = λ s formed (x, (e, (first, (second, end)))). names_speak (check_cut s x first second) _ (refused_speaks _ _ _ (refused_speaks _ _ accepts (answers_speak _ tt)));
}

-- consolidate
pub consolidate_laws : Meets consolidate_verb
consolidate_laws = record {
  replies = λ P t right s sound (x, (ids, end)) kept w. consolidate_meets P s sound x ids w;
  passed = λ P t right s sound (x, (ids, end)) kept w. stopped_passed (check_consolidate s x ids) _ w;
  one = λ exclude pieces s formed h (x, (ids, end)). one_after_names (check_consolidate s x ids) accepts (one_answer (says_ok ∷ []));
  speaks = λ s formed (x, (ids, end)). names_speak (check_consolidate s x ids) accepts (answers_speak _ tt);
}

-- retire
pub retire_laws : Meets retire_verb
retire_laws = record {
  replies = λ P t right s sound (x, end) kept w. retire_meets P s x w;
  passed = λ P t right s sound (x, end) kept w. never_stopped (check_live s x) _ w;
  one = λ exclude pieces s formed h (x, end). one_after_names (check_live s x) accepts (one_answer (says_ok ∷ []));
  speaks = λ s formed (x, end). names_speak (check_live s x) accepts (answers_speak _ tt);
}
