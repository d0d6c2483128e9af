-- A new name and a new lot: the row meets its rule, and its change is one that the state takes.
use Rattle.std.proofs.Common.{◌+◌, ◌≤◌, Bool, true, false, List, [], ◌∷◌, length, inl, inr, refl, ◌≡◌}
use Rattle.std.specs.Prelude.{IsTrue, ◌↔◌, ◌==◌, Option, Some, None, option_map}
use Rattle.std.specs.List.{AllByRecursion}
use Rattle.rp_algebra.proofs.Tests.{false_not_true}
use Rattle.rp_language.specs.Name.{Label}
use Rattle.rp_geometry.specs.sets.Shape.{Shape, Part, shape_of_parts}
use Rattle.rp_geometry.specs.sets.Sets.{IsEmpty, Overlaps, IsNonempty}
use Rattle.rp_semantics.specs.Walk.{Walk, Tester, pass}
use Rattle.rp_model.specs.states.State.{most_names, most_kept_parts}
use Rattle.rp_semantics.specs.Form.{common_nearby, near_pair}
use Rattle.rp_model.specs.states.State.{Lot, State, present_lots, parts_under_names, parts_under_lots, name_added, lots_replaced}
use Rattle.rp_model.specs.commands.Verdict.{Verdict, refused, empty, overlaps, says_ok, Refusal}
use Rattle.rp_model.specs.commands.Checks.{check_name, check_new, refuse_if}
use Rattle.rp_model.specs.commands.Reply.{Reply, accepted, check}
use Rattle.rp_model.specs.commands.Let.{row_define}
use Rattle.rp_model.specs.commands.Register.{row_register, first_overlapped, refused_at_overlap, rule_register}
use Rattle.rp_model.specs.commands.Parts.{new_lot, count_with_each, lot_parts}
use Rattle.rp_model.specs.commands.Rules.{Rule, accepts, names_then, refused_where}
use Rattle.rp_model.specs.commands.Sets.{lot_of_set, set_of}
use Rattle.rp_model.specs.commands.Rule.{with_parts, rule_after_labels, change_of}
use Rattle.rp_geometry.specs.parts.Parts.{AreOf}
use Rattle.rp_model.specs.states.Sound.{IsSoundWith}
use Rattle.rp_semantics.specs.FormLaws.{IfDone}
use Rattle.rp_semantics.specs.FormLaws.{WalksAreRight}
use Rattle.rp_semantics.proofs.Outcomes.{then_done, after_done, weaker_done}
use Rattle.rp_reports.specs.laws.RowLaws.{NewPartsAreOf}
use Rattle.rp_geometry.proofs.SameMembers.{same_back, overlaps_same}
use Rattle.rp_geometry.proofs.Members.{overlap_turned}
use Rattle.rp_row_soundness.proofs.Outcomes.{Replies, size_done, names_done, names_first_done, test_done}
use Rattle.rp_row_soundness.proofs.Parts.{empty_if, nonempty_if}
use Rattle.rp_row_soundness.proofs.Neighbours.{present_are_of}
use Rattle.rp_language.specs.Expression.{define, register, let_verb, register_verb, layer_verb}
use Rattle.rp_model.proofs.Refusals.{not_refused_if}
use Rattle.rp_row_soundness.proofs.Stopped.{IfStopped, stopped_told, stopped_checks, stopped_passed}
use Rattle.rp_row_soundness.proofs.OneAnswer.{IsOneAtMost, one_answer, one_where, one_after_names}
use Rattle.rp_row_soundness.proofs.AfterForms.{one_form, form_stopped}
use Rattle.rp_row_soundness.proofs.Laws.{Meets}
use Rattle.rp_row_soundness.proofs.Spoken.{Speaks, answers_speak, refused_speaks, names_speak}

-- a new name
pub define_meets : {W : Type 0} (P : Part → Type 0) (s : State) (x : Label) (a : Shape) (ps : List Part) → AreOf P a ps → (w : W)
    → IfDone (row_define s x ps w) (Replies P (name_added (record { name = x; set = a; parts = [] })) (names_then (check_name s x) accepts))
define_meets {W = W} P s x a ps h w =
    names_done Keeps (check_name s x) accepts _ w (λ r. tt)
    (λ e. then_done (λ _. length s.names + 1 ≤ most_names) Accepted _ _ (size_done (length s.names + 1) most_names w)
    (λ _ v few. then_done (λ _. parts_under_names s.names + length ps ≤ most_kept_parts) Accepted _ _ (size_done (parts_under_names s.names + length ps) most_kept_parts v)
    (λ _ u size. (refl, h))))
  where
    Keeps : Reply → Type 0
    Keeps r = NewPartsAreOf P (with_parts (name_added (record { name = x; set = a; parts = [] })) r.change)

    Accepted : Reply → Type 0
    Accepted r = accepts r.verdicts × Keeps r

-- ---- registration

-- what the search for an overlapped lot comes to meets the rule
abbrev Searched : Shape → List (Lot Shape) → Option Label → Type 0
Searched a ls found = (given : List Verdict) → names_then (option_map overlaps found) accepts given → refused_at_overlap ls a accepts given

-- the first lot of a list that shares a member with the parts is the first that overlaps the set
searched_done : {W : Type 0} (P : Part → Type 0) (t : Tester W) → WalksAreRight P t → (a : Shape) (ps : List Part) → AreOf P a ps → (ls : List (Lot Shape)) → AllByRecursion (λ l. AreOf P l.set l.parts) ls → (w : W)
    → IfDone (first_overlapped t ps ls w) (Searched a ls)
searched_done P t right a ps h [] k w = λ given m. m
searched_done {W = W} P t right a ps h (l ∷ ls) k w =
    then_done (λ found. IsTrue found ↔ Overlaps (shape_of_parts ps) (shape_of_parts l.parts)) (Searched a (l ∷ ls)) (common_nearby t ps l.parts w) _
    (right.commons ps l.parts h.all k.0.all w).1 (by_test (searched_done P t right a ps h ls k.1))
  where
    overlap_sets : Overlaps (shape_of_parts ps) (shape_of_parts l.parts) → Overlaps l.set a
    overlap_sets o = overlap_turned a l.set (overlaps_same (shape_of_parts ps) (shape_of_parts l.parts) a l.set h.members k.0.members o)

    overlap_parts : Overlaps l.set a → Overlaps (shape_of_parts ps) (shape_of_parts l.parts)
    overlap_parts o = overlaps_same a l.set (shape_of_parts ps) (shape_of_parts l.parts) (same_back (shape_of_parts ps) a h.members) (same_back (shape_of_parts l.parts) l.set k.0.members) (overlap_turned l.set a o)

    by_test : ((w : W) → IfDone (first_overlapped t ps ls w) (Searched a ls)) → (b : Bool) (v : W) → IsTrue b ↔ Overlaps (shape_of_parts ps) (shape_of_parts l.parts)
        → IfDone ((elim b as (λ _. Walk W (Option Label)) [ true ↦ pass (Some l.id) | false ↦ first_overlapped t ps ls ]) v) (Searched a (l ∷ ls))
    by_test rest true v f = λ given e. inl (overlap_sets (f.0 refl), e)
    by_test rest false v f = weaker_done (Searched a ls) (Searched a (l ∷ ls)) (first_overlapped t ps ls v) (rest v) (λ found m given e. inr (λ o. false_not_true false (f.1 (overlap_parts o)) refl, m given e))

-- a new lot
pub register_meets : {W : Type 0} (P : Part → Type 0) (t : Tester W) → WalksAreRight P t → (s : State) → IsSoundWith P s → (x : Label) (a : Shape) (ps : List Part) → AreOf P a ps → (w : W)
    → IfDone (row_register t s x ps w) (Replies P (lots_replaced [] (lot_of_set s.layer x a [] ∷ [])) (rule_register s x a))
register_meets {W = W} P t right s sound x a ps h w =
    names_first_done Keeps (check_new s x) (refuse_if (length ps == 0) empty) not_empty _ w (λ r. tt)
    (λ fresh. test_done Keeps (IsEmpty a) empty apart (length ps == 0) _ w (empty_if P a ps h) (λ e n. let m = nonempty_if P t right.tests a ps h e in n m.0 m.1) (λ r. tt)
    (λ some. then_done (λ _. parts_under_lots s.lots + length ps ≤ most_kept_parts) Apart _ _ (size_done (parts_under_lots s.lots + length ps) most_kept_parts w)
    (λ _ v size. after_done Apart (t.count (count_with_each near_pair ps (lot_parts (present_lots s))) v) _
    (λ _ u. then_done (Searched a (present_lots s)) Apart (first_overlapped t ps (present_lots s) u) _ (searched_done P t right a ps h (present_lots s) (present_are_of P s sound) u) by_found))))
  where
    Keeps : Reply → Type 0
    Keeps r = NewPartsAreOf P (with_parts (lots_replaced [] (lot_of_set s.layer x a [] ∷ [])) r.change)

    apart : Rule
    apart = refused_at_overlap (present_lots s) a accepts

    not_empty : Rule
    not_empty = refused_where (IsEmpty a) empty apart

    Apart : Reply → Type 0
    Apart r = apart r.verdicts × Keeps r

    by_found : (found : Option Label) (v : W) → Searched a (present_lots s) found → IfDone (check (option_map overlaps found) (pass (accepted (lots_replaced [] (new_lot s.layer x ps [] ∷ [])))) v) Apart
    by_found (Some y) v meets = (meets (refused (overlaps y) ∷ []) refl, tt)
    by_found None v meets = (meets (says_ok ∷ []) refl, (h, tt))

module _ {W : Type 0} (P : Part → Type 0) (t : Tester W) (right : WalksAreRight P t) (s : State) (sound : IsSoundWith P s) where
  -- the id is new, and the set has a member
  register_passed : (x : Label) (a : Shape) (ps : List Part) → AreOf P a ps → (w : W) → IfStopped (row_register t s x ps w) ((check_new s x ≡ None) × IsNonempty a)
  register_passed x a ps h w =
      stopped_checks ((check_new s x ≡ None) × IsNonempty a) (check_new s x) (refuse_if (length ps == 0) empty) _ w
      (λ e d. stopped_told _ ((check_new s x ≡ None) × IsNonempty a) (e, nonempty_if P t right.tests a ps h (not_refused_if (length ps == 0) empty d)))

-- the first lot that overlaps
one_overlap : (ls : List (Lot Shape)) (a : Shape) (rest : Rule) → IsOneAtMost rest → IsOneAtMost (refused_at_overlap ls a rest)
one_overlap [] a rest one = one
one_overlap (l ∷ ls) a rest one = one_where (Overlaps l.set a) (overlaps l.id) (refused_at_overlap ls a rest) (λ _. one_overlap ls a rest one)

-- behind the lots that may overlap
overlap_speaks : (ls : List (Lot Shape)) (a : Shape) (rest : Rule) → Speaks rest → Speaks (refused_at_overlap ls a rest)
overlap_speaks [] a rest k = k
overlap_speaks (l ∷ ls) a rest k = refused_speaks (Overlaps l.set a) (Refusal.overlaps l.id) (refused_at_overlap ls a rest) (overlap_speaks ls a rest k)

-- ---- the laws of each

-- let
pub let_laws : Meets let_verb
let_laws = record {
  replies = λ P t right s sound (x, (u, (e, end))) kept w.
      one_form P t right s sound e kept.0 (λ f. Replies P (change_of s (define x e)) (rule_after_labels s f (define x e))) (λ ps. row_define s x ps) w (λ ps v h. define_meets P s x (set_of s e) ps h v);
  passed = λ P t right s sound (x, (u, (e, end))) kept w. form_stopped P t right s sound e kept.0 (λ _ _. check_name s x ≡ None) _ w (λ ps v h. stopped_passed (check_name s x) _ v);
  one = λ exclude pieces s formed h (x, (u, (e, end))). one_after_names (check_name s x) accepts (one_answer (says_ok ∷ []));
  speaks = λ s formed (x, (u, (e, end))). names_speak (check_name s x) accepts (answers_speak _ tt);
}

-- register
pub register_laws : Meets register_verb
register_laws = record {
  replies = λ P t right s sound (x, (e, end)) kept w.
      one_form P t right s sound e kept.0 (λ f. Replies P (change_of s (register x e)) (rule_after_labels s f (register x e))) (λ ps. row_register t s x ps) w (λ ps v h. register_meets P t right s sound x (set_of s e) ps h v);
  passed = λ P t right s sound (x, (e, end)) kept w. form_stopped P t right s sound e kept.0 (λ _ _. (check_new s x ≡ None) × IsNonempty (set_of s e)) _ w (λ ps v h. register_passed P t right s sound x (set_of s e) ps h v);
  one = λ exclude pieces s formed h (x, (e, end)).
      one_after_names (check_new s x) (refused_where (IsEmpty (set_of s e)) empty (refused_at_overlap (present_lots s) (set_of s e) accepts))
      (one_where (IsEmpty (set_of s e)) empty (refused_at_overlap (present_lots s) (set_of s e) accepts) (λ _. one_overlap (present_lots s) (set_of s e) accepts (one_answer (says_ok ∷ []))));
  speaks = λ s formed (x, (e, end)). names_speak (check_new s x) _ (refused_speaks _ _ _ (overlap_speaks (present_lots s) _ accepts (answers_speak _ tt)));
}

-- layer
pub layer_laws : Meets layer_verb
layer_laws = record {
  replies = λ P t right s sound os kept w. (refl, tt);
  passed = λ P t right s sound os kept w. tt;
  one = λ exclude pieces s formed h os. one_answer (says_ok ∷ []);
  speaks = λ s formed os. answers_speak _ tt;
}
