-- Questions about one or two sets: the verdict of each row is the one that the rule wants.
use Rattle.std.proofs.Common.{ℕ, Bool, true, false, List, [], ◌∷◌, inl, inr, refl, sym, ap, ◌∙◌, subst}
use Rattle.std.specs.Prelude.{IsTrue, ◌↔◌}
use Rattle.rp_algebra.proofs.Tests.{false_not_true}
use Rattle.rp_geometry.specs.sets.Shape.{Shape, Part, shape_of_parts}
use Rattle.rp_geometry.specs.sets.Sets.{IsEmpty, IsWithin, SameMembers, Overlaps, IsNonempty}
use Rattle.rp_geometry.specs.sets.Contact.{IsInContact}
use Rattle.rp_geometry.specs.sets.Relation.{StandIn, Relation}
use Rattle.rp_semantics.specs.Walk.{Outcome, Walk, Tester, pass, after_first}
use Rattle.rp_semantics.specs.Form.{common_in_full, touch_in_full, form}
use Rattle.rp_model.specs.commands.Verdict.{Verdict, piece_lines, part_lines_of, section_lines, empty_region}
use Rattle.rp_geometry.specs.sets.Pieces.{ArePieces}
use Rattle.rp_model.specs.commands.Reply.{Reply, yes_or_no, reply_lines, reply}
use Rattle.rp_model.specs.commands.Empty.{row_empty}
use Rattle.rp_model.specs.commands.Within.{row_within}
use Rattle.rp_model.specs.commands.Equal.{row_equal}
use Rattle.rp_model.specs.commands.Overlap.{row_overlap}
use Rattle.rp_model.specs.commands.Contact.{row_contact}
use Rattle.rp_model.specs.commands.Rcc.{row_relation, rule_relation}
use Rattle.rp_model.specs.commands.Pieces.{row_pieces}
use Rattle.rp_model.specs.commands.Rules.{answers, yes_where, Rule, refused_where}
use Rattle.rp_semantics.specs.Compare.{show_then_no, is_covered, relation_of_parts}
use Rattle.rp_semantics.specs.Pieces.{pieces_of_parts}
use Rattle.rp_geometry.specs.parts.Parts.{AreParts, AreOf}
use Rattle.rp_semantics.specs.FormLaws.{IfDone}
use Rattle.rp_semantics.specs.FormLaws.{WalksAreRight}
use Rattle.rp_semantics.proofs.Outcomes.{then_done, weaker_done}
use Rattle.rp_geometry.proofs.SameMembers.{same_back, nonempty_same, within_same, overlaps_same, contact_same}
use Rattle.rp_parts.proofs.Relations.{relations_are_of_members_spec, same_unless}
use Rattle.rp_forms.proofs.Cover.{empty_of_none}
use Rattle.rp_row_soundness.proofs.Parts.{some_part_is_nonempty, shown_done, cover_done}
use Rattle.std.specs.List.{AllByRecursion}
use Rattle.rp_language.specs.Expression.{ask_section, Verb, section_verb, empty_verb, pieces_verb, show_verb, equal_verb, within_verb, overlap_verb, contact_verb, rcc_verb}
use Rattle.rp_model.specs.states.State.{State, parts_in, nothing_changes}
use Rattle.rp_model.specs.commands.Row.{row_of}
use Rattle.rp_model.specs.commands.Rule.{rule_after_labels}
use Rattle.rp_model.specs.commands.Sets.{set_of}
use Rattle.rp_model.specs.states.Sound.{IsSoundWith}
use Rattle.rp_row_soundness.proofs.Outcomes.{Replies}
use Rattle.rp_row_soundness.specs.Limits.{IfDoneWith}
use Rattle.rp_geometry.specs.laws.RegionLaws.{RelationsExclude}
use Rattle.rp_geometry.specs.laws.PieceLaws.{IsNonemptyPart, PiecesAreOne}
use Rattle.rp_model.specs.commands.Table.{entry}
use Rattle.rp_row_soundness.proofs.Stopped.{IfStopped, stopped_told}
use Rattle.rp_row_soundness.proofs.OneAnswer.{IsOneAtMost, one_answer, one_of_yes, one_where}
use Rattle.rp_row_soundness.proofs.AfterForms.{form_slices_done, form_stopped}
use Rattle.rp_row_soundness.proofs.Laws.{Meets, MeetsEntry, entry_replies, entry_one, entry_speaks}
use Rattle.rp_row_soundness.proofs.Spoken.{IsSpoken, answers_speak, yes_speaks, refused_speaks}

-- ---- yes or no

-- the answer of a test that passes exactly where the fact holds
pub yes_if : (C : Type 0) (b : Bool) → IsTrue b ↔ C → yes_where C (yes_or_no b).verdicts
yes_if C true h = inl (h.0 refl, refl)
yes_if C false h = inr (λ c. false_not_true false (h.1 c) refl, refl)

-- a walk that answers a test, and then yes or no
yes_done : {W : Type 0} (A C : Type 0) (o : Outcome W Bool) → IfDone o (λ b. IsTrue b ↔ A) → (A → C) → (C → A) → IfDone (after_first (λ b. pass (yes_or_no b)) o) (λ r. yes_where C r.verdicts)
yes_done A C o h to from = then_done (λ b. IsTrue b ↔ A) (λ r. yes_where C r.verdicts) o (λ b. pass (yes_or_no b)) h (λ b v f. yes_if C b (λ e. to (f.0 e), λ c. f.1 (from c)))

module _ {W : Type 0} (P : Part → Type 0) (t : Tester W) (right : WalksAreRight P t) where
  -- whether a set is empty
  pub empty_meets : (a : Shape) (ps : List Part) → AreOf P a ps → (w : W) → IfDone (row_empty t ps w) (λ r. yes_where (IsEmpty a) r.verdicts)
  empty_meets a ps h w = yes_done (IsEmpty a) (IsEmpty a) (show_then_no t ps w) (shown_done P t right.tests a ps h w) (λ n. n) (λ n. n)

  -- whether one set is within another
  pub within_meets : (a b : Shape) (ps qs : List Part) → AreOf P a ps → AreOf P b qs → (w : W) → IfDone (row_within t ps qs w) (λ r. yes_where (IsWithin a b) r.verdicts)
  within_meets a b ps qs h k w =
      yes_done (IsWithin (shape_of_parts ps) (shape_of_parts qs)) (IsWithin a b) (is_covered t ps qs w) (cover_done P t right.tests right.differences ps qs h.all k.all.each w)
      (within_same (shape_of_parts ps) (shape_of_parts qs) a b h.members k.members)
      (within_same a b (shape_of_parts ps) (shape_of_parts qs) (same_back (shape_of_parts ps) a h.members) (same_back (shape_of_parts qs) b k.members))

  -- whether two sets have the same members
  pub equal_meets : (a b : Shape) (ps qs : List Part) → AreOf P a ps → AreOf P b qs → (w : W) → IfDone (row_equal t ps qs w) (λ r. yes_where (SameMembers a b) r.verdicts)
  equal_meets a b ps qs h k w =
      then_done (λ there. IsTrue there ↔ IsWithin (shape_of_parts ps) (shape_of_parts qs)) (λ r. yes_where (SameMembers a b) r.verdicts)
      (is_covered t ps qs w) (λ there. elim there as (λ _. Walk W Reply) [ false ↦ pass (yes_or_no false) | true ↦ row_within t qs ps ])
      (cover_done P t right.tests right.differences ps qs h.all k.all.each w) by_test
    where
      there_is : IsWithin (shape_of_parts ps) (shape_of_parts qs) → IsWithin a b
      there_is = within_same (shape_of_parts ps) (shape_of_parts qs) a b h.members k.members

      is_there : IsWithin a b → IsWithin (shape_of_parts ps) (shape_of_parts qs)
      is_there = within_same a b (shape_of_parts ps) (shape_of_parts qs) (same_back (shape_of_parts ps) a h.members) (same_back (shape_of_parts qs) b k.members)

      with_back : (given : List Verdict) → IsWithin a b → yes_where (IsWithin b a) given → yes_where (SameMembers a b) given
      with_back given i (inl c) = inl ((i, c.0), c.1)
      with_back given i (inr c) = inr (λ same. c.0 same.1, c.1)

      by_test : (there : Bool) (v : W) → IsTrue there ↔ IsWithin (shape_of_parts ps) (shape_of_parts qs) → IfDone ((elim there as (λ _. Walk W Reply) [ false ↦ pass (yes_or_no false) | true ↦ row_within t qs ps ]) v) (λ r. yes_where (SameMembers a b) r.verdicts)
      by_test false v f = inr (λ same. false_not_true false (f.1 (is_there same.0)) refl, refl)
      by_test true v f = weaker_done (λ r. yes_where (IsWithin b a) r.verdicts) (λ r. yes_where (SameMembers a b) r.verdicts) (row_within t qs ps v) (within_meets b a qs ps k h v) (λ r. with_back r.verdicts (there_is (f.0 refl)))

  -- whether two sets share a member
  pub overlap_meets : (a b : Shape) (ps qs : List Part) → AreOf P a ps → AreOf P b qs → (w : W) → IfDone (row_overlap t ps qs w) (λ r. yes_where (Overlaps a b) r.verdicts)
  overlap_meets a b ps qs h k w =
      yes_done (Overlaps (shape_of_parts ps) (shape_of_parts qs)) (Overlaps a b) (common_in_full t ps qs w) (right.commons ps qs h.all k.all w).0
      (overlaps_same (shape_of_parts ps) (shape_of_parts qs) a b h.members k.members)
      (overlaps_same a b (shape_of_parts ps) (shape_of_parts qs) (same_back (shape_of_parts ps) a h.members) (same_back (shape_of_parts qs) b k.members))

  -- whether two sets are in contact
  pub contact_meets : (a b : Shape) (ps qs : List Part) → AreOf P a ps → AreOf P b qs → (w : W) → IfDone (row_contact t ps qs w) (λ r. yes_where (IsInContact a b) r.verdicts)
  contact_meets a b ps qs h k w =
      yes_done (IsInContact (shape_of_parts ps) (shape_of_parts qs)) (IsInContact a b) (touch_in_full t ps qs w) (right.touches ps qs h.all k.all w).0
      (contact_same (shape_of_parts ps) (shape_of_parts qs) a b h.members k.members)
      (contact_same a b (shape_of_parts ps) (shape_of_parts qs) (same_back (shape_of_parts ps) a h.members) (same_back (shape_of_parts qs) b k.members))

  -- the relation of two sets
  pub relation_meets : (a b : Shape) (ps qs : List Part) → AreOf P a ps → AreOf P b qs → (w : W) → IfDone (row_relation t ps qs w) (λ r. rule_relation a b r.verdicts)
  relation_meets a b [] qs h k w = inl (empty_of_none P a h, refl)
  relation_meets a b (p ∷ ps) [] h k w = inr (λ n. absurd (let m = some_part_is_nonempty P t right.tests a p ps h in n m.0 m.1), inl (empty_of_none P b k, refl))
  relation_meets a b (p ∷ ps) (q ∷ qs) h k w =
      let m = some_part_is_nonempty P t right.tests a p ps h in
      let n = some_part_is_nonempty P t right.tests b q qs k in
      then_done (λ r. StandIn r (shape_of_parts (p ∷ ps)) (shape_of_parts (q ∷ qs))) (λ r. rule_relation a b r.verdicts)
      (relation_of_parts t (p ∷ ps) (q ∷ qs) w) (λ r. pass (reply (Verdict.relation r)))
      (right.relations (p ∷ ps) (q ∷ qs) h.all k.all (nonempty_same a (shape_of_parts (p ∷ ps)) (same_back (shape_of_parts (p ∷ ps)) a h.members) m) (nonempty_same b (shape_of_parts (q ∷ qs)) (same_back (shape_of_parts (q ∷ qs)) b k.members) n) w)
      (λ r v is. inr (λ e. e m.0 m.1, inr (λ e. e n.0 n.1, (r, relations_are_of_members_spec (shape_of_parts (p ∷ ps)) a (shape_of_parts (q ∷ qs)) b h.members k.members r is, refl))))

  -- the pieces of a list of parts
  pub pieces_meet : (ps : List Part) → AreParts P ps → (w : W) → IfDone (row_pieces t ps w) (λ r. (gs : List (List ℕ)) × ArePieces ps gs × answers (piece_lines gs) r.verdicts)
  pieces_meet ps h w =
      then_done (λ gs. ArePieces ps gs) (λ r. (gs : List (List ℕ)) × ArePieces ps gs × answers (piece_lines gs) r.verdicts)
      (pieces_of_parts t ps w) (λ gs. pass (reply_lines (piece_lines gs))) (right.pieces ps h w) (λ gs v are. (gs, are, refl))

module _ {W : Type 0} (P : Part → Type 0) (t : Tester W) (right : WalksAreRight P t) (s : State) (sound : IsSoundWith P s) where
  -- where a relation meets a limit, both sets have a member
  relation_passed : (a b : Shape) (ps qs : List Part) → AreOf P a ps → AreOf P b qs → (w : W) → IfStopped (row_relation t ps qs w) (IsNonempty a × IsNonempty b)
  relation_passed a b [] qs h k w = tt
  relation_passed a b (p ∷ ps) [] h k w = tt
  relation_passed a b (p ∷ ps) (q ∷ qs) h k w =
      stopped_told (row_relation t (p ∷ ps) (q ∷ qs) w) (IsNonempty a × IsNonempty b) (some_part_is_nonempty P t right.tests a p ps h, some_part_is_nonempty P t right.tests b q qs k)

-- ---- one verdict

-- the relation of two sets
one_relation : RelationsExclude → (a b : Shape) → IsOneAtMost (rule_relation a b)
one_relation exclude a b =
    one_where (IsEmpty a) (empty_region 1) (refused_where (IsEmpty b) (empty_region 2) stands)
    (λ n. one_where (IsEmpty b) (empty_region 2) stands (λ m. one n m))
  where
    stands : Rule
    stands given = (r : Relation) × StandIn r a b × answers (Verdict.relation r ∷ []) given

    one : ¬ IsEmpty a → ¬ IsEmpty b → IsOneAtMost stands
    one n m given other (r, is_r, e) (q, is_q, f) =
        e ∙ ap (λ x. Verdict.relation x ∷ []) (same_unless r q (λ d. n (λ p k. m (λ u j. d (exclude a b (p, k) (u, j) r q is_r is_q))))) ∙ sym f

-- the pieces of a list of parts
one_pieces : PiecesAreOne → (parts : List Part) → AllByRecursion IsNonemptyPart parts → IsOneAtMost (λ given. (gs : List (List ℕ)) × ArePieces parts gs × answers (piece_lines gs) given)
one_pieces pieces parts h given other (gs, are, e) (hs, are_too, f) =
    let k = pieces parts h in e ∙ ap piece_lines (k.1 gs are ∙ sym (k.1 hs are_too)) ∙ sym f

-- ---- the laws of each

-- what the laws ask of each question about forms
pub meets_of : (verb : Verb) → MeetsEntry (entry verb)
meets_of empty_verb = record { replies = λ P t right a ps h w. empty_meets P t right a ps h w; one = λ exclude pieces formed h a. one_of_yes (IsEmpty a); speaks = λ formed a. yes_speaks _ }
meets_of pieces_verb = record { replies = λ P t right a ps h w. pieces_meet P t right ps h.all w; one = λ exclude pieces formed h a. one_pieces pieces formed.parts h; speaks = λ formed a given h. subst IsSpoken (sym h.2) tt }
meets_of show_verb = record { replies = λ P t right a ps h w. refl; one = λ exclude pieces formed h a. one_answer (part_lines_of formed.parts); speaks = λ formed a. answers_speak _ tt }
meets_of equal_verb = record { replies = λ P t right a b ps qs h k w. equal_meets P t right a b ps qs h k w; one = λ exclude pieces a b. one_of_yes (SameMembers a b); speaks = λ a b. yes_speaks _ }
meets_of within_verb = record { replies = λ P t right a b ps qs h k w. within_meets P t right a b ps qs h k w; one = λ exclude pieces a b. one_of_yes (IsWithin a b); speaks = λ a b. yes_speaks _ }
meets_of overlap_verb = record { replies = λ P t right a b ps qs h k w. overlap_meets P t right a b ps qs h k w; one = λ exclude pieces a b. one_of_yes (Overlaps a b); speaks = λ a b. yes_speaks _ }
meets_of contact_verb = record { replies = λ P t right a b ps qs h k w. contact_meets P t right a b ps qs h k w; one = λ exclude pieces a b. one_of_yes (IsInContact a b); speaks = λ a b. yes_speaks _ }
meets_of rcc_verb = record { replies = λ P t right a b ps qs h k w. relation_meets P t right a b ps qs h k w; one = λ exclude pieces a b. one_relation exclude a b; speaks = λ a b. refused_speaks _ _ _ (refused_speaks _ _ _ (λ given h. subst IsSpoken (sym h.2) tt)) }
meets_of _ = tt

-- rcc
pub rcc_laws : Meets rcc_verb
rcc_laws = record {
  replies = λ P t right s sound os kept w. entry_replies P t right s sound (entry rcc_verb) tt (meets_of rcc_verb) os kept w;
  passed = λ P t right s sound (e, (f, end)) kept w.
      form_stopped P t right s sound e kept.0 (λ _ v. IfDoneWith (form t (parts_in s) f v) (λ _ _. IsNonempty (set_of s e) × IsNonempty (set_of s f))) _ w
      (λ ps v h. form_stopped P t right s sound f kept.1.0 (λ _ _. IsNonempty (set_of s e) × IsNonempty (set_of s f)) _ v (λ qs u k. relation_passed P t right s sound (set_of s e) (set_of s f) ps qs h k u));
  one = λ exclude pieces s formed h os. entry_one (entry rcc_verb) tt (meets_of rcc_verb) exclude pieces s formed h os;
  speaks = λ s formed os. entry_speaks (entry rcc_verb) tt (meets_of rcc_verb) s formed os;
}

-- section
pub section_laws : Meets section_verb
section_laws = record {
  replies = λ P t right s sound (e, (z, end)) kept w. form_slices_done t z (λ f. Replies P nothing_changes (rule_after_labels s f (ask_section e z))) (form t (parts_in s) e w) (λ ps slices. (refl, tt));
  passed = λ P t right s sound (e, (z, end)) kept w. stopped_told (row_of t s (ask_section e z) w) (Unit {0}) tt;
  one = λ exclude pieces s formed h os. one_answer (section_lines formed.slices);
  speaks = λ s formed os. answers_speak _ tt;
}
