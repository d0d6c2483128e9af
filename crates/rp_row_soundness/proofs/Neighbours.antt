-- Questions about lots: the neighbours of a lot are the other live lots in contact with it, and an audit names the number of live lots.
use Rattle.std.proofs.Common.{◌≡◌, Bool, true, false, not, List, [], ◌∷◌, ◌++◌, inl, inr, refl, ap, sym, ◌∙◌, subst}
use Rattle.std.proofs.lemmas.List.{append_assoc}
use Rattle.std.specs.Prelude.{IsTrue, ◌↔◌, Option, Some, None, unwrap_or, length}
use Rattle.std.specs.List.{AllByRecursion}
use Rattle.rp_algebra.proofs.Tests.{false_not_true}
use Rattle.rp_algebra.proofs.Lists.{all_filter}
use Rattle.rp_language.specs.Name.{Label, label_eq}
use Rattle.rp_geometry.specs.sets.Shape.{Shape, Part, shape_of_parts, IsMember, is_member}
use Rattle.rp_geometry.specs.sets.Contact.{IsInContact}
use Rattle.rp_semantics.specs.Walk.{Outcome, done, stopped, Tester, pass, after_first}
use Rattle.rp_semantics.specs.Form.{touch_nearby, near_pair, touching_pair, parts_or_none}
use Rattle.rp_model.specs.states.State.{Lot, State, is_live, live_lots, live_lot, lots_of_layer, present_lots, layer_with_id, other_live_lots_of_layer, parts_of_lot, set_of_lot, alive_after, is_alive_after, parts_in, sets_in, lineage, nothing_changes}
use Rattle.rp_model.specs.commands.Verdict.{Verdict, neighbour_lines, lot_lines}
use Rattle.rp_model.specs.commands.Checks.{check_live, check_registered}
use Rattle.rp_model.specs.commands.Parts.{parts_with_id, count_with_each, lot_parts}
use Rattle.rp_model.specs.commands.Neighbours.{touched_lots, row_neighbours, AreSelected, rule_neighbours}
use Rattle.rp_model.specs.commands.Audit.{row_audit, all_apart, count_in_layers}
use Rattle.rp_model.specs.commands.Rules.{answers, Rule}
use Rattle.rp_model.specs.commands.Sets.{set_with_id, set_of}
use Rattle.rp_geometry.specs.parts.Parts.{AreOf}
use Rattle.rp_model.specs.states.Sound.{IsSoundWith}
use Rattle.rp_semantics.specs.FormLaws.{IfDone, Agree, WalksAreRight}
use Rattle.rp_semantics.proofs.Outcomes.{then_done, after_done, weaker_done}
use Rattle.rp_geometry.proofs.SameMembers.{same_back, contact_same}
use Rattle.rp_row_soundness.proofs.Outcomes.{names_done}
use Rattle.rp_row_soundness.proofs.Meanings.{meanings_agree}
use Rattle.rp_forms.proofs.Forms.{none_of}
use Rattle.rp_language.specs.Expression.{ask_neighbours, ask_audit, member_verb, neighbours_verb, history_verb, at_verb, asof_verb, audit_verb, list_verb}
use Rattle.rp_model.specs.commands.Row.{row_of}
use Rattle.rp_model.specs.commands.Definition.{nothing_formed}
use Rattle.rp_model.specs.commands.Rule.{rule_after_labels, with_parts}
use Rattle.rp_reports.specs.laws.RowLaws.{NewPartsAreOf}
use Rattle.rp_row_soundness.proofs.Points.{member_meets, owner_meets}
use Rattle.rp_geometry.specs.Geometry.{RationalPoint}
use Rattle.rp_model.specs.commands.At.{parcel_at}
use Rattle.rp_row_soundness.proofs.Stopped.{stopped_told, stopped_passed, never_stopped}
use Rattle.rp_row_soundness.proofs.OneAnswer.{IsOneAtMost, one_answer, one_of_yes, one_after_names}
use Rattle.rp_row_soundness.proofs.AfterForms.{asked}
use Rattle.rp_row_soundness.proofs.Laws.{Meets}
use Rattle.rp_row_soundness.proofs.Spoken.{IsSpoken, Speaks, answers_speak, yes_speaks, names_speak}

-- ---- the parts of lots

-- the parts that a label stands for have the members of its set, also where it stands for nothing
agreed_are_of : (P : Part → Type 0) (o : Option (List Part)) (u : Option Shape) → Agree P o u → AreOf P (unwrap_or u Shape.nothing) (parts_or_none o)
agreed_are_of P None None h = none_of P
agreed_are_of P (Some ps) (Some a) h = h
agreed_are_of P None (Some a) h = elim h [ ]
agreed_are_of P (Some ps) None h = elim h [ ]

-- the parts of an id have the members of its set
pub lot_is_of : (P : Part → Type 0) (s : State) → IsSoundWith P s → (x : Label) → AreOf P (set_with_id s x) (parts_with_id s x)
lot_is_of P s sound x = agreed_are_of P (parts_of_lot (live_lot x s.lots)) (set_of_lot (live_lot x s.lots)) ((meanings_agree P s sound).lots x)

-- the parts of each live lot have the members of its set
pub live_are_of : (P : Part → Type 0) (s : State) → IsSoundWith P s → AllByRecursion (λ l. AreOf P l.set l.parts) (live_lots s.lots)
live_are_of P s sound = all_filter (λ l. AreOf P l.set l.parts) is_live s.lots sound.lots_keep_parts

-- the parts of each live lot of a layer have the members of its set
pub live_of_layer_are_of : (P : Part → Type 0) (s : State) → IsSoundWith P s → (y : Label) → AllByRecursion (λ l. AreOf P l.set l.parts) (lots_of_layer y (live_lots s.lots))
live_of_layer_are_of P s sound y = all_filter (λ l. AreOf P l.set l.parts) (λ l. label_eq l.layer y) (live_lots s.lots) (live_are_of P s sound)

-- the parts of each live lot of the present layer have the members of its set
pub present_are_of : (P : Part → Type 0) (s : State) → IsSoundWith P s → AllByRecursion (λ l. AreOf P l.set l.parts) (present_lots s)
present_are_of P s sound = live_of_layer_are_of P s sound s.layer

-- ---- neighbours

-- the lots of a list that touch a set, behind the ids found before
pub record TouchedBehind (a : Shape) (ls : List (Lot Shape)) (found more : List Label) : Type 0 where
  pub ids : List Label
  pub behind : more ≡ found ++ ids
  pub selected : AreSelected (λ l. IsInContact a l.set) ls ids

module _ {W : Type 0} (P : Part → Type 0) (t : Tester W) (right : WalksAreRight P t) where
  -- the lots of a list that touch the parts are those in contact with the set
  touched_done : (a : Shape) (ps : List Part) → AreOf P a ps → (ls : List (Lot Shape)) → AllByRecursion (λ l. AreOf P l.set l.parts) ls → (found : List Label) (w : W) → IfDone (touched_lots t found ps ls w) (TouchedBehind a ls found)
  touched_done a ps h [] k found w = record { ids = []; behind = sym (append_nil found); selected = refl }
    where
      append_nil : (xs : List Label) → xs ++ [] ≡ xs
      append_nil [] = refl
      append_nil (x ∷ xs) = ap (λ ys. x ∷ ys) (append_nil xs)
  touched_done a ps h (l ∷ ls) k found w =
      by_touch (touch_nearby t ps l.parts w) (right.touches ps l.parts h.all k.0.all w).1 (touched_done a ps h ls k.1)
    where
      touches_set : IsInContact (shape_of_parts ps) (shape_of_parts l.parts) → IsInContact a l.set
      touches_set = contact_same (shape_of_parts ps) (shape_of_parts l.parts) a l.set h.members k.0.members

      touches_parts : IsInContact a l.set → IsInContact (shape_of_parts ps) (shape_of_parts l.parts)
      touches_parts = contact_same a l.set (shape_of_parts ps) (shape_of_parts l.parts) (same_back (shape_of_parts ps) a h.members) (same_back (shape_of_parts l.parts) l.set k.0.members)

      with_one : (more : List Label) → IsInContact a l.set → TouchedBehind a ls (found ++ l.id ∷ []) more → TouchedBehind a (l ∷ ls) found more
      with_one more c b = record { ids = l.id ∷ b.ids; behind = b.behind ∙ append_assoc found (l.id ∷ []) b.ids; selected = inl (b.ids, c, refl, b.selected) }

      without_one : (more : List Label) → (IsInContact a l.set → ⊥) → TouchedBehind a ls found more → TouchedBehind a (l ∷ ls) found more
      without_one more n b = record { ids = b.ids; behind = b.behind; selected = inr (n, b.selected) }

      by_test : (b : Bool) (v : W) → IsTrue b ↔ IsInContact (shape_of_parts ps) (shape_of_parts l.parts) → ((found : List Label) (w : W) → IfDone (touched_lots t found ps ls w) (TouchedBehind a ls found))
          → IfDone (touched_lots t (elim b as (λ _. List Label) [ true ↦ found ++ l.id ∷ [] | false ↦ found ]) ps ls v) (TouchedBehind a (l ∷ ls) found)
      by_test true v f rest =
          weaker_done (TouchedBehind a ls (found ++ l.id ∷ [])) (TouchedBehind a (l ∷ ls) found) (touched_lots t (found ++ l.id ∷ []) ps ls v) (rest (found ++ l.id ∷ []) v)
          (λ more. with_one more (touches_set (f.0 refl)))
      by_test false v f rest =
          weaker_done (TouchedBehind a ls found) (TouchedBehind a (l ∷ ls) found) (touched_lots t found ps ls v) (rest found v)
          (λ more. without_one more (λ c. false_not_true false (f.1 (touches_parts c)) refl))

      by_touch : (o : Outcome W Bool) → IfDone o (λ b. IsTrue b ↔ IsInContact (shape_of_parts ps) (shape_of_parts l.parts)) → ((found : List Label) (w : W) → IfDone (touched_lots t found ps ls w) (TouchedBehind a ls found))
          → IfDone (after_first (λ more. touched_lots t more ps ls) (after_first (λ touches. pass (elim touches as (λ _. List Label) [ true ↦ found ++ l.id ∷ [] | false ↦ found ])) o)) (TouchedBehind a (l ∷ ls) found)
      by_touch (done b v) f rest = by_test b v f rest
      by_touch (stopped e v) f rest = tt

  -- the neighbours of a live lot
  pub neighbours_meet : (s : State) → IsSoundWith P s → (x : Label) (w : W) → IfDone (row_neighbours t s x w) (λ r. rule_neighbours s x r.verdicts)
  neighbours_meet s sound x w =
      weaker_done (λ r. rule_neighbours s x r.verdicts × Unit {0}) (λ r. rule_neighbours s x r.verdicts) (row_neighbours t s x w)
      (names_done (λ _. Unit {0}) (check_live s x) told _ w (λ r. tt)
      (λ e. after_done (λ r. told r.verdicts × Unit {0}) (t.count (count_with_each touching_pair (parts_with_id s x) (lot_parts (other_live_lots_of_layer s x))) w) _
      (λ _ v. then_done (TouchedBehind (set_with_id s x) (other_live_lots_of_layer s x) []) (λ r. told r.verdicts × Unit {0}) (touched_lots t [] (parts_with_id s x) (other_live_lots_of_layer s x) v) _
      (touched_done (set_with_id s x) (parts_with_id s x) (lot_is_of P s sound x) (other_live_lots_of_layer s x) (all_filter (λ l. AreOf P l.set l.parts) (λ l. not (label_eq x l.id)) (lots_of_layer (layer_with_id s x) (live_lots s.lots)) (live_of_layer_are_of P s sound (layer_with_id s x))) [] v)
      (λ more u b. ((b.ids, b.selected, ap neighbour_lines b.behind), tt)))))
      (λ r k. k.0)
    where
      told : List Verdict → Type 0
      told given = (ids : List Label) × AreSelected (λ l. IsInContact (set_with_id s x) l.set) (other_live_lots_of_layer s x) ids × answers (neighbour_lines ids) given

  -- the number of live lots
  pub audit_meets : (s : State) (w : W) → IfDone (row_audit t s w) (λ r. answers (Verdict.clear (length (live_lots s.lots)) ∷ []) r.verdicts)
  audit_meets s w =
      after_done (λ r. answers (Verdict.clear (length (live_lots s.lots)) ∷ []) r.verdicts) (t.count (count_in_layers near_pair (live_lots s.lots)) w) _
      (λ _ v. after_done (λ r. answers (Verdict.clear (length (live_lots s.lots)) ∷ []) r.verdicts) (all_apart t (live_lots s.lots) v) _ (λ _ u. refl))

-- ---- one verdict

-- the ids of selected lots
one_selection : (F : Lot Shape → Type 0) (ls : List (Lot Shape)) (ids other : List Label) → AreSelected F ls ids → AreSelected F ls other → ids ≡ other
one_selection F [] ids other e f = e ∙ sym f
one_selection F (l ∷ ls) ids other (inl (more, a, e, h)) (inl (rest, b, f, k)) = e ∙ ap (λ xs. l.id ∷ xs) (one_selection F ls more rest h k) ∙ sym f
one_selection F (l ∷ ls) ids other (inl (more, a, e, h)) (inr (n, k)) = absurd (n a)
one_selection F (l ∷ ls) ids other (inr (n, h)) (inl (more, a, e, k)) = absurd (n a)
one_selection F (l ∷ ls) ids other (inr (n, h)) (inr (m, k)) = one_selection F ls ids other h k

-- the other live lots that fulfil a fact
one_list : (F : Lot Shape → Type 0) (ls : List (Lot Shape)) → IsOneAtMost (λ given. (ids : List Label) × AreSelected F ls ids × answers (neighbour_lines ids) given)
one_list F ls given other (ids, h, e) (xs, k, f) = e ∙ ap neighbour_lines (one_selection F ls ids xs h k) ∙ sym f

-- the lot that has a point
one_parcel : (ls : List (Lot Shape)) (p : RationalPoint) → IsOneAtMost (parcel_at ls p)
one_parcel [] p = one_answer (Verdict.nobody ∷ [])
one_parcel (l ∷ ls) p = by_test (is_member l.set p) (one_parcel ls p)
  where
    by_test : (b : Bool) → IsOneAtMost (parcel_at ls p) → IsOneAtMost (elim b as (λ _. (List Verdict → Type 0)) [ true ↦ answers (Verdict.parcel l.id ∷ []) | false ↦ parcel_at ls p ])
    by_test true rest = one_answer (Verdict.parcel l.id ∷ [])
    by_test false rest = rest

-- whose the point is
parcel_speaks : (ls : List (Lot Shape)) (p : RationalPoint) → Speaks (parcel_at ls p)
parcel_speaks [] p = answers_speak _ tt
parcel_speaks (l ∷ ls) p = by (is_member l.set p) (parcel_speaks ls p)
  where
    by : (b : Bool) → Speaks (parcel_at ls p) → Speaks (elim b as (λ _. Rule) [ true ↦ answers (Verdict.parcel l.id ∷ []) | false ↦ parcel_at ls p ])
    by true k = answers_speak _ tt
    by false k = k

-- ---- the laws of each

-- member
pub member_laws : Meets member_verb
member_laws = record {
  replies = λ P t right s sound (e, (p, end)) kept w. (member_meets P (parts_in s) (sets_in s) (meanings_agree P s sound) e p, tt);
  passed = λ P t right s sound os kept w. tt;
  one = λ exclude pieces s formed h (e, (p, end)). one_of_yes (IsMember (set_of s e) p);
  speaks = λ s formed os. yes_speaks _;
}

-- neighbours
pub neighbours_laws : Meets neighbours_verb
neighbours_laws = record {
  replies = λ P t right s sound (x, end) kept w. asked P t right s sound (rule_after_labels s nothing_formed (ask_neighbours x)) (row_neighbours t s x w) (neighbours_meet P t right s sound x w);
  passed = λ P t right s sound (x, end) kept w. stopped_passed (check_live s x) _ w;
  one = λ exclude pieces s formed h (x, end).
      one_after_names (check_live s x) (λ given. (ids : List Label) × AreSelected (λ l. IsInContact (set_with_id s x) l.set) (other_live_lots_of_layer s x) ids × answers (neighbour_lines ids) given)
      (one_list (λ l. IsInContact (set_with_id s x) l.set) (other_live_lots_of_layer s x));
  speaks = λ s formed (x, end). names_speak (check_live s x) _ (λ given h. subst IsSpoken (sym h.2) tt);
}

-- history
pub history_laws : Meets history_verb
history_laws = record {
  replies = λ P t right s sound (x, end) kept w.
      names_done (λ r. NewPartsAreOf P (with_parts nothing_changes r.change)) (check_registered s x) (answers (Verdict.lots (length (lineage x s.lots)) ∷ lot_lines (lineage x s.lots))) _ w (λ r. tt) (λ e. (refl, tt));
  passed = λ P t right s sound (x, end) kept w. never_stopped (check_registered s x) _ w;
  one = λ exclude pieces s formed h (x, end).
      one_after_names (check_registered s x) (answers (Verdict.lots (length (lineage x s.lots)) ∷ lot_lines (lineage x s.lots))) (one_answer (Verdict.lots (length (lineage x s.lots)) ∷ lot_lines (lineage x s.lots)));
  speaks = λ s formed (x, end). names_speak (check_registered s x) _ (answers_speak _ tt);
}

-- at
pub at_laws : Meets at_verb
at_laws = record {
  replies = λ P t right s sound (p, end) kept w. (owner_meets P (present_lots s) (present_are_of P s sound) p, tt);
  passed = λ P t right s sound os kept w. tt;
  one = λ exclude pieces s formed h (p, end). one_parcel (present_lots s) p;
  speaks = λ s formed (p, end). parcel_speaks (present_lots s) p;
}

-- asof
pub asof_laws : Meets asof_verb
asof_laws = record {
  replies = λ P t right s sound (n, (p, end)) kept w. (owner_meets P (lots_of_layer s.layer (alive_after n s.lots)) (all_filter (λ l. AreOf P l.set l.parts) (λ l. label_eq l.layer s.layer) (alive_after n s.lots) (all_filter (λ l. AreOf P l.set l.parts) (is_alive_after n) s.lots sound.lots_keep_parts)) p, tt);
  passed = λ P t right s sound os kept w. tt;
  one = λ exclude pieces s formed h (n, (p, end)). one_parcel (lots_of_layer s.layer (alive_after n s.lots)) p;
  speaks = λ s formed (n, (p, end)). parcel_speaks (lots_of_layer s.layer (alive_after n s.lots)) p;
}

-- audit
pub audit_laws : Meets audit_verb
audit_laws = record {
  replies = λ P t right s sound os kept w. asked P t right s sound (rule_after_labels s nothing_formed ask_audit) (row_audit t s w) (audit_meets P t right s w);
  passed = λ P t right s sound os kept w. stopped_told (row_of t s ask_audit w) (Unit {0}) tt;
  one = λ exclude pieces s formed h os. one_answer (Verdict.clear (length (live_lots s.lots)) ∷ []);
  speaks = λ s formed os. answers_speak _ tt;
}

-- list
pub list_laws : Meets list_verb
list_laws = record {
  replies = λ P t right s sound os kept w. (refl, tt);
  passed = λ P t right s sound os kept w. tt;
  one = λ exclude pieces s formed h os. one_answer (Verdict.parcels (length (live_lots s.lots)) ∷ lot_lines (live_lots s.lots));
  speaks = λ s formed os. answers_speak _ tt;
}
