-- What an accepted row changes is a fit change: by the one law of all rows.
use Rattle.std.proofs.Common.{◌≡◌, ℕ, ◌+◌, ◌≤◌, Bool, true, false, List, [], ◌∷◌, map, length, Option, Some, None, nat_le, refl, ap, ◌∙◌, subst, arith, append-nil}
use Rattle.std.specs.Prelude.{IsTrue, nat_lt}
use Rattle.std.specs.List.{AllByRecursion}
use Rattle.std.proofs.lemmas.Bool.{leb-true}
use Rattle.rp_geometry.specs.sets.Shape.{Part}
use Rattle.rp_geometry.specs.parts.Parts.{IsPart, IsRegion}
use Rattle.rp_geometry.proofs.Kept.{part_is_checked}
use Rattle.rp_language.specs.Name.{Label}
use Rattle.rp_language.specs.Expression.{Command, IsKeptExpression, expressions_of, named, register, cut, subdivide, consolidate, retire}
use Rattle.rp_semantics.specs.Walk.{Outcome, done, limit_met, Walk, Work, no_work, pass, stop, after_first, first_tester}
use Rattle.rp_semantics.specs.FormLaws.{IfDone}
use Rattle.rp_model.specs.states.State.{Lot, NewLot, PlainState, state_of_parts, parts_in, parts_under_lots, Change, lots_replaced, changed, most_kept_parts}
use Rattle.rp_model.specs.states.Sound.{are_distinct, IsSound, IsLaterThan}
use Rattle.rp_model.specs.commands.Verdict.{Refusal, too_few, unknown}
use Rattle.rp_model.specs.commands.Checks.{refuse_if, and_then, check_live, check_new, check_each, check_subdivide, check_repeated}
use Rattle.rp_model.specs.commands.Reply.{Reply, accepted, refusal, check, check_size}
use Rattle.rp_model.specs.commands.Subdivide.{FormedChild, child_parts, row_subdivide}
use Rattle.rp_model.specs.commands.Parts.{joined_parts}
use Rattle.rp_model.specs.commands.Register.{row_register}
use Rattle.rp_model.specs.commands.Cut.{row_cut}
use Rattle.rp_model.specs.commands.Consolidate.{row_consolidate}
use Rattle.rp_model.specs.commands.Retire.{row_retire}
use Rattle.rp_model.specs.commands.Row.{row}
use Rattle.rp_model.proofs.Refusals.{neither}
use Rattle.rp_correctness.proofs.Rows.{first_rows}
use Rattle.rp_states.proofs.Accepted.{not_repeated}
use Rattle.rp_history.specs.declared.fault.NameFault.{NameFault}
use Rattle.rp_history.specs.declared.fault.NameFault.TheVariants.{Unknown}
use Rattle.rp_history.specs.Checks.{FailsNames}
use Rattle.rp_history.specs.Lots.{lots_in}
use Rattle.rp_register_state.specs.Taken.{IsTaken}
use Rattle.rp_register_state.proofs.Applied.{lots_are_new}
use Rattle.rp_register_state.proofs.States.{row_taken, taken_where_checked}
use Rattle.rp_parcels.specs.Kept.{AreSound}
use Rattle.rp_parcels.specs.Register.{IsLater, IsFitChange}
use Rattle.rp_parcels.proofs.Named.{child_line, named_parts, AreNamed, named_sound, found_each, row_named, row_named_each}

-- ---- the law

-- the lots of a sound state are sound
lots_alone : (s : PlainState) → IsSound (state_of_parts s) → AreSound s.lots
lots_alone s h = record {
  names_keep_parts = tt;
  lots_keep_parts = h.lots_keep_parts;
  names_distinct = refl;
  ids_distinct = h.ids_distinct;
  live_lots_apart = h.live_lots_apart;
  lots_nonempty = h.lots_nonempty;
  few_names = omega arith;
  few_parts_under_names = omega arith;
  few_parts_under_lots = h.few_parts_under_lots;
  ends_after_birth = h.ends_after_birth;
  origins_before = h.origins_before;
  origins_of_layer = h.origins_of_layer;
}

-- a change is fit where the row accepts it
abbrev pub Fits : List (Lot (Unit {0})) → ℕ → Walk Work Reply → Type 0
Fits lots n walk = (ids : List Label) (new : List (NewLot (Unit {0}))) (w v : Work) → walk w ≡ done (accepted (lots_replaced ids new)) v → IsFitChange n lots ids new

module _ (lots : List (Lot (Unit {0}))) (sound : AreSound lots) (n : ℕ) (late : IsLater n lots) where
  -- so it is of each command, over names of given parts
  row_fits : (y : Label) (cs : List FormedChild) → AreNamed cs → (c : Command) → AllByRecursion IsKeptExpression (expressions_of c) → Fits lots n (row first_tester (named_parts y cs lots) c)
  row_fits y cs are_named c kept ids new w v e =
      let p = named_parts y cs lots in
      let late_here : IsLaterThan n (state_of_parts p) = record { births = late.births; ends = late.ends } in
      let taken = subst (λ (o : Outcome Work Reply). IfDone o (λ r. IsTaken IsPart n p r.change)) e (row_taken IsPart first_tester first_rows p (named_sound y cs lots sound are_named) n late_here c kept w) in
      record {
        fresh = lots_are_new n p ids new taken.known (taken_where_checked IsPart part_is_checked n p (lots_replaced ids new) taken).sound;
        sound = lots_alone (changed n p (lots_replaced ids new)) taken.sound;
      }

-- ---- checks that passed

-- an accepted row has passed its check
check_passed : (o : Option Refusal) (rest : Walk Work Reply) (d : Change (Unit {0})) (w v : Work) → check o rest w ≡ done (accepted d) v → (o ≡ None) × (rest w ≡ done (accepted d) v)
check_passed None rest d w v e = (refl, e)
check_passed (Some r) rest d w v e = let f : refusal r ≡ accepted d = cc in let g = ap (λ (a : Reply). a.verdicts) f in absurd (cc)

-- and the size before the rest
size_passed : (size most : ℕ) (rest : Walk Work Reply) (d : Change (Unit {0})) (w v : Work) → after_first (λ _. rest) (check_size size most w) ≡ done (accepted d) v → size ≤ most
size_passed size most rest d w v e = by (nat_le size most) refl e
  where
    by : (b : Bool) → nat_le size most ≡ b → after_first (λ _. rest) ((elim b as (λ _. Walk Work (Unit {0})) [ true ↦ pass tt | false ↦ stop limit_met ]) w) ≡ done (accepted d) v → size ≤ most
    by true f g = leb-true size most f
    by false f g = absurd (cc)

-- the ids of a subdivision that passes its checks are distinct
children_distinct : (s : PlainState) (x : Label) (ids : List Label) → check_subdivide s x ids ≡ None → IsTrue (are_distinct ids)
children_distinct s x ids e =
    let many = neither (refuse_if (nat_lt (length ids) 2) too_few) (and_then (check_live s x) (and_then (check_each (check_new s) ids) (check_repeated [] ids))) e in
    let live = neither (check_live s x) (and_then (check_each (check_new s) ids) (check_repeated [] ids)) many.1 in
    not_repeated ids (neither (check_each (check_new s) ids) (check_repeated [] ids) live.1).1

-- ---- each row

-- no names
none_named : AreNamed []
none_named = record { distinct = refl; regions = tt; few = omega arith; room = omega arith }

-- one name
one_named : (x : Label) (ps : List Part) → IsRegion ps → AreNamed (record { id = x; parts = ps } ∷ [])
one_named x ps h = record { distinct = refl; regions = (h, tt); few = omega arith; room = let few = h.few in let all = ap (length {A = Part}) (append-nil ps) in omega (arith, few, all) }

module _ (lots : List (Lot (Unit {0}))) (sound : AreSound lots) (n : ℕ) (late : IsLater n lots) where
  -- a registration
  pub register_fits : (y x : Label) (ps : List Part) → IsRegion ps → Fits lots n (row_register first_tester (lots_in y lots) x ps)
  register_fits y x ps h ids new w v e =
      let cs = record { id = x; parts = ps } ∷ [] in
      row_fits lots sound n late y cs (one_named x ps h) (register x (named x)) (tt, tt) ids new w v
      (row_named (parts_in (named_parts y cs lots)) x ps (found_each y cs lots refl).0 (λ qs. row_register first_tester (named_parts y cs lots) x qs) w ∙ e)

  -- a cut
  pub cut_fits : (x : Label) (ps : List Part) (first second : Label) → IsRegion ps → Fits lots n (row_cut first_tester (lots_in [] lots) x ps first second)
  cut_fits x ps first second h ids new w v e =
      let cs = record { id = x; parts = ps } ∷ [] in
      row_fits lots sound n late [] cs (one_named x ps h) (cut x (named x) first second) (tt, tt) ids new w v
      (row_named (parts_in (named_parts [] cs lots)) x ps (found_each [] cs lots refl).0 (λ qs. row_cut first_tester (named_parts [] cs lots) x qs first second) w ∙ e)

  -- a consolidation
  pub consolidate_fits : (x : Label) (js : List Label) → Fits lots n (row_consolidate (lots_in [] lots) x js)
  consolidate_fits x js ids new w v e = row_fits lots sound n late [] [] none_named (consolidate x js) tt ids new w v e

  -- a retirement
  pub retire_fits : (x : Label) → Fits lots n (row_retire (lots_in [] lots) x)
  retire_fits x ids new w v e = row_fits lots sound n late [] [] none_named (retire x) tt ids new w v e

  -- the expressions of children are names
  names_kept : (cs : List FormedChild) → AllByRecursion IsKeptExpression (map (λ c. c.shape) (map child_line cs))
  names_kept [] = tt
  names_kept (c ∷ cs) = (tt, names_kept cs)

  -- a subdivision
  pub subdivide_fits : (x : Label) (cs : List FormedChild) → AllByRecursion (λ c. IsRegion c.parts) cs → length cs ≤ 1024 → Fits lots n (row_subdivide first_tester (lots_in [] lots) x cs)
  subdivide_fits x cs h few ids new w v e =
      let passed = check_passed _ _ (lots_replaced ids new) w v e in
      let checked = neither (check_subdivide (lots_in [] lots) x (map (λ c. c.id) cs)) _ passed.0 in
      let distinct = children_distinct (lots_in [] lots) x (map (λ c. c.id) cs) checked.0 in
      let size = size_passed (parts_under_lots lots + length (joined_parts (child_parts cs))) most_kept_parts _ (lots_replaced ids new) w v passed.1 in
      row_fits lots sound n late [] cs (record { distinct = distinct; regions = h; few = few; room = omega (arith, size) }) (subdivide x (map child_line cs)) (names_kept cs) ids new w v
      (row_named_each (parts_in (named_parts [] cs lots)) cs (found_each [] cs lots distinct) (λ ds. row_subdivide first_tester (named_parts [] cs lots) x ds) w ∙ e)

-- a retirement of a live lot is accepted
pub retire_is_fit : (lots : List (Lot (Unit {0}))) → AreSound lots → (n : ℕ) → IsLater n lots → (x : Label) → row_retire {W = Work} (lots_in [] lots) x no_work ≡ done (accepted (lots_replaced (x ∷ []) [])) no_work → IsFitChange n lots (x ∷ []) []
retire_is_fit lots sound n late x e = retire_fits lots sound n late x (x ∷ []) [] no_work no_work e

-- where it is live
pub retire_accepted : (lots : List (Lot (Unit {0}))) (x : Label) → check_live (lots_in [] lots) x ≡ None → row_retire {W = Work} (lots_in [] lots) x no_work ≡ done (accepted (lots_replaced (x ∷ []) [])) no_work
retire_accepted lots x e = ap (λ (o : Option Refusal). check o (pass (accepted (lots_replaced (x ∷ []) []))) no_work) e

-- and refused where it is not
pub retire_refused : (lots : List (Lot (Unit {0}))) (x : Label) (e : NameFault) → e ≡ Unknown x → FailsNames e (check_live (lots_in [] lots) x) → row_retire {W = Work} (lots_in [] lots) x no_work ≡ done (refusal (unknown x)) no_work
retire_refused lots x e is h =
    let fails : check_live (lots_in [] lots) x ≡ Some (unknown x) = subst (λ (f : NameFault). FailsNames f (check_live (lots_in [] lots) x)) is h in
    ap (λ (o : Option Refusal). check o (pass (accepted (lots_replaced (x ∷ []) []))) no_work) fails
