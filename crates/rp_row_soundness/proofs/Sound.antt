-- In a sound state names and live lots stand for parts that have the members of their sets.
use Rattle.std.proofs.Common.{true, false, List, [], ◌∷◌}
use Rattle.std.specs.Prelude.{Option, Some}
use Rattle.std.specs.List.{AllByRecursion}
use Rattle.rp_algebra.proofs.Lists.{all_filter}
use Rattle.rp_language.specs.Name.{Label, label_eq}
use Rattle.rp_geometry.specs.sets.Shape.{Shape, Part}
use Rattle.rp_semantics.specs.Walk.{first_tester}
use Rattle.rp_model.specs.states.State.{Kept, Lot, State, is_live, live_lots, kept_named, lot_with_id, parts_of_kept, set_of_kept, parts_of_lot, set_of_lot, parts_in, sets_in}
use Rattle.rp_geometry.specs.parts.Parts.{AreOf, IsPart}
use Rattle.rp_model.specs.states.Sound.{IsSoundWith}
use Rattle.rp_semantics.specs.FormLaws.{Agree, MeaningsAgree}
use Rattle.rp_reports.specs.laws.RowLaws.{FormHasTheMembers}
use Rattle.rp_forms.proofs.First.{first_tester_is_right_spec}
use Rattle.rp_forms.proofs.Forms.{form_is_right_spec}

module _ (P : Part → Type 0) where
  -- the parts and the set of what is kept
  abbrev KeptAgrees : Option (Kept Shape) → Type 0
  KeptAgrees o = Agree P (parts_of_kept o) (set_of_kept o)

  -- the parts and the set of a lot
  abbrev LotAgrees : Option (Lot Shape) → Type 0
  LotAgrees o = Agree P (parts_of_lot o) (set_of_lot o)

  -- what a name stands for
  kept_agrees : (x : Label) (ks : List (Kept Shape)) → AllByRecursion (λ k. AreOf P k.set k.parts) ks → KeptAgrees (kept_named x ks)
  kept_agrees x [] h = tt
  kept_agrees x (k ∷ ks) h = elim (label_eq x k.name) as (λ b. KeptAgrees (elim b [ true ↦ Some k | false ↦ kept_named x ks ])) [ true ↦ h.0 | false ↦ kept_agrees x ks h.1 ]

  -- what a lot stands for
  lot_agrees : (x : Label) (ls : List (Lot Shape)) → AllByRecursion (λ l. AreOf P l.set l.parts) ls → LotAgrees (lot_with_id x ls)
  lot_agrees x [] h = tt
  lot_agrees x (l ∷ ls) h = elim (label_eq x l.id) as (λ b. LotAgrees (elim b [ true ↦ Some l | false ↦ lot_with_id x ls ])) [ true ↦ h.0 | false ↦ lot_agrees x ls h.1 ]

  -- in a sound state
  pub sound_agrees : (s : State) → IsSoundWith P s → MeaningsAgree P (parts_in s) (sets_in s)
  sound_agrees s sound = record {
    names = λ x. kept_agrees x s.names sound.names_keep_parts;
    lots = λ x. lot_agrees x (live_lots s.lots) (all_filter (λ l. AreOf P l.set l.parts) is_live s.lots sound.lots_keep_parts);
  }

-- the law
pub form_has_the_members_spec : FormHasTheMembers
form_has_the_members_spec s sound e k w = form_is_right_spec IsPart first_tester first_tester_is_right_spec (parts_in s) (sets_in s) (sound_agrees IsPart s sound) e k w
