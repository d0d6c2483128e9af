-- What the row of a definition comes to, whatever answers its tests: it makes none.
use Rattle.std.proofs.Common.{◌≡◌, ◌+◌, Bool, true, false, ◌&&◌, List, length, Option, Some, None, is_some, refl, sym, ap, ◌∙◌}
use Rattle.std.specs.Prelude.{nat_le, option_map, option_copied}
use denote.Ref.{Bor}
use Rattle.rp_geometry.specs.sets.Shape.{Part}
use Rattle.rp_language.specs.Name.{Label, is_among}
use Rattle.rp_semantics.specs.Walk.{Walk, done, stopped, limit_met, pass, stop, ◌>>◌}
use Rattle.rp_model.specs.states.State.{Kept, PlainState, kept_named, kept_under, parts_of_kept, name_added, names_of, parts_under_names, most_names, most_kept_parts}
use Rattle.rp_model.specs.commands.Verdict.{known}
use Rattle.rp_model.specs.commands.Checks.{refuse_if}
use Rattle.rp_model.specs.commands.Reply.{Reply, refusal, accepted, check}
use Rattle.rp_model.specs.commands.Let.{row_define}
use Rattle.rp_states.proofs.Plain.{there_is_kept}

-- the row of a definition, by its three tests
abbrev define_by : {W : Type 0} → Label → List Part → Bool → Bool → Bool → Walk W Reply
define_by {W} x ps there names parts = check (refuse_if there (known x)) do
  elim names as (λ _. Walk W (Unit {0})) [ true ↦ pass tt | false ↦ stop limit_met ]
  elim parts as (λ _. Walk W (Unit {0})) [ true ↦ pass tt | false ↦ stop limit_met ]
  pass (accepted (name_added (kept_under x ps)))

-- whether there is room for one more name
abbrev room_for_name : PlainState → Bool
room_for_name s = nat_le (length s.names + 1) most_names

-- whether there is room for more parts
abbrev room_for_parts : PlainState → List Part → Bool
room_for_parts s ps = nat_le (parts_under_names s.names + length ps) most_kept_parts

-- a known name is refused
pub known_name : {W : Type 0} (s : PlainState) (x : Label) (ps : List Part) → is_among x (names_of s.names) ≡ true → (w : W) → row_define s x ps w ≡ done (refusal (known x)) w
known_name s x ps e w = ap (λ there. define_by x ps there (room_for_name s) (room_for_parts s ps) w) e

-- where there is no room, a new name is past a limit
pub no_room : {W : Type 0} (s : PlainState) (x : Label) (ps : List Part) → is_among x (names_of s.names) ≡ false → (room_for_name s && room_for_parts s ps) ≡ false → (w : W) → row_define s x ps w ≡ stopped limit_met w
no_room s x ps e full w = ap (λ there. define_by x ps there (room_for_name s) (room_for_parts s ps) w) e ∙ by (room_for_name s) (room_for_parts s ps) full
  where
    by : (names parts : Bool) → (names && parts) ≡ false → define_by x ps false names parts w ≡ stopped limit_met w
    by true true h = absurd (cc)
    by true false h = refl
    by false parts h = refl

-- else it is kept
pub new_name : {W : Type 0} (s : PlainState) (x : Label) (ps : List Part) → is_among x (names_of s.names) ≡ false → (room_for_name s && room_for_parts s ps) ≡ true → (w : W) → row_define s x ps w ≡ done (accepted (name_added (kept_under x ps))) w
new_name s x ps e room w = ap (λ there. define_by x ps there (room_for_name s) (room_for_parts s ps) w) e ∙ by (room_for_name s) (room_for_parts s ps) room
  where
    by : (names parts : Bool) → (names && parts) ≡ true → define_by x ps false names parts w ≡ done (accepted (name_added (kept_under x ps))) w
    by true true h = refl
    by true false h = absurd (cc)
    by false parts h = absurd (cc)

-- a name is there where a form is found under it
pub there_as_found : {F : Type 0} (parts : F → List Part) (x : Label) (ks : List (Kept (Unit {0}))) (o : Option (Bor F)) (b : Bool) → option_map parts (option_copied o) ≡ parts_of_kept (kept_named x ks) → is_some o ≡ b → is_among x (names_of ks) ≡ b
there_as_found {F} parts x ks o b found e = sym (there_is_kept x ks) ∙ ap is_some (sym found) ∙ copied o ∙ e
  where
    copied : (o : Option (Bor F)) → is_some (option_map parts (option_copied o)) ≡ is_some o
    copied None = refl
    copied (Some r) = refl
