-- Rows whose checks on names fail, whatever answers their tests, and the parts of a lot that is there.
use Rattle.std.proofs.Common.{◌≡◌, ℕ, ◌<◌, List, [], Option, None, Some, length, get_or, slice_get, sym, ap, ◌∙◌}
use Rattle.std.specs.Prelude.{option_map}
use Rattle.std.proofs.lemmas.Option.{get_or_from_slice_get, slice_get-map}
use Rattle.rp_algebra.proofs.Lists.{get_some}
use Rattle.rp_geometry.specs.sets.Shape.{Part}
use Rattle.rp_language.specs.Name.{Label}
use Rattle.rp_semantics.specs.Walk.{Walk}
use Rattle.rp_semantics.specs.Form.{parts_or_none}
use Rattle.rp_model.specs.states.State.{Lot, PlainState, live_lot, parts_of_lot}
use Rattle.rp_model.specs.commands.Verdict.{Refusal}
use Rattle.rp_model.specs.commands.Reply.{Reply, check}
use Rattle.rp_model.specs.commands.Parts.{lot_parts, parts_with_id}
use Rattle.rp_history.specs.declared.fault.NameFault.{NameFault}
use Rattle.rp_history.specs.declared.fault.NameFault.TheVariants.{Known, Unknown, Repeated, Layers, Same, Few, Memory}
use Rattle.rp_history.specs.Checks.{FailsNames}
use Rattle.rp_answer.specs.Replies.{EndsBy, end_of_names}

-- a check on names is failed, and the row ends
pub names_end : {W : Type 0} (e : NameFault) (o : Option Refusal) (rest : Walk W Reply) (w : W) → FailsNames e o → EndsBy (end_of_names e) w (check o rest w)
names_end (Known x) o rest w h = ap (λ (p : Option Refusal). check p rest w) h
names_end (Unknown x) o rest w h = ap (λ (p : Option Refusal). check p rest w) h
names_end (Repeated x) o rest w h = ap (λ (p : Option Refusal). check p rest w) h
names_end (Layers x) o rest w h = ap (λ (p : Option Refusal). check p rest w) h
names_end Same o rest w h = ap (λ (p : Option Refusal). check p rest w) h
names_end Few o rest w h = ap (λ (p : Option Refusal). check p rest w) h
names_end (Memory f) o rest w h = tt

-- the parts of the live lot at a place are those with its id
pub parts_here : (x : Label) (s : PlainState) (k : ℕ) (ps : List Part) → slice_get s.lots k ≡ live_lot x s.lots → option_map (λ l. l.parts) (slice_get s.lots k) ≡ Some ps → ps ≡ parts_with_id s x
parts_here x s k ps same at = by (live_lot x s.lots) (sym (ap (option_map (λ (l : Lot (Unit {0})). l.parts)) same) ∙ at)
  where
    by : (o : Option (Lot (Unit {0}))) → option_map (λ l. l.parts) o ≡ Some ps → ps ≡ parts_or_none (parts_of_lot o)
    by None e = absurd (cc)
    by (Some l) e = let f : l.parts ≡ ps = cc in sym f

-- so are those in their list
pub parts_live : (x : Label) (s : PlainState) (k : ℕ) → k < length s.lots → slice_get s.lots k ≡ live_lot x s.lots → get_or (lot_parts s.lots) k [] ≡ parts_with_id s x
parts_live x s k within same =
    let item = get_some s.lots k within in
    let l = item.0 in
    let at = ap (option_map (λ (m : Lot (Unit {0})). m.parts)) item.1 in
    get_or_from_slice_get (lot_parts s.lots) k l.parts [] (slice_get-map (λ (m : Lot (Unit {0})). m.parts) s.lots k ∙ at)
    ∙ parts_here x s k l.parts same at
