-- Rows that follow the forms of expressions, in a sound state.
use Rattle.std.proofs.Common.{ℤ, List, []}
use Rattle.rp_geometry.specs.sets.Shape.{Part}
use Rattle.rp_semantics.specs.Walk.{Outcome, done, stopped, Walk, Tester, pass, ◌>>=◌, after_first}
use Rattle.rp_language.specs.Expression.{Expression, IsKeptExpression}
use Rattle.rp_semantics.specs.Form.{form}
use Rattle.rp_model.specs.states.State.{State, parts_in, sets_in, nothing_changes}
use Rattle.rp_model.specs.commands.Verdict.{section_lines}
use Rattle.rp_model.specs.commands.Reply.{Reply, reply_lines}
use Rattle.rp_model.specs.commands.Definition.{with_form, with_forms, Formed}
use Rattle.rp_model.specs.commands.Section.{row_section}
use Rattle.rp_model.specs.commands.Rules.{Rule}
use Rattle.rp_model.specs.commands.Rule.{formed_or_nothing}
use Rattle.rp_model.specs.commands.Sets.{set_of}
use Rattle.rp_geometry.specs.parts.Parts.{AreOf}
use Rattle.rp_geometry.specs.sections.Slice.{Slice}
use Rattle.rp_model.specs.states.Sound.{IsSoundWith}
use Rattle.rp_semantics.specs.FormLaws.{IfDone, WalksAreRight}
use Rattle.rp_semantics.proofs.Outcomes.{then_done, weaker_done}
use Rattle.rp_row_soundness.proofs.Outcomes.{Replies}
use Rattle.rp_row_soundness.proofs.Meanings.{meanings_agree}
use Rattle.rp_row_soundness.specs.Limits.{IfDoneWith}
use Rattle.rp_row_soundness.proofs.Stopped.{IfStopped, stopped_then}

-- a form that is not cut at a height
abbrev pub uncut : List Part → Formed
uncut ps = record { parts = ps; slices = [] }

-- a form, and then a row whose rule may speak of the form
pub with_form_done : {W : Type 0} (F : List Part → Type 0) (R : Formed → Reply → Type 0) (o : Outcome W (List Part)) (rest : List Part → Walk W Reply)
    → IfDone o F → ((ps : List Part) (w : W) → F ps → IfDone (rest ps w) (R (uncut ps))) → IfDone (after_first rest o) (R (formed_or_nothing (after_first (λ ps. pass (uncut ps)) o)))
with_form_done F R (done ps w) rest h each = each ps w h
with_form_done F R (stopped e w) rest h each = tt

-- the slices of a form, of which the rule speaks
pub slices_done : {W : Type 0} (R : Formed → Reply → Type 0) (ps : List Part) (o : Outcome W (List Slice)) → ((slices : List Slice) → R (record { parts = ps; slices = slices }) (reply_lines (section_lines slices)))
    → IfDone (after_first (λ slices. pass (reply_lines (section_lines slices))) o) (R (formed_or_nothing (after_first (λ slices. pass (record { parts = ps; slices = slices })) o)))
slices_done R ps (done slices w) each = each slices
slices_done R ps (stopped e w) each = tt

-- a form, and then its slices
pub form_slices_done : {W : Type 0} (t : Tester W) (z : ℤ) (R : Formed → Reply → Type 0) (o : Outcome W (List Part)) → ((ps : List Part) (slices : List Slice) → R (record { parts = ps; slices = slices }) (reply_lines (section_lines slices)))
    → IfDone (after_first (λ ps. row_section t z ps) o) (R (formed_or_nothing (after_first (λ ps. t.slices z ps >>= (λ slices. pass (record { parts = ps; slices = slices }))) o)))
form_slices_done t z R (done ps w) each = slices_done R ps (t.slices z ps w) (each ps)
form_slices_done t z R (stopped e w) each = tt

module _ {W : Type 0} (P : Part → Type 0) (t : Tester W) (right : WalksAreRight P t) (s : State) (sound : IsSoundWith P s) where
  -- a question changes nothing
  pub asked : (rule : Rule) (o : Outcome W Reply) → IfDone o (λ r. rule r.verdicts) → IfDone o (Replies P nothing_changes rule)
  asked rule o h = weaker_done (λ r. rule r.verdicts) (Replies P nothing_changes rule) o h (λ r k. (k, tt))

  -- the form of an expression has the members of its set
  pub formed : (e : Expression) → IsKeptExpression e → (w : W) → IfDone (form t (parts_in s) e w) (AreOf P (set_of s e))
  formed e kept w = right.forms (parts_in s) (sets_in s) (meanings_agree P s sound) e kept w

  -- a row after one form
  pub one_form : (e : Expression) → IsKeptExpression e → (R : Formed → Reply → Type 0) (rest : List Part → Walk W Reply) (w : W)
      → ((ps : List Part) (v : W) → AreOf P (set_of s e) ps → IfDone (rest ps v) (R (uncut ps))) → IfDone (with_form t (parts_in s) e rest w) (R (formed_or_nothing (after_first (λ ps. pass (uncut ps)) (form t (parts_in s) e w))))
  one_form e kept R rest w each = with_form_done (AreOf P (set_of s e)) R (form t (parts_in s) e w) rest (formed e kept w) each

  -- a row after two forms
  pub two_forms : (e f : Expression) → IsKeptExpression e → IsKeptExpression f → (R : Reply → Type 0) (rest : List Part → List Part → Walk W Reply) (w : W)
      → ((ps qs : List Part) (v : W) → AreOf P (set_of s e) ps → AreOf P (set_of s f) qs → IfDone (rest ps qs v) R) → IfDone (with_forms t (parts_in s) e f rest w) R
  two_forms e f kept kept_too R rest w each =
      then_done (AreOf P (set_of s e)) R (form t (parts_in s) e w) _ (formed e kept w)
      (λ ps v h. then_done (AreOf P (set_of s f)) R (form t (parts_in s) f v) _ (formed f kept_too v) (λ qs u k. each ps qs u h k))

  -- a row after one form that is stopped
  pub form_stopped : (e : Expression) → IsKeptExpression e → (C : List Part → W → Type 0) (rest : List Part → Walk W Reply) (w : W)
      → ((ps : List Part) (v : W) → AreOf P (set_of s e) ps → IfStopped (rest ps v) (C ps v)) → IfStopped (with_form t (parts_in s) e rest w) (IfDoneWith (form t (parts_in s) e w) C)
  form_stopped e kept C rest w each = stopped_then (AreOf P (set_of s e)) C (form t (parts_in s) e w) rest (right.forms (parts_in s) (sets_in s) (meanings_agree P s sound) e kept w) each
