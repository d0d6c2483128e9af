-- section EXPRESSION HEIGHT: the slices of a region at a height.
use Rattle.std.specs.Prelude.{true, ℤ, List}
use Rattle.rp_geometry.specs.sets.Shape.{Part}
use Rattle.rp_language.specs.Expression.{signature, section_verb}
use Rattle.rp_semantics.specs.Walk.{Walk, pass, ◌>>=◌, Tester}
use Rattle.rp_model.specs.commands.Definition.{Definition, with_form}
use Rattle.rp_model.specs.commands.Reply.{Reply, reply_lines}
use Rattle.rp_model.specs.commands.Rules.{answers}
use Rattle.rp_model.specs.commands.Verdict.{section_lines}
use Rattle.rp_model.specs.states.State.{parts_in, nothing_changes}

module _ {W : Type 0} (tester : Tester W) where
  -- the slices of the parts of a form at height z, in order
  abbrev pub row_section : ℤ → List Part → Walk W Reply
  row_section z ps = do
    slices ← tester.slices z ps
    pass (reply_lines (section_lines slices))

-- the definition of section
abbrev pub section_definition : Definition (signature section_verb)
section_definition = record {
  may_meet_limit = true;
  row = λ t s (e, (z, end)). with_form t (parts_in s) e λ ps. row_section t z ps;
  rule = λ s formed (e, (z, end)). answers (section_lines formed.slices);
  change = λ s os. nothing_changes;
}
