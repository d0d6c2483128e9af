-- The children of a subdivision, and what its row comes to, whatever answers its tests.
use Rattle.std.proofs.Common.{◌≡◌, List, [], map, Option, Some, None, sym, ap, ◌∙◌, subst}
use Rattle.std.specs.Prelude.{option_map}
use Rattle.rp_language.specs.Name.{Label}
use Rattle.rp_language.specs.Expression.{Expression, subdivide, first_unknown_among}
use Rattle.rp_semantics.specs.Walk.{done, Walk, Tester, after_first, ◌>>=◌}
use Rattle.rp_model.specs.states.State.{PlainState, parts_in}
use Rattle.rp_model.specs.commands.Verdict.{unknown}
use Rattle.rp_model.specs.commands.Reply.{Reply, refusal, check}
use Rattle.rp_model.specs.commands.Subdivide.{FormedChild, form_children, row_subdivide}
use Rattle.rp_model.specs.commands.Row.{row}
use Rattle.rp_oracle.specs.declared.stopped.Stopped.{Stopped}
use Rattle.rp_oracle.specs.Refines.{StopsBy}
use Rattle.rp_oracle.proofs.Left.{stops_on}
use Rattle.rp_command.specs.declared.command.Expr.{Expr}
use Rattle.rp_command.specs.Views.{child_of, shapes_of}
use Rattle.rp_command.proofs.Children.{same_shapes}

module _ {W : Type 0} (tester : Tester W) (s : PlainState) (x : Label) (entries : List (Label × Expr)) where
  -- what comes behind the forms of the children
  abbrev pub behind_forms : List FormedChild → Walk W Reply
  behind_forms formed = row_subdivide tester s x formed

  -- the forms of the children
  abbrev pub child_forms : Walk W (List FormedChild)
  child_forms = form_children tester (parts_in s) [] (map child_of entries)

  -- the row of a subdivision, by the first of its expressions that is missing
  abbrev row_by : Option Label → Walk W Reply
  row_by o = check (option_map unknown o) (child_forms >>= behind_forms)

  -- that one is looked for among them
  row_is : (o : Option Label) (t : W) → o ≡ first_unknown_among (parts_in s) (shapes_of entries) → row tester s (subdivide x (map child_of entries)) t ≡ row_by o t
  row_is o t e = ap (λ (es : List Expression). row_by (first_unknown_among (parts_in s) es) t) (same_shapes entries) ∙ ap (λ (o : Option Label). row_by o t) (sym e)

  -- where one is missing, the row refuses it
  pub shape_missing : (y : Label) (t : W) → Some y ≡ first_unknown_among (parts_in s) (shapes_of entries) → row tester s (subdivide x (map child_of entries)) t ≡ done (refusal (unknown y)) t
  shape_missing y t e = row_is (Some y) t e

  module _ (none : None ≡ first_unknown_among (parts_in s) (shapes_of entries)) where
    -- where the forms stop, so does the row
    pub children_stop : (old new : W) (e : Stopped) → StopsBy e new (child_forms old) → StopsBy e new (row tester s (subdivide x (map child_of entries)) old)
    children_stop old new e h = subst (StopsBy e new) (sym (row_is None old none)) (stops_on behind_forms e new (child_forms old) h)

    -- where they are made, the row goes on from them
    pub children_made : (old mid : W) (formed : List FormedChild) → child_forms old ≡ done formed mid → row tester s (subdivide x (map child_of entries)) old ≡ row_subdivide tester s x formed mid
    children_made old mid formed made = row_is None old none ∙ ap (after_first behind_forms) made
