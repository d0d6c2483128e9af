use Rattle.std.proofs.Common.{◌≡◌, [], map, length, drop}
use Rattle.std.specs.List.{AllByRecursion}
use Rattle.rp_language.specs.Expression.{IsKeptExpression}
use Rattle.rp_model.specs.states.State.{parts_in}
use Rattle.rp_model.specs.commands.Subdivide.{form_children}
use Rattle.rp_command.specs.Views.{child_of, shapes_of}
use Rattle.rp_subdivide.specs.Children.{formed_children, IsShort}
use Rattle.rp_subdivide.proofs.order.children.Given as goal

-- what is left of the walk comes to the same as all of it; the expressions still to come are kept
abbrev pub invariant-loop-entry : goal.invariant-loop-entry
invariant-loop-entry g l = record {
  left : form_children g.T.Oracle.tester (parts_in (g.K.Keeper.state l.keeper)) (formed_children g.T.Oracle.parts_of l.children) (map child_of (drop l.entry-index l.entries)) l.tests ≡ form_children g.T.Oracle.tester (parts_in (g.K.Keeper.state l.keeper)) [] (map child_of l.entries) l.fn.tests;
  each : length l.children.items ≡ l.entry-index;
  kept : AllByRecursion IsKeptExpression (shapes_of (drop l.entry-index l.entries));
  short : AllByRecursion (IsShort g.T.Oracle.parts_of) l.children.items;
}
