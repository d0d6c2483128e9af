use Rattle.std.proofs.Common.{◌≡◌, drop}
use Rattle.rp_language.specs.Expression.{first_unknown_among}
use Rattle.rp_model.specs.states.State.{parts_in}
use Rattle.rp_command.specs.Views.{shapes_of}
use Rattle.rp_subdivide.proofs.order.first_unknown_shape.Given as goal

-- the first that is missing is among the expressions still to come
abbrev pub invariant-loop-entry : goal.invariant-loop-entry
invariant-loop-entry g l = first_unknown_among (parts_in (g.K.Keeper.state l.keeper)) (shapes_of (drop l.entry-index l.entries)) ≡ first_unknown_among (parts_in (g.K.Keeper.state l.keeper)) (shapes_of l.entries)
