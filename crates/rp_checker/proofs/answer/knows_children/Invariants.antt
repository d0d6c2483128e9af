use Rattle.std.proofs.Common.{◌≡◌, map, drop}
use Rattle.std.specs.Prelude.{is_none}
use Rattle.rp_language.specs.Expression.{Child, first_unknown_among}
use Rattle.rp_model.specs.states.State.{parts_in}
use Rattle.rp_command.specs.Views.{child_of}
use Rattle.rp_checker.proofs.answer.knows_children.Given as goal

-- what is missing of the children still to come is missing of all
abbrev pub invariant-loop-region : goal.invariant-loop-region
invariant-loop-region l =
    is_none (first_unknown_among (parts_in l.register) (map (λ (c : Child). c.shape) (map child_of (drop l.region-index l.entries))))
    ≡ is_none (first_unknown_among (parts_in l.register) (map (λ (c : Child). c.shape) (map child_of l.entries)))
