use Rattle.std.proofs.Common.{sym, subst}
use Rattle.rp_geometry.specs.parts.Parts.{IsPart}
use Rattle.rp_geometry.proofs.Kept.{part_is_checked}
use Rattle.rp_model.specs.states.State.{PlainState}
use Rattle.rp_register_state.specs.Taken.{IsTaken}
use Rattle.rp_register_state.proofs.States.{taken_where_checked}
use Rattle.rp_machine.specs.Replies.{made}
use Rattle.rp_machine.proofs.state.State.apply.Goals as goal

pub apply-requires-clause-taken : goal.apply-requires-clause-taken
apply-requires-clause-taken c =
    taken_where_checked IsPart part_is_checked c.args.n c.self.inside.register_state (made c.args.change) (subst (λ (s : PlainState). IsTaken IsPart c.args.n s (made c.args.change)) (sym c.self.view_is) c.requires.taken)
