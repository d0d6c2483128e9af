use Rattle.std.proofs.Common.{subst}
use Rattle.rp_geometry.specs.parts.Parts.{IsPart}
use Rattle.rp_semantics.specs.FormLaws.{MeaningsAgree}
use Rattle.rp_model.specs.states.State.{PlainState, parts_in}
use Rattle.rp_model.specs.commands.Parts.{shapes_of_parts}
use Rattle.rp_machine.proofs.Names.{regions_agree}
use Rattle.rp_machine.proofs.state.State.keep_sound.Goals as goal

pub returns-clause-regions : goal.returns-clause-regions
returns-clause-regions c = subst (λ (s : PlainState). MeaningsAgree IsPart (parts_in s) (shapes_of_parts (parts_in s))) c.self.view_is (regions_agree c.self.inside.register_state c.self.invariant)
