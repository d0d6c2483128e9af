use Rattle.rp_register_state.proofs.Known.{all_short}
use Rattle.rp_register_state.proofs.register_state.RegisterState.history.Goals as goal

pub returns-clause-short : goal.returns-clause-short
returns-clause-short g c = all_short c.args.self.now.lots c.keep_sound.ensures.lots_keep_parts
