use Rattle.rp_register_state.proofs.Known.{stand_short}
use Rattle.rp_register_state.proofs.register_state.RegisterState.keep_short.Goals as goal

pub returns : goal.returns
returns g c = stand_short c.args.self.now c.keep_sound.ensures
