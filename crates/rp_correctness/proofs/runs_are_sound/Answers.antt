use Rattle.rp_correctness.proofs.Runs.{runs_are_sound_spec}
use Rattle.rp_correctness.proofs.runs_are_sound.Goals as goal

pub returns : goal.returns
returns c = runs_are_sound_spec
