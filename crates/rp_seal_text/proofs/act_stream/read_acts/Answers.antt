use Rattle.std.proofs.Common.{◌++◌, length, flat_map}
use Rattle.rp_seal_text.specs.ActText.{act_text, end_line}
use Rattle.rp_seal_text.proofs.act_stream.read_acts.Goals as goal

pub returns-in_default-clause-each : goal.returns-in_default-clause-each
returns-in_default-clause-each c = λ log are few is.
    let found = c.take_prefix.ensures.each (flat_map act_text log ++ end_line (length log)) is in
    rw c.in_default.is at found
