use Rattle.std.proofs.Common.{◌∙◌}
use Rattle.rp_text.proofs.SliceLaws.{slice_is_read}
use Rattle.rp_text.proofs.slice_line.read_slice.Goals as goal

pub returns : goal.returns
returns c = c.slice.ensures ∙ slice_is_read c.args.line.now
