use Rattle.std.proofs.Common.{sym, ◌∙◌}
use Rattle.rp_row_soundness.proofs.Points.{in_parts_is_member}
use Rattle.rp_regionlots.proofs.regions.RegionsForms.holds.Goals as goal

pub returns : goal.returns
returns c = c.holds.ensures ∙ sym (in_parts_is_member c.args.form.now c.args.point.now)
