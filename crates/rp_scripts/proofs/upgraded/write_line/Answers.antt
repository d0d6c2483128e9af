use Rattle.std.proofs.Common.{[], ◌∷◌}
use Rattle.std.proofs.lemmas.Result.{err_from_is_err_and}
use Rattle.rp_reports.specs.Text.{line_end}
use Rattle.rp_reports.specs.Upgrade.{upgraded_line}
use Rattle.rp_command.specs.Views.{line_of}
use Rattle.rp_command.proofs.Fronts.{front_before}
use Rattle.rp_scripts.proofs.upgraded.write_line.Goals as goal

pub returns-in_err-write_upgraded-clause-front : goal.returns-in_err-write_upgraded-clause-front
returns-in_err-write_upgraded-clause-front c =
    let p = err_from_is_err_and c.from_residual.result c.from_residual.ensures.1 in
    rw p.1 (front_before c.args.out.now.items c.write_upgraded.new.out.items (upgraded_line c.args.line.now (line_of c.args.read.now)) (line_end ∷ []) c.in_err-write_upgraded.ensures)
