use Rattle.std.proofs.Common.{◌∷◌, []}
use Rattle.std.proofs.lemmas.Result.{err_from_is_err_and}
use Rattle.rp_reports.specs.Text.{line_end}
use Rattle.rp_command.proofs.Fronts.{front_before}
use Rattle.rp_text.proofs.FrontLemmas.{writes_behind}
use Rattle.rp_text.proofs.items.write_line.Goals as goal

pub returns-in_err-write_text : goal.returns-in_err-write_text
returns-in_err-write_text g c =
    let p = err_from_is_err_and c.from_residual.result c.from_residual.ensures.1 in
    rw (p.1) (front_before c.args.out.now.items c.write_text.new.out.items (g.T.WriteText.text c.args.line.now) (line_end ∷ []) c.in_err-write_text.ensures)

pub returns : goal.returns
returns g c =
    writes_behind c.append_byte.result c.args.out.now.items c.write_text.new.out.items c.append_byte.new.out.items (g.T.WriteText.text c.args.line.now) (line_end ∷ []) c.in_ok-write_text.ensures c.append_byte.ensures
