use Rattle.std.proofs.lemmas.Result.{err_from_is_err_and}
use Rattle.rp_reports.specs.Text.{items_text}
use Rattle.rp_command.proofs.Fronts.{front_before}
use Rattle.rp_text.proofs.FrontLemmas.{front_same, writes_behind, writes_same}
use Rattle.rp_text.proofs.LineLemmas.{spaced_text}
use Rattle.rp_text.proofs.numbers.write_spaced.Goals as goal

pub returns-in_err-write_text : goal.returns-in_err-write_text
returns-in_err-write_text g c =
    let p = err_from_is_err_and c.from_residual.result c.from_residual.ensures.1 in
    let text = g.N.WriteText.text in
    let first = text c.args.first.now in
    let others = c.args.others.now in
    let old = c.args.out.now.items in
    let new = c.write_text.new.out.items in
    rw (p.1) (front_same old new _ _ (spaced_text text first others) (front_before old new first (items_text text others) c.in_err-write_text.ensures))

pub returns : goal.returns
returns g c =
    let text = g.N.WriteText.text in
    let first = text c.args.first.now in
    let others = c.args.others.now in
    let old = c.args.out.now.items in
    let new = c.write_items.new.out.items in
    writes_same c.write_items.result old new _ _ (spaced_text text first others)
    (writes_behind c.write_items.result old c.write_text.new.out.items new first (items_text text others) c.in_ok-write_text.ensures c.write_items.ensures)
