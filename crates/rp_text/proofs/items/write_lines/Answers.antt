use Rattle.std.proofs.Common.{arith, [], ◌∷◌, ◌++◌, length, ◌<◌, ◌≤◌}
use Rattle.std.proofs.lemmas.Result.{err_from_is_err_and}
use Rattle.rp_reports.specs.Text.{line_end}
use Rattle.rp_text.proofs.FrontLemmas.{front_within, more_written, all_written}
use Rattle.rp_text.proofs.items.write_lines.Goals as goal

pub returns-in_err-write_line : goal.returns-in_err-write_line
returns-in_err-write_line g c =
    let p = err_from_is_err_and c.from_residual.result c.from_residual.ensures.1 in
    let inside : c.loop-item.item-index < length c.args.items.now = omega arith in
    let text = g.T.WriteText.text in
    rw (p.1)
    (front_within (λ x. text x ++ line_end ∷ []) c.args.out.now.items c.loop-item.out.items c.write_line.new.out.items c.args.items.now c.loop-item.item-index c.item-item.result inside c.item-item.is c.loop-item.invariant c.in_err-write_line.ensures)

pub loop-item-preserved : goal.loop-item-preserved
loop-item-preserved g c =
    let inside : c.loop-item.item-index < length c.args.items.now = omega arith in
    let text = g.T.WriteText.text in
    more_written (λ x. text x ++ line_end ∷ []) c.args.out.now.items c.loop-item.out.items c.write_line.new.out.items c.args.items.now c.loop-item.item-index c.item-item.result inside c.item-item.is c.loop-item.invariant c.in_ok-write_line.ensures

pub returns : goal.returns
returns g c =
    let text = g.T.WriteText.text in
    let over : length c.args.items.now ≤ c.loop-item.item-index = omega arith in
    all_written (λ x. text x ++ line_end ∷ []) c.args.out.now.items c.loop-item.out.items c.args.items.now c.loop-item.item-index over c.loop-item.invariant
