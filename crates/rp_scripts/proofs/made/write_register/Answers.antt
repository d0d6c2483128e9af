use Rattle.std.proofs.Common.{ℕ, ◌+◌, ◌*◌, ◌++◌, codes, ap, ◌∙◌}
use Rattle.std.specs.Fmt.{decimal}
use Rattle.rp_scripts.proofs.TextLemmas.{OnOk-text, three-numbers}
use Rattle.rp_scripts.proofs.made.write_register.Goals as goal

pub returns : goal.returns
returns c =
    let n = c.from-number.result in
    let second = c.append_number-2.new.text.items in
    let texts = λ (k : ℕ). c.args.text.now.items ++ (codes "register s" ++ decimal c.args.storey ++ codes " box 0 0 " ++ decimal (3000 * k) ++ codes " 60000 40000 " ++ decimal (3000 * (k + 1))) in
    OnOk-text c.append_number-3.result c.append_number-3.new.text.items (second ++ codes " 60000 40000 " ++ decimal (3000 * (n + 1))) (texts c.args.storey)
    (three-numbers c.args.text.now.items c.append_number.new.text.items second (codes "register s") (decimal c.args.storey) (codes " box 0 0 ") (decimal (3000 * n))
    (codes " 60000 40000 ") (decimal (3000 * (n + 1))) c.in_ok-append_number.ensures c.in_ok-append_number-2.ensures ∙ ap texts c.from-number.ensures)
    c.append_number-3.ensures
