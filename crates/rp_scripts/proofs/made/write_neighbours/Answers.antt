use Rattle.std.proofs.Common.{◌++◌, codes}
use Rattle.std.specs.Fmt.{decimal}
use Rattle.rp_scripts.proofs.TextLemmas.{OnOk-extended, one-number}
use Rattle.rp_scripts.proofs.made.write_neighbours.Goals as goal

pub returns : goal.returns
returns c =
    let first = c.append_number.new.text.items in
    OnOk-extended c.extend_from_slice.result first c.extend_from_slice.new.self.items (codes "a") (c.args.text.now.items ++ (codes "neighbours s" ++ decimal c.args.storey ++ codes "a"))
    c.extend_from_slice.ensures.items
    (one-number c.args.text.now.items first (codes "neighbours s") (decimal c.args.storey) (codes "a") c.in_ok-append_number.ensures)
