use Rattle.std.proofs.Common.{[], ◌∷◌, ◌++◌, codes}
use Rattle.std.specs.Fmt.{decimal}
use Rattle.rp_reports.specs.Text.{line_end, text_of_lines}
use Rattle.rp_scripts.specs.Trial.{summary_lines}
use Rattle.rp_scripts.proofs.TextLemmas.{OnOk-text, four-lines}
use Rattle.rp_scripts.proofs.counts.write_summary.Goals as goal

pub returns : goal.returns
returns c =
    let s = c.args.summary.now in
    let old = c.args.text.now.items in
    let third = c.write_count-3.new.text.items in
    OnOk-text c.write_count-4.result c.write_count-4.new.text.items (third ++ codes "proofs " ++ decimal s.counts.proofs ++ line_end ∷ []) (old ++ text_of_lines (summary_lines s))
    (four-lines old c.write_count.new.text.items c.write_count-2.new.text.items third (codes "lines ") (decimal s.counts.lines) (codes "refused ") (decimal s.counts.refused)
    (codes "live ") (decimal s.live) (codes "proofs ") (decimal s.counts.proofs) (line_end ∷ [])
    c.in_ok-write_count.ensures c.in_ok-write_count-2.ensures c.in_ok-write_count-3.ensures)
    c.write_count-4.ensures
