use Rattle.std.proofs.Common.{Bool, map, sym, ap, ◌∙◌}
use Rattle.rp_reports.specs.Text.{proof_texts, text_of_lines}
use Rattle.rp_cert.specs.Lines.{line_of}
use Rattle.rp_text.proofs.FrontLemmas.{writes_same}
use Rattle.rp_text.proofs.LineLemmas.{proofs_text}
use Rattle.rp_text.proofs.proof.write_told_proofs.Goals as goal

pub returns : goal.returns
returns c =
    let proofs = c.args.proofs.now in
    writes_same c.write_proofs.result c.args.out.now.items c.write_proofs.new.out.items _ _
    (proofs_text proofs ∙ ap (λ (brief : Bool). text_of_lines (proof_texts brief (map line_of proofs))) (sym c.if-brief.false)) c.write_proofs.ensures
