use Rattle.std.proofs.Common.{Bool, List, map, sym, ap, ◌∙◌}
use Rattle.rp_cert.specs.declared.proof.Proof.{Proof}
use Rattle.rp_cert.specs.Lines.{line_of}
use Rattle.rp_reports.specs.Text.{proof_text, proof_texts, text_of_lines}
use Rattle.rp_text.specs.LineTexts.{lines_text}
use Rattle.rp_text.proofs.LineLemmas.{proofs_text}
use Rattle.rp_scripts.proofs.answer.told_proofs.Goals as goal

pub returns-else-brief : goal.returns-else-brief
returns-else-brief c =
    let proofs = c.args.answer.now.proofs.items in
    ap (λ (ps : List Proof). lines_text (λ p. proof_text (line_of p)) ps) c.items.ensures ∙ proofs_text proofs
    ∙ ap (λ (brief : Bool). text_of_lines (proof_texts brief (map line_of proofs))) (sym c.if-brief.false)
