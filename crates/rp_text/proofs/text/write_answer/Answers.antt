use Rattle.std.proofs.Common.{◌++◌, ◌∷◌, [], List, ℕ, Bool, map, refl, ap}
use Rattle.std.proofs.lemmas.Result.{err_from_is_err_and}
use Rattle.rp_reports.specs.Text.{echo_text, line_end, proof_texts, text_of_lines}
use Rattle.rp_cert.specs.declared.proof.Proof.{Proof}
use Rattle.rp_cert.specs.Lines.{line_of}
use Rattle.rp_command.proofs.Fronts.{front_before}
use Rattle.rp_answer.specs.Views.{answer_of}
use Rattle.rp_text.proofs.FrontLemmas.{front_between, front_same, writes_third, writes_same}
use Rattle.rp_text.proofs.LineLemmas.{has_verdicts, verdicts_text, whole_text}
use Rattle.rp_text.proofs.text.write_answer.Goals as goal

-- the text of the proof lines that are told
abbrev told : Bool → List Proof → List ℕ
told brief proofs = text_of_lines (proof_texts brief (map line_of proofs))

pub returns-in_err-write_line : goal.returns-in_err-write_line
returns-in_err-write_line c =
    let p = err_from_is_err_and c.from_residual.result c.from_residual.ensures.1 in
    let a = c.args.a.now in
    let some = has_verdicts a c.items-verdicts.result.now c.is_empty.result c.items-verdicts.ensures c.is_empty.ensures c.if-is_empty.false in
    let text = whole_text a c.args.brief c.items.result.now (text_of_lines (proof_texts c.args.brief (answer_of a).proofs)) a.verdicts.items c.items.ensures refl refl some in
    let echo = echo_text a.n c.items.result.now ++ line_end ∷ [] in
    let proofs = text_of_lines (proof_texts c.args.brief (map line_of a.proofs.items)) in
    let verdicts = verdicts_text a.verdicts.items in
    let old = c.args.out.now.items in
    let new = c.write_line.new.out.items in
    rw (p.1) (front_same old new _ _ text (front_before old new (echo ++ proofs) verdicts (front_before old new echo proofs c.in_err-write_line.ensures)))

pub returns-in_err-write_told_proofs : goal.returns-in_err-write_told_proofs
returns-in_err-write_told_proofs c =
    let p = err_from_is_err_and c.from_residual-in_err-write_told_proofs.result c.from_residual-in_err-write_told_proofs.ensures.1 in
    let a = c.args.a.now in
    let some = has_verdicts a c.items-verdicts.result.now c.is_empty.result c.items-verdicts.ensures c.is_empty.ensures c.if-is_empty.false in
    let text = whole_text a c.args.brief c.items.result.now (told c.args.brief c.items-2.result.now) a.verdicts.items c.items.ensures (ap (told c.args.brief) c.items-2.ensures) refl some in
    let echo = echo_text a.n c.items.result.now ++ line_end ∷ [] in
    let proofs = text_of_lines (proof_texts c.args.brief (map line_of c.items-2.result.now)) in
    let verdicts = verdicts_text a.verdicts.items in
    let old = c.args.out.now.items in
    let new = c.write_told_proofs.new.out.items in
    rw (p.1) (front_same old new _ _ text (front_between old c.write_line.new.out.items new echo proofs verdicts c.in_ok-write_line.ensures c.in_err-write_told_proofs.ensures))

pub returns : goal.returns
returns c =
    let a = c.args.a.now in
    let some = has_verdicts a c.items-verdicts.result.now c.is_empty.result c.items-verdicts.ensures c.is_empty.ensures c.if-is_empty.false in
    let text = whole_text a c.args.brief c.items.result.now (told c.args.brief c.items-2.result.now) c.items-verdicts.result.now c.items.ensures (ap (told c.args.brief) c.items-2.ensures) c.items-verdicts.ensures some in
    let echo = echo_text a.n c.items.result.now ++ line_end ∷ [] in
    let proofs = text_of_lines (proof_texts c.args.brief (map line_of c.items-2.result.now)) in
    let verdicts = verdicts_text c.items-verdicts.result.now in
    let old = c.args.out.now.items in
    let new = c.write_lines.new.out.items in
    writes_same c.write_lines.result old new _ _ text
    (writes_third c.write_lines.result old c.write_line.new.out.items c.write_told_proofs.new.out.items new echo proofs verdicts c.in_ok-write_line.ensures c.in_ok-write_told_proofs.ensures c.write_lines.ensures)
