use Rattle.std.proofs.Common.{[], ◌∷◌, ◌++◌, ap}
use Rattle.std.specs.Fmt.{signed_decimal}
use Rattle.std.proofs.lemmas.Result.{err_from_is_err_and}
use Rattle.rp_reports.specs.Text.{half_space_text, term_text}
use Rattle.rp_command.proofs.Fronts.{front_before}
use Rattle.rp_text.proofs.FrontLemmas.{front_between, front_same, writes_third, writes_same}
use Rattle.rp_text.proofs.proof.write_term.Goals as goal

pub returns-in_err-write_text : goal.returns-in_err-write_text
returns-in_err-write_text c =
    let p = err_from_is_err_and c.from_residual.result c.from_residual.ensures.1 in
    let by = signed_decimal c.term.inside.by in
    let half = half_space_text c.term.inside.half in
    let old = c.args.out.now.items in
    let new = c.write_text.new.out.items in
    rw (p.1)
    (front_same old new _ _ (ap term_text c.term.view_is) (front_before old new (by ++ 42 ∷ []) half (front_before old new by (42 ∷ []) c.in_err-write_text.ensures)))

pub returns-in_err-append_byte : goal.returns-in_err-append_byte
returns-in_err-append_byte c =
    let p = err_from_is_err_and c.from_residual-in_err-append_byte.result c.from_residual-in_err-append_byte.ensures.1 in
    let by = signed_decimal c.term.inside.by in
    let half = half_space_text c.term.inside.half in
    let old = c.args.out.now.items in
    let new = c.append_byte.new.out.items in
    rw (p.1)
    (front_same old new _ _ (ap term_text c.term.view_is) (front_between old c.write_text.new.out.items new by (42 ∷ []) half c.in_ok-write_text.ensures c.in_err-append_byte.ensures))

pub returns : goal.returns
returns c =
    let by = signed_decimal c.term.inside.by in
    let half = half_space_text c.term.inside.half in
    let old = c.args.out.now.items in
    let new = c.write.new.out.items in
    writes_same c.write.result old new _ _ (ap term_text c.term.view_is)
    (writes_third c.write.result old c.write_text.new.out.items c.append_byte.new.out.items new by (42 ∷ []) half c.in_ok-write_text.ensures c.in_ok-append_byte.ensures c.write.ensures)
