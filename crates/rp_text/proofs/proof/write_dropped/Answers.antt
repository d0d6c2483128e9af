use Rattle.std.proofs.Common.{◌++◌, codes}
use Rattle.std.proofs.lemmas.Result.{err_from_is_err_and}
use Rattle.rp_reports.specs.Text.{half_space_text, term_text, items_text}
use Rattle.rp_command.proofs.Fronts.{front_before}
use Rattle.rp_text.proofs.FrontLemmas.{front_between, writes_third}
use Rattle.rp_text.proofs.proof.write_dropped.Goals as goal

pub returns-in_err-append : goal.returns-in_err-append
returns-in_err-append c =
    let p = err_from_is_err_and c.from_residual.result c.from_residual.ensures.1 in
    let old = c.args.out.now.items in
    let new = c.append.new.out.items in
    let half = half_space_text c.args.half.now in
    rw (p.1) (front_before old new (codes "  drop " ++ half) (items_text term_text c.args.terms.now) (front_before old new (codes "  drop ") half c.in_err-append.ensures))

pub returns-in_err-write : goal.returns-in_err-write
returns-in_err-write c =
    let p = err_from_is_err_and c.from_residual-in_err-write.result c.from_residual-in_err-write.ensures.1 in
    rw (p.1)
    (front_between c.args.out.now.items c.append.new.out.items c.write.new.out.items (codes "  drop ") (half_space_text c.args.half.now) (items_text term_text c.args.terms.now) c.in_ok-append.ensures c.in_err-write.ensures)

pub returns : goal.returns
returns c =
    writes_third c.write_terms.result c.args.out.now.items c.append.new.out.items c.write.new.out.items c.write_terms.new.out.items (codes "  drop ") (half_space_text c.args.half.now) (items_text term_text c.args.terms.now) c.in_ok-append.ensures c.in_ok-write.ensures c.write_terms.ensures
