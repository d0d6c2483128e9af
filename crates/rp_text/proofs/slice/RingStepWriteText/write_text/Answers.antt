use Rattle.std.proofs.Common.{[], ◌∷◌, ◌++◌, ap}
use Rattle.std.proofs.lemmas.Result.{err_from_is_err_and}
use Rattle.rp_reports.specs.Text.{trace_text, point_text, step_text}
use Rattle.rp_command.proofs.Fronts.{front_before}
use Rattle.rp_text.proofs.FrontLemmas.{front_between, front_same, writes_third, writes_same}
use Rattle.rp_text.proofs.slice.RingStepWriteText.write_text.Goals as goal

pub returns-in_err-write_text : goal.returns-in_err-write_text
returns-in_err-write_text c =
    let p = err_from_is_err_and c.from_residual.result c.from_residual.ensures.1 in
    let edge = trace_text c.self.inside.edge in
    let end = point_text c.self.inside.end in
    let old = c.args.out.now.items in
    let new = c.write_text.new.out.items in
    rw (p.1)
    (front_same old new _ _ (ap step_text c.self.view_is) (front_before old new (edge ++ 32 ∷ []) end (front_before old new edge (32 ∷ []) c.in_err-write_text.ensures)))

pub returns-in_err-append_byte : goal.returns-in_err-append_byte
returns-in_err-append_byte c =
    let p = err_from_is_err_and c.from_residual-in_err-append_byte.result c.from_residual-in_err-append_byte.ensures.1 in
    let edge = trace_text c.self.inside.edge in
    let end = point_text c.self.inside.end in
    let old = c.args.out.now.items in
    let new = c.append_byte.new.out.items in
    rw (p.1)
    (front_same old new _ _ (ap step_text c.self.view_is) (front_between old c.write_text.new.out.items new edge (32 ∷ []) end c.in_ok-write_text.ensures c.in_err-append_byte.ensures))

pub returns : goal.returns
returns c =
    let edge = trace_text c.self.inside.edge in
    let end = point_text c.self.inside.end in
    let old = c.args.out.now.items in
    let new = c.write_text-2.new.out.items in
    writes_same c.write_text-2.result old new _ _ (ap step_text c.self.view_is)
    (writes_third c.write_text-2.result old c.write_text.new.out.items c.append_byte.new.out.items new edge (32 ∷ []) end c.in_ok-write_text.ensures c.in_ok-append_byte.ensures c.write_text-2.ensures)
