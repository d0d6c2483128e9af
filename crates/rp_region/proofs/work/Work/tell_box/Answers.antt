use Rattle.std.proofs.Common.{ap}
use Rattle.std.specs.Prelude.{map}
use Rattle.std.proofs.lemmas.Result.{err_from_is_err_and}
use Rattle.rp_cell.specs.Lines.{side_line_of}
use Rattle.rp_region.specs.Makes.{telling}
use Rattle.rp_region.proofs.Left.{left_as}
use Rattle.rp_region.proofs.PartMade.{line_passed, lines_ended, lines_cut}
use Rattle.rp_region.proofs.work.Work.tell_box.Goals as goal

pub loop-terms-preserved : goal.loop-terms-preserved
loop-terms-preserved c =
    line_passed (side_line_of c.in-Some.terms) (map side_line_of c.next.new.self) c.tell-in-loop-terms.new.self c.in_ok-tell-2.ensures.ok
    (left_as (ap (λ ts. telling (map side_line_of ts)) c.in-Some.ensures.steps) c.loop-terms.invariant)

pub returns-in_err-tell-2 : goal.returns-in_err-tell-2
returns-in_err-tell-2 c =
    let p = err_from_is_err_and c.from_residual-in_err-tell-2.result c.from_residual-in_err-tell-2.ensures.1 in
    rw (p.1) (lines_cut (map side_line_of c.loop-terms.terms-iterator) c.tell-in-loop-terms.new.self c.in_err-tell-2.ensures.err c.loop-terms.invariant)

pub returns : goal.returns
returns c = lines_ended (map side_line_of c.loop-terms.terms-iterator) (ap (map side_line_of) c.in-None.ensures.steps.0) c.loop-terms.invariant
