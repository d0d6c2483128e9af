use Rattle.std.proofs.Common.{◌∷◌, [], ap, sym, ◌∙◌, arith}
use Rattle.std.specs.Prelude.{map}
use Rattle.std.specs.Vec.Iter.{into_iter_items}
use Rattle.std.proofs.lemmas.Result.{err_from_is_err_and}
use Rattle.std.proofs.lemmas.List.{nil_from_length}
use Rattle.rp_geometry.specs.searches.ProofLine.{in_line}
use Rattle.rp_semantics.specs.Walk.{with_lines}
use Rattle.rp_cell.specs.Lines.{drop_line_of}
use Rattle.rp_region.specs.Makes.{telling}
use Rattle.rp_region.proofs.Left.{all_left, left_as}
use Rattle.rp_region.proofs.PartMade.{line_passed, lines_ended, lines_cut}
use Rattle.rp_region.proofs.work.Work.tell_found.Goals as goal

pub loop-half-preserved : goal.loop-half-preserved
loop-half-preserved c =
    line_passed (drop_line_of c.in-Some.field-0) (map drop_line_of (into_iter_items c.next.new.self)) c.tell-in-loop-half.new.self
    (c.in_ok-tell-2.ensures.ok ∙ ap (λ d. with_lines c.loop-half.self (drop_line_of d ∷ [])) c.half.view_is)
    (left_as (ap (λ ds. telling (map drop_line_of ds)) c.in-Some.ensures.steps.0) c.loop-half.invariant)

pub loop-half-init : goal.loop-half-init
loop-half-init c =
    left_as (ap (λ ds. telling (map drop_line_of ds)) (sym (c.into_iter-half-iterator.ensures.into_iter_gives.0 ∙ c.into_items-half-items.ensures)))
    (line_passed (in_line c.args.points) (map drop_line_of c.args.dropped.items) c.tell.new.self c.in_ok-tell.ensures.ok (all_left c.args.self.now (telling (in_line c.args.points ∷ map drop_line_of c.args.dropped.items))))

pub returns-in_err-tell-2 : goal.returns-in_err-tell-2
returns-in_err-tell-2 c =
    let p = err_from_is_err_and c.from_residual-in_err-tell-2.result c.from_residual-in_err-tell-2.ensures.1 in
    rw (p.1) (lines_cut (map drop_line_of (into_iter_items c.loop-half.half-iterator)) c.tell-in-loop-half.new.self c.in_err-tell-2.ensures.err c.loop-half.invariant)

pub returns : goal.returns
returns c =
    let rest = into_iter_items c.loop-half.half-iterator in
    lines_ended (map drop_line_of rest)
    (ap (map drop_line_of) (nil_from_length rest (let ok = c.loop-half.half-iterator.rest.ok in let none = c.in-None.ensures.steps.0 in omega (arith, ok, none)))) c.loop-half.invariant
