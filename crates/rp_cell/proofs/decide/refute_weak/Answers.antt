use Rattle.std.proofs.Common.{false, sym, ◌∙◌}
use Rattle.std.specs.Prelude.{IsTrue}
use Rattle.rp_algebra.proofs.Options.{of_some}
use Rattle.rp_geometry.specs.searches.Certificate.{is_outside_certificate}
use Rattle.rp_convex.proofs.WeakPoint.{weak_point_is_found_spec}
use Rattle.rp_cell.proofs.Answered.{none_unless, apart_is_some, line_apart}
use Rattle.rp_cell.proofs.decide.refute_weak.Goals as goal

pub unwrap-requires : goal.unwrap-requires
unwrap-requires c = apart_is_some c.args.cell.now c.first_outside.result c.first_outside.ensures.none c.requires.empty

pub returns-clause-first : goal.returns-clause-first
returns-clause-first c = sym c.first_outside.ensures.first ∙ c.unwrap.ensures

pub returns-clause-passes : goal.returns-clause-passes
returns-clause-passes c = of_some (λ terms. IsTrue (is_outside_certificate false c.args.cell.now terms)) c.first_outside.result c.unwrap.result c.unwrap.ensures c.first_outside.ensures.passes

pub returns-clause-line : goal.returns-clause-line
returns-clause-line c =
    let found = (weak_point_is_found_spec c.args.cell.now c.keep_bounds.ensures).some in
    line_apart c.args.cell.now c.unwrap.result (none_unless _ (λ s. let m = found.0 s in c.requires.empty m.0 m.1)) (sym c.first_outside.ensures.first ∙ c.unwrap.ensures)
