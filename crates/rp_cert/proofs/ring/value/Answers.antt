use Rattle.std.proofs.Common.{◌∙◌, sym, subst}
use Rattle.rp_algebra.proofs.Machine.{code, fits_by, is_by}
use Rattle.rp_geometry.specs.sections.Trace.{trace_value}
use Rattle.rp_geometry.specs.laws.SectionLaws.{IsSmallTrace}
use Rattle.rp_cert.proofs.ring.value.Goals as goal

pub overflow_mul-result : goal.overflow_mul-result
overflow_mul-result c = let s = subst IsSmallTrace (sym c.edge.view_is) c.requires in fits_by (search code depth 30 fits 100000) tt

pub overflow_mul-result-2 : goal.overflow_mul-result-2
overflow_mul-result-2 c = let s = subst IsSmallTrace (sym c.edge.view_is) c.requires in fits_by (search code depth 30 fits 100000) tt

pub overflow_add-result : goal.overflow_add-result
overflow_add-result c = let s = subst IsSmallTrace (sym c.edge.view_is) c.requires in fits_by (search code depth 30 fits 100000) tt

pub overflow_mul-result-3 : goal.overflow_mul-result-3
overflow_mul-result-3 c = let s = subst IsSmallTrace (sym c.edge.view_is) c.requires in fits_by (search code depth 30 fits 100000) tt

pub overflow_add-result-2 : goal.overflow_add-result-2
overflow_add-result-2 c = let s = subst IsSmallTrace (sym c.edge.view_is) c.requires in fits_by (search code depth 30 fits 100000) tt

pub returns : goal.returns
returns c = let s = subst IsSmallTrace (sym c.edge.view_is) c.requires in is_by (search code depth 30 fits 100000) tt ∙ (λ i. trace_value (c.edge.view_is i) (c.numbers-x.ensures.numbers i))
