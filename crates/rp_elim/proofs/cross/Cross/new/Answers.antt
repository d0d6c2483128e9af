use Rattle.std.proofs.Common.{◌∙◌}
use Rattle.rp_algebra.proofs.Machine.{code, fits_by, is_by, within_by}
use Rattle.rp_geometry.specs.searches.Vertex.{det2}
use Rattle.rp_elim.proofs.cross.Cross.new.Goals as goal

pub invariant_of-result : goal.invariant_of-result
invariant_of-result c =
    let f = c.numbers-fa.ensures.numbers in
    let g = c.numbers-ga.ensures.numbers in
    record {
      bc = is_by (search code depth 30 fits 100000) tt ∙ (λ i. det2 (f i).b (f i).c (g i).b (g i).c);
      ac = is_by (search code depth 30 fits 100000) tt ∙ (λ i. det2 (f i).a (f i).c (g i).a (g i).c);
      ab = is_by (search code depth 30 fits 100000) tt ∙ (λ i. det2 (f i).a (f i).b (g i).a (g i).b);
      small_bc = within_by (search code depth 30 fits 100000) tt;
      small_ac = within_by (search code depth 30 fits 100000) tt;
      small_ab = within_by (search code depth 30 fits 100000) tt;
    }

pub overflow_mul-result : goal.overflow_mul-result
overflow_mul-result c = fits_by (search code depth 30 fits 100000) tt

pub overflow_mul-result-2 : goal.overflow_mul-result-2
overflow_mul-result-2 c = fits_by (search code depth 30 fits 100000) tt

pub overflow_sub-result : goal.overflow_sub-result
overflow_sub-result c = fits_by (search code depth 30 fits 100000) tt

pub overflow_mul-result-3 : goal.overflow_mul-result-3
overflow_mul-result-3 c = fits_by (search code depth 30 fits 100000) tt

pub overflow_mul-result-4 : goal.overflow_mul-result-4
overflow_mul-result-4 c = fits_by (search code depth 30 fits 100000) tt

pub overflow_sub-result-2 : goal.overflow_sub-result-2
overflow_sub-result-2 c = fits_by (search code depth 30 fits 100000) tt

pub overflow_mul-result-5 : goal.overflow_mul-result-5
overflow_mul-result-5 c = fits_by (search code depth 30 fits 100000) tt

pub overflow_mul-result-6 : goal.overflow_mul-result-6
overflow_mul-result-6 c = fits_by (search code depth 30 fits 100000) tt

pub overflow_sub-result-3 : goal.overflow_sub-result-3
overflow_sub-result-3 c = fits_by (search code depth 30 fits 100000) tt
