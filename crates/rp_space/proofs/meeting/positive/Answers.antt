use Rattle.std.proofs.Common.{◌≡◌, true, false, ◌*◌, ◌^◌, ℤ, pos, neg_ℤ, subst, sym, ap, ◌∙◌, Some}
use Rattle.std.specs.Prelude.{int_lt}
use mir.Syntax.{w128}
use Rattle.rp_algebra.specs.Integer.{is_positive}
use Rattle.rp_algebra.specs.Within.{IsWithin}
use Rattle.rp_algebra.proofs.Machine.{held, literal, negation, sum, written, fits_by, within_by, read_is}
use Rattle.rp_algebra.proofs.Tests.{negated_positive, positive_is}
use Rattle.rp_geometry.specs.Geometry.{IsSmallPoint, point_of}
use Rattle.rp_space.proofs.Negative.{negated_coordinate, negated_weight, small_numbers}
use Rattle.rp_space.proofs.meeting.positive.Goals as goal

pub invariant_of-result : goal.invariant_of-result
invariant_of-result c =
    let r = c.requires in
    let w = read_is w128 r.w_small tt in
    let above : is_positive c.args.w ≡ true = ap (λ (v : ℤ). int_lt (pos 0) v) (sym w) ∙ c.if-w-gt0.true in
    subst IsSmallPoint (sym (λ i. point_of (read_is w128 r.x_small tt i) (read_is w128 r.y_small tt i) (read_is w128 r.z_small tt i) (w i)))
    (small_numbers c.args.x c.args.y c.args.z c.args.w r.x_small r.y_small r.z_small r.w_small (positive_is c.args.w above))

pub returns-then-w-gt0 : goal.returns-then-w-gt0
returns-then-w-gt0 c =
    let r = c.requires in
    let w = read_is w128 r.w_small tt in
    let above : is_positive c.args.w ≡ true = ap (λ (v : ℤ). int_lt (pos 0) v) (sym w) ∙ c.if-w-gt0.true in
    rw (r.nonzero, above) (λ i. Some (point_of (read_is w128 r.x_small tt i) (read_is w128 r.y_small tt i) (read_is w128 r.z_small tt i) (w i)))

pub overflow_sub-result : goal.overflow_sub-result
overflow_sub-result c = fits_by (sum (literal 0) (negation (written w128 _ (held c.requires.x_small)))) tt

pub overflow_sub-result-2 : goal.overflow_sub-result-2
overflow_sub-result-2 c = fits_by (sum (literal 0) (negation (written w128 _ (held c.requires.y_small)))) tt

pub overflow_sub-result-3 : goal.overflow_sub-result-3
overflow_sub-result-3 c = fits_by (sum (literal 0) (negation (written w128 _ (held c.requires.z_small)))) tt

pub overflow_sub-result-4 : goal.overflow_sub-result-4
overflow_sub-result-4 c = fits_by (sum (literal 0) (negation (written w128 _ (held c.requires.w_small)))) tt

-- the weight is not above 0
below : (c : goal.Else-w-gt0) → is_positive c.args.w ≡ false
below c = ap (λ (v : ℤ). int_lt (pos 0) v) (sym (read_is w128 c.requires.w_small tt)) ∙ c.if-w-gt0.false

pub invariant_of-result-2 : goal.invariant_of-result-2
invariant_of-result-2 c =
    let r = c.requires in
    let x = negated_coordinate c.args.x r.x_small in
    let y = negated_coordinate c.args.y r.y_small in
    let z = negated_coordinate c.args.z r.z_small in
    let w = negated_weight c.args.w r.w_small in
    let xs : IsWithin (18 * 2 ^ 96) (neg_ℤ c.args.x) = within_by (negation (held r.x_small)) tt in
    let ys : IsWithin (18 * 2 ^ 96) (neg_ℤ c.args.y) = within_by (negation (held r.y_small)) tt in
    let zs : IsWithin (18 * 2 ^ 96) (neg_ℤ c.args.z) = within_by (negation (held r.z_small)) tt in
    let ws : IsWithin (6 * 2 ^ 72) (neg_ℤ c.args.w) = within_by (negation (held r.w_small)) tt in
    subst IsSmallPoint (sym (λ i. point_of (x i) (y i) (z i) (w i)))
    (small_numbers _ _ _ _ xs ys zs ws (negated_positive c.args.w r.nonzero (below c)))

pub returns : goal.returns
returns c =
    let r = c.requires in
    let x = negated_coordinate c.args.x r.x_small in
    let y = negated_coordinate c.args.y r.y_small in
    let z = negated_coordinate c.args.z r.z_small in
    let w = negated_weight c.args.w r.w_small in
    rw (r.nonzero, below c) (λ i. Some (point_of (x i) (y i) (z i) (w i)))
