use Rattle.std.proofs.Common.{◌&&◌, sym, subst, ◌∙◌}
use Rattle.std.proofs.lemmas.List.Folds.{list_all-append}
use Rattle.rp_algebra.specs.Integer.{is_nonnegative}
use Rattle.rp_algebra.proofs.Tests.{false_not_true}
use Rattle.rp_geometry.specs.Geometry.{HalfSpace, IsPoint, side_value, all_nonnegative, cube_half_spaces}
use Rattle.rp_cert.proofs.inside.check_weak.Goals as goal

pub returns-then-are_nonnegative-clause-value : goal.returns-then-are_nonnegative-clause-value
returns-then-are_nonnegative-clause-value c =
    let p = c.args.p.now in
    let all = sym c.if-are_nonnegative.true ∙ c.are_nonnegative.ensures in
    c.are_nonnegative-then-are_nonnegative.ensures
    ∙ (λ i. all i && all_nonnegative (c.cube.ensures i) p)
    ∙ sym (list_all-append (λ (h : HalfSpace). is_nonnegative (side_value h p)) c.args.cell.now cube_half_spaces)

pub returns-then-are_nonnegative-clause-solution : goal.returns-then-are_nonnegative-clause-solution
returns-then-are_nonnegative-clause-solution c = λ told. (subst IsPoint c.numbers.ensures.numbers c.numbers.ensures.small.positive, sym (returns-then-are_nonnegative-clause-value c) ∙ told)

pub returns-else-are_nonnegative-clause-value : goal.returns-else-are_nonnegative-clause-value
returns-else-are_nonnegative-clause-value c =
    let p = c.args.p.now in
    let none = sym c.if-are_nonnegative.false ∙ c.are_nonnegative.ensures in
    c.if-are_nonnegative.false
    ∙ (λ i. none i && all_nonnegative cube_half_spaces p)
    ∙ sym (list_all-append (λ (h : HalfSpace). is_nonnegative (side_value h p)) c.args.cell.now cube_half_spaces)

pub returns-else-are_nonnegative-clause-solution : goal.returns-else-are_nonnegative-clause-solution
returns-else-are_nonnegative-clause-solution c = λ told. absurd (false_not_true _ told c.if-are_nonnegative.false)
