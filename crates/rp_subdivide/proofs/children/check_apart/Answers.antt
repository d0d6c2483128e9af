use Rattle.std.proofs.Common.{ℕ, map, sym, ap, ◌∙◌, subst}
use Rattle.std.specs.Prelude.{option_map}
use Rattle.std.proofs.lemmas.Result.{err_from_is_err_and}
use Rattle.rp_semantics.specs.Walk.{done, after_first, ◌>>=◌}
use Rattle.rp_semantics.specs.Form.{near_pair}
use Rattle.rp_model.specs.commands.Verdict.{children_overlap}
use Rattle.rp_model.specs.commands.Reply.{check}
use Rattle.rp_model.specs.commands.Subdivide.{child_parts, first_overlapping_children}
use Rattle.rp_model.specs.commands.Parts.{count_among}
use Rattle.rp_oracle.specs.Refines.{StopsBy}
use Rattle.rp_oracle.proofs.Left.{stops_on}
use Rattle.rp_subdivide.specs.Children.{formed_child}
use Rattle.rp_subdivide.proofs.children.check_apart.Goals as goal

pub returns-in_err-count_tests : goal.returns-in_err-count_tests
returns-in_err-count_tests g c rest =
    let p = err_from_is_err_and c.from_residual.result c.from_residual.ensures.1 in
    let tester = g.T.Oracle.tester in
    let cs = map (formed_child g.T.Oracle.parts_of) c.args.children.now in
    let e = c.in_err-count_tests.field-0.0 in
    let v = c.count_tests.new.tests in
    rw (p.1, p.2)
    (stops_on (λ _. first_overlapping_children tester 1 cs >>= λ double. check double rest) e v (tester.count (count_among near_pair (child_parts cs)) c.args.tests.now)
    (subst (λ (n : ℕ). StopsBy e v (tester.count n c.args.tests.now)) c.count_near.ensures c.in_err-count_tests.ensures))

pub returns-in_err-first : goal.returns-in_err-first
returns-in_err-first g c rest =
    let p = err_from_is_err_and c.from_residual-in_err-first.result c.from_residual-in_err-first.ensures.1 in
    let tester = g.T.Oracle.tester in
    let cs = map (formed_child g.T.Oracle.parts_of) c.args.children.now in
    let e = c.in_err-first.field-0.0 in
    let v = c.count_tests.new.tests in
    let u = c.first_overlapping.new.tests in
    let counted = ap (after_first (λ _. first_overlapping_children tester 1 cs >>= λ double. check double rest)) (ap (λ (n : ℕ). tester.count n c.args.tests.now) (sym c.count_near.ensures) ∙ c.in_ok-count_tests.ensures) in
    rw (p.1, p.2) (subst (StopsBy e u) (sym counted) (stops_on (λ double. check double rest) e u (first_overlapping_children tester 1 cs v) c.in_err-first.ensures))

pub returns-in-Some : goal.returns-in-Some
returns-in-Some g c rest =
    let tester = g.T.Oracle.tester in
    let cs = map (formed_child g.T.Oracle.parts_of) c.args.children.now in
    ap (after_first (λ _. first_overlapping_children tester 1 cs >>= λ double. check double rest)) (ap (λ (n : ℕ). tester.count n c.args.tests.now) (sym c.count_near.ensures) ∙ c.in_ok-count_tests.ensures)
    ∙ ap (after_first (λ double. check double rest)) (c.in_ok-first.ensures ∙ ap (λ o. done (option_map (λ q. children_overlap q.0 q.1) o) c.first_overlapping.new.tests) c.in-Some.is)

pub returns-in-None : goal.returns-in-None
returns-in-None g c rest =
    let tester = g.T.Oracle.tester in
    let cs = map (formed_child g.T.Oracle.parts_of) c.args.children.now in
    ap (after_first (λ _. first_overlapping_children tester 1 cs >>= λ double. check double rest)) (ap (λ (n : ℕ). tester.count n c.args.tests.now) (sym c.count_near.ensures) ∙ c.in_ok-count_tests.ensures)
    ∙ ap (after_first (λ double. check double rest)) (c.in_ok-first.ensures ∙ ap (λ o. done (option_map (λ q. children_overlap q.0 q.1) o) c.first_overlapping.new.tests) c.in-None.is)
