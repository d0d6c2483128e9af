use Rattle.std.proofs.Common.{map, sym, ◌∙◌, subst}
use Rattle.std.proofs.lemmas.Result.{err_from_is_err_and}
use Rattle.rp_answer.specs.Replies.{EndsBy, GoesOn}
use Rattle.rp_subdivide.specs.Children.{formed_child}
use Rattle.rp_subdivide.specs.Steps.{apart_tested, cover_tested}
use Rattle.rp_subdivide.proofs.subdividing.check_division.Goals as goal

pub returns-in_err-check_inside : goal.returns-in_err-check_inside
returns-in_err-check_inside g c rest =
    let p = err_from_is_err_and c.from_residual.result c.from_residual.ensures.1 in
    let tester = g.T.Oracle.tester in
    let cs = map (formed_child g.T.Oracle.parts_of) c.args.children.now in
    rw (p.1, p.2) (c.in_err-check_inside.ensures (apart_tested tester cs (cover_tested tester (g.T.Oracle.parts_of c.args.whole.now) cs rest)))

pub returns-in_err-check_apart : goal.returns-in_err-check_apart
returns-in_err-check_apart g c rest =
    let p = err_from_is_err_and c.from_residual-in_err-check_apart.result c.from_residual-in_err-check_apart.ensures.1 in
    let tester = g.T.Oracle.tester in
    let cs = map (formed_child g.T.Oracle.parts_of) c.args.children.now in
    let covered = cover_tested tester (g.T.Oracle.parts_of c.args.whole.now) cs rest in
    rw (p.1, p.2) (subst (EndsBy c.in_err-check_apart.field-0.0 c.check_apart.new.tests) (sym (c.in_ok-check_inside.ensures (apart_tested tester cs covered))) (c.in_err-check_apart.ensures covered))

pub returns : goal.returns
returns g c rest =
    let tester = g.T.Oracle.tester in
    let cs = map (formed_child g.T.Oracle.parts_of) c.args.children.now in
    let covered = cover_tested tester (g.T.Oracle.parts_of c.args.whole.now) cs rest in
    subst (λ o. GoesOn (λ x. x) c.check_covered.result c.check_covered.new.tests (λ _. rest) o) (sym (c.in_ok-check_inside.ensures (apart_tested tester cs covered) ∙ c.in_ok-check_apart.ensures covered)) (c.check_covered.ensures rest)
