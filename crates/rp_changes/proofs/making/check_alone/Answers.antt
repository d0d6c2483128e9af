use Rattle.std.proofs.Common.{refl, ap, sym, ◌∙◌, subst}
use Rattle.std.proofs.lemmas.Result.{err_from_is_err_and}
use Rattle.rp_semantics.specs.Walk.{done, after_first}
use Rattle.rp_model.specs.commands.Register.{first_overlapped}
use Rattle.rp_proximity.specs.declared.reach.Reach.TheVariants.{Overlap}
use Rattle.rp_proximity.specs.Near.{others_in, pairs_with, lots_at}
use Rattle.rp_oracle.specs.Refines.{StopsBy}
use Rattle.rp_oracle.proofs.Left.{stops_on}
use Rattle.rp_lots.specs.declared.near.Near.{Near}
use Rattle.rp_lots.proofs.Counted.{count_lost}
use Rattle.rp_changes.proofs.Alone.{told, alone_uncounted, alone_counted}
use Rattle.rp_changes.proofs.making.check_alone.Goals as goal

pub returns-in_err-near : goal.returns-in_err-near
returns-in_err-near g c rest =
    let p = err_from_is_err_and c.from_residual.result c.from_residual.ensures.1 in
    let s = g.K.Keeper.state c.args.keeper.now in
    let ps = g.T.Oracle.parts_of c.args.form.now in
    let tester = g.T.Oracle.tester in
    let e = c.in_err-near.field-0.0 in
    let w = c.args.tests.now in
    let n = pairs_with Overlap ps (others_in c.args.layer.now c.args.id.now s.lots) in
    rw (p.1, p.2)
    (alone_uncounted tester c.args.layer.now c.args.id.now s.lots ps rest c.requires.new n e w w refl (count_lost (λ (near : Near). near.pairs) tester.count c.keep_limit.ensures e n w c.in_err-near.ensures.pairs))

pub returns-in_err-count_tests : goal.returns-in_err-count_tests
returns-in_err-count_tests g c rest =
    let p = err_from_is_err_and c.from_residual-in_err-count_tests.result c.from_residual-in_err-count_tests.ensures.1 in
    let s = g.K.Keeper.state c.args.keeper.now in
    rw (p.1, p.2)
    (alone_uncounted g.T.Oracle.tester c.args.layer.now c.args.id.now s.lots (g.T.Oracle.parts_of c.args.form.now) rest c.requires.new c.in_ok-near.near.pairs c.in_err-count_tests.field-0.0 c.args.tests.now c.count_tests.new.tests c.in_ok-near.ensures.pairs.0 c.in_err-count_tests.ensures)

pub returns-in_err-other : goal.returns-in_err-other
returns-in_err-other g c rest =
    let p = err_from_is_err_and c.from_residual-in_err-other.result c.from_residual-in_err-other.ensures.1 in
    let s = g.K.Keeper.state c.args.keeper.now in
    let ps = g.T.Oracle.parts_of c.args.form.now in
    let tester = g.T.Oracle.tester in
    let near = lots_at s.lots c.items.result.now in
    let v = c.count_tests.new.tests in
    let u = c.first_overlapped.new.tests in
    let e = c.in_err-other.field-0.0 in
    let counted = alone_counted tester c.args.layer.now c.args.id.now s.lots ps rest c.requires.new c.in_ok-near.near.pairs near c.args.tests.now v c.in_ok-near.ensures.pairs.0 (ap (lots_at s.lots) c.items.ensures ∙ c.in_ok-near.ensures.lots) c.in_ok-count_tests.ensures in
    rw (p.1, p.2)
    (subst (StopsBy e u) (sym counted)
    (stops_on (told tester c.args.layer.now c.args.id.now s.lots ps rest c.requires.new) e u (first_overlapped tester ps near v) c.in_err-other.ensures))

pub returns-in-Some : goal.returns-in-Some
returns-in-Some g c rest =
    let s = g.K.Keeper.state c.args.keeper.now in
    let ps = g.T.Oracle.parts_of c.args.form.now in
    let tester = g.T.Oracle.tester in
    let near = lots_at s.lots c.items.result.now in
    let v = c.count_tests.new.tests in
    let u = c.first_overlapped.new.tests in
    alone_counted tester c.args.layer.now c.args.id.now s.lots ps rest c.requires.new c.in_ok-near.near.pairs near c.args.tests.now v c.in_ok-near.ensures.pairs.0 (ap (lots_at s.lots) c.items.ensures ∙ c.in_ok-near.ensures.lots) c.in_ok-count_tests.ensures
    ∙ ap (after_first (told tester c.args.layer.now c.args.id.now s.lots ps rest c.requires.new)) (c.in_ok-other.ensures ∙ ap (λ o. done o u) c.in-Some.is)

pub returns : goal.returns
returns g c rest =
    let s = g.K.Keeper.state c.args.keeper.now in
    let ps = g.T.Oracle.parts_of c.args.form.now in
    let tester = g.T.Oracle.tester in
    let near = lots_at s.lots c.items.result.now in
    let v = c.count_tests.new.tests in
    let u = c.first_overlapped.new.tests in
    alone_counted tester c.args.layer.now c.args.id.now s.lots ps rest c.requires.new c.in_ok-near.near.pairs near c.args.tests.now v c.in_ok-near.ensures.pairs.0 (ap (lots_at s.lots) c.items.ensures ∙ c.in_ok-near.ensures.lots) c.in_ok-count_tests.ensures
    ∙ ap (after_first (told tester c.args.layer.now c.args.id.now s.lots ps rest c.requires.new)) (c.in_ok-other.ensures ∙ ap (λ o. done o u) c.in_default.is)
