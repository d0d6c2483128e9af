use Rattle.std.proofs.Common.{◌≡◌, ◌-◌, ◌+◌, suc, [], sym, ap, ◌∙◌, subst, arith}
use Rattle.std.proofs.lemmas.Result.{err_from_is_err_and}
use Rattle.rp_language.specs.Grammar.{many, name}
use Rattle.rp_syntax.specs.Reads.{FaultIs}
use Rattle.rp_syntax.proofs.ManyLemmas.{with_front, with_none, many-more, many-stopped}
use Rattle.rp_syntax.proofs.words.Words.lots.Goals as goal

pub loop-init : goal.loop-init
loop-init c =
    let all : c.args.count - 0 ≡ c.args.count = omega arith in
    ap (λ front. with_front front (many (c.args.count - 0) name c.args.self.now)) c.new-lots.ensures
    ∙ ap (λ n. with_front [] (many n name c.args.self.now)) all ∙ with_none (many c.args.count name c.args.self.now)

pub returns-in_err-lot : goal.returns-in_err-lot
returns-in_err-lot c =
    let p = err_from_is_err_and c.from_residual.result c.from_residual.ensures.1 in
    let n = c.args.count - (c.loop.counter + 1) in
    let m = c.args.count - c.loop.counter in
    let one : m ≡ suc n = omega (arith, c.loop-test.true) in
    let stopped = many-stopped n m name c.in_err-lot.field-0.0 (c.loop.lots.items) c.loop.self one c.in_err-lot.ensures in
    rw (p.1, p.2) (subst (FaultIs c.in_err-lot.field-0.0) c.loop.invariant stopped)

pub loop-preserved : goal.loop-preserved
loop-preserved c =
    let n = c.args.count - (c.loop.counter + 1) in
    let m = c.args.count - c.loop.counter in
    let one : m ≡ suc n = omega (arith, c.loop-test.true) in
    let more = many-more n m name (c.in_ok-lot.lot) (c.loop.lots.items) c.loop.self c.name.new.self one c.in_ok-lot.ensures in
    ap (λ front. with_front front (many n name c.name.new.self)) (c.in_ok-push.ensures.ok) ∙ sym more ∙ c.loop.invariant
