use Rattle.std.proofs.Common.{◌≡◌, ◌-◌, ◌+◌, suc, [], ◌∷◌, sym, ap, ◌∙◌, subst, arith, map}
use Rattle.std.proofs.lemmas.Result.{err_from_is_err_and}
use Rattle.std.proofs.lemmas.List.{map-append}
use Rattle.rp_language.specs.Grammar.{many, child}
use Rattle.rp_syntax.specs.Reads.{FaultIs}
use Rattle.rp_command.specs.Versions.{version_of}
use Rattle.rp_command.specs.Views.{child_of}
use Rattle.rp_syntax.proofs.ManyLemmas.{with_front, with_none, many-more, many-stopped}
use Rattle.rp_syntax.proofs.words.Words.children.Goals as goal

pub loop-init : goal.loop-init
loop-init c =
    let all : c.args.count - 0 ≡ c.args.count = omega arith in
    ap (λ front. with_front front (many (c.args.count - 0) (child (version_of c.args.version)) c.args.self.now)) (ap (map child_of) c.new-children.ensures)
    ∙ ap (λ n. with_front [] (many n (child (version_of c.args.version)) c.args.self.now)) all ∙ with_none (many c.args.count (child (version_of c.args.version)) c.args.self.now)

pub returns-in_err-child : goal.returns-in_err-child
returns-in_err-child c =
    let p = err_from_is_err_and c.from_residual.result c.from_residual.ensures.1 in
    let n = c.args.count - (c.loop.counter + 1) in
    let m = c.args.count - c.loop.counter in
    let one : m ≡ suc n = omega (arith, c.loop-test.true) in
    let stopped = many-stopped n m (child (version_of c.args.version)) c.in_err-child.field-0.0 (map child_of c.loop.children.items) c.loop.self one c.in_err-child.ensures in
    rw (p.1, p.2) (subst (FaultIs c.in_err-child.field-0.0) c.loop.invariant stopped)

pub loop-preserved : goal.loop-preserved
loop-preserved c =
    let n = c.args.count - (c.loop.counter + 1) in
    let m = c.args.count - c.loop.counter in
    let one : m ≡ suc n = omega (arith, c.loop-test.true) in
    let more = many-more n m (child (version_of c.args.version)) (child_of c.in_ok-child.child) (map child_of c.loop.children.items) c.loop.self c.child.new.self one c.in_ok-child.ensures in
    ap (λ front. with_front front (many n (child (version_of c.args.version)) c.child.new.self)) (ap (map child_of) c.in_ok-push.ensures.ok ∙ map-append child_of c.loop.children.items (c.in_ok-child.child ∷ [])) ∙ sym more ∙ c.loop.invariant
