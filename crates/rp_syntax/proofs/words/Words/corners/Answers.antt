use Rattle.std.proofs.Common.{◌≡◌, ◌-◌, ◌+◌, suc, [], ◌∷◌, sym, ap, ◌∙◌, subst, arith, map}
use Rattle.std.proofs.lemmas.Result.{err_from_is_err_and}
use Rattle.std.proofs.lemmas.List.{map-append}
use Rattle.rp_language.specs.Grammar.{many, corner_numbers}
use Rattle.rp_space.specs.Corners.{polygon_corner}
use Rattle.rp_syntax.specs.Reads.{FaultIs}
use Rattle.rp_command.specs.Versions.{version_of}
use Rattle.rp_syntax.proofs.ManyLemmas.{with_front, with_none, many-more, many-stopped}
use Rattle.rp_syntax.proofs.words.Words.corners.Goals as goal

pub loop-init : goal.loop-init
loop-init c =
    let all : c.args.count - 0 ≡ c.args.count = omega arith in
    ap (λ front. with_front front (many (c.args.count - 0) (corner_numbers (version_of c.args.version)) c.args.self.now)) (ap (map polygon_corner) c.new-corners.ensures)
    ∙ ap (λ n. with_front [] (many n (corner_numbers (version_of c.args.version)) c.args.self.now)) all ∙ with_none (many c.args.count (corner_numbers (version_of c.args.version)) c.args.self.now)

pub returns-in_err-corner : goal.returns-in_err-corner
returns-in_err-corner c =
    let p = err_from_is_err_and c.from_residual.result c.from_residual.ensures.1 in
    let n = c.args.count - (c.loop.counter + 1) in
    let m = c.args.count - c.loop.counter in
    let one : m ≡ suc n = omega (arith, c.loop-test.true) in
    let stopped = many-stopped n m (corner_numbers (version_of c.args.version)) c.in_err-corner.field-0.0 (map polygon_corner c.loop.corners.items) c.loop.self one c.in_err-corner.ensures in
    rw (p.1, p.2) (subst (FaultIs c.in_err-corner.field-0.0) c.loop.invariant stopped)

pub loop-preserved : goal.loop-preserved
loop-preserved c =
    let n = c.args.count - (c.loop.counter + 1) in
    let m = c.args.count - c.loop.counter in
    let one : m ≡ suc n = omega (arith, c.loop-test.true) in
    let more = many-more n m (corner_numbers (version_of c.args.version)) (polygon_corner c.in_ok-corner.corner) (map polygon_corner c.loop.corners.items) c.loop.self c.corner.new.self one c.in_ok-corner.ensures in
    ap (λ front. with_front front (many n (corner_numbers (version_of c.args.version)) c.corner.new.self)) (ap (map polygon_corner) c.in_ok-push.ensures.ok ∙ map-append polygon_corner c.loop.corners.items (c.in_ok-corner.corner ∷ [])) ∙ sym more ∙ c.loop.invariant
