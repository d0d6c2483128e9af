use Rattle.std.proofs.Common.{◌+◌, ◌∷◌, [], ◌++◌, take, drop, sym, ap, ◌∙◌, append_assoc}
use Rattle.std.proofs.lemmas.Result.{err_from_is_err_and}
use Rattle.std.proofs.lemmas.List.{take_more}
use Rattle.rp_algebra.proofs.Lists.{drop_item}
use Rattle.rp_semantics.specs.Walk.{first_tester}
use Rattle.rp_semantics.specs.Form.{carve_one, carve}
use Rattle.rp_region.proofs.Grows.{carve_one_tells, carve_tells}
use Rattle.rp_region.proofs.Left.{left_as, next_left, fault_left}
use Rattle.rp_region.proofs.difference.carve.Goals as goal

pub returns-in_err-carve_one : goal.returns-in_err-carve_one
returns-in_err-carve_one c =
    let p = err_from_is_err_and c.from_residual.result c.from_residual.ensures.1 in
    let cell = c.args.front.now in
    let halves = c.args.halves.now in
    let before = take c.loop-half.half-index halves in
    let half = c.half-item.result in
    let rest = drop (c.loop-half.half-index + 1) halves in
    rw (p.1, p.2)
    (fault_left (carve_one first_tester c.loop-half.left.items cell before half) (λ longer. carve first_tester longer cell (before ++ half ∷ []) rest)
    (λ longer. carve_tells longer cell (before ++ half ∷ []) rest)
    (left_as (ap (carve first_tester c.loop-half.left.items cell before) (drop_item halves c.loop-half.half-index half c.loop-half-test.true c.half-item.is)) c.loop-half.invariant.1)
    c.in_err-carve_one.field-0.0 c.carve_one.new.work
    (c.in_err-carve_one.ensures.makes cell before c.loop-half.invariant.0))

pub loop-half-preserved : goal.loop-half-preserved
loop-half-preserved c =
    let cell = c.args.front.now in
    let halves = c.args.halves.now in
    let before = take c.loop-half.half-index halves in
    let half = c.half-item.result in
    let rest = drop (c.loop-half.half-index + 1) halves in
    let longer = ap (λ h. before ++ h ∷ []) c.half-item.is ∙ sym (take_more halves c.loop-half.half-index half c.loop-half-test.true) in (
      c.push.ensures ∙ ap (λ hs. hs ++ half ∷ []) (c.in_ok-carve_one.ensures.same ∙ c.loop-half.invariant.0) ∙ append_assoc cell before (half ∷ []) ∙ ap (λ hs. cell ++ hs) longer,
      left_as (ap (λ hs. carve first_tester c.carve_one.new.left.items cell hs rest) longer)
          (next_left (carve_one first_tester c.loop-half.left.items cell before half) (λ longer. carve first_tester longer cell (before ++ half ∷ []) rest)
          (carve_one_tells c.loop-half.left.items cell before half)
          (left_as (ap (carve first_tester c.loop-half.left.items cell before) (drop_item halves c.loop-half.half-index half c.loop-half-test.true c.half-item.is)) c.loop-half.invariant.1)
          (c.in_ok-carve_one.ensures.makes cell before c.loop-half.invariant.0)),
    )
