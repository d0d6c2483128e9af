use Rattle.std.proofs.Common.{◌≡◌, ℕ, ◌+◌, ◌≤◌, ◌++◌, ap, sym, ◌∙◌, subst, arith}
use Rattle.std.specs.Vec.Iter.{into_iter_items}
use Rattle.std.specs.List.{AllByRecursion}
use Rattle.rp_semantics.specs.Walk.{Work, most_tests}
use Rattle.rp_regionlots.specs.Shown.{with_all_shown, ShowsNothingCounted}
use Rattle.rp_regionlots.proofs.halves.append_shown.Goals as goal

pub loop-one-preserved : goal.loop-one-preserved
loop-one-preserved c =
    let now = c.loop-one.work in
    let lines = c.in-Some.one.work.proofs in
    let rest = into_iter_items c.next.new.self in
    let uncounted = subst (AllByRecursion ShowsNothingCounted) c.in-Some.ensures.steps.0 c.loop-one.invariant.uncounted in
    let none = uncounted.0 in
    let same : now.tests ≡ now.tests + c.in-Some.one.work.tests = omega (arith, none) in
    let made = ap (λ (n : ℕ). record { tests = n; proofs = now.proofs ++ lines }) same ∙ sym c.in_ok-append.ensures.ok in
    record {
      few = subst (λ (w : Work). w.tests ≤ most_tests) made c.loop-one.invariant.few;
      uncounted = uncounted.1;
      left = sym (ap (λ (w : Work). with_all_shown w rest) made) ∙ sym (ap (with_all_shown now) c.in-Some.ensures.steps.0) ∙ c.loop-one.invariant.left;
    }
