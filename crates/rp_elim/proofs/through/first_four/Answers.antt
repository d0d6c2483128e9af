use Rattle.std.proofs.Common.{◌<◌, ◌+◌, ℕ, List, length, drop, get_or, sym, ap, subst, arith, ◌∙◌}
use Rattle.std.proofs.lemmas.List.{take_rest}
use Rattle.rp_elim.specs.declared.sign_sets.Signs.{Signs}
use Rattle.rp_elim.specs.SignSets.{signs_of, signs_list}
use Rattle.rp_elim.proofs.SignSets.{signs_length, signs_behind, signs_at}
use Rattle.rp_elim.proofs.through.first_four.Goals as goal

pub bounds-signs-i : goal.bounds-signs-i
bounds-signs-i c = subst (λ (n : ℕ). c.loop-i.i < n) (sym (ap length c.requires.signs ∙ signs_length c.args.k.now c.args.ps.now)) c.loop-i-test.true

pub slice_bounds-first_four_with-count-in-loop-i : goal.slice_bounds-first_four_with-count-in-loop-i
slice_bounds-first_four_with-count-in-loop-i c =
    let same = ap length c.requires.signs ∙ signs_length c.args.k.now c.args.ps.now in
    let h = c.loop-i-test.true in
    omega (arith, same, h)

pub slice_bounds-first_four_with-start-in-loop-i : goal.slice_bounds-first_four_with-start-in-loop-i
slice_bounds-first_four_with-start-in-loop-i c =
    let same = ap length c.requires.signs ∙ signs_length c.args.k.now c.args.ps.now in
    let h = c.loop-i-test.true in
    omega (arith, same, h)

pub first_four_with-requires-clause-own : goal.first_four_with-requires-clause-own
first_four_with-requires-clause-own c =
    let k = c.args.k.now in
    let ps = c.args.ps.now in
    let i = c.loop-i.i in
    let p = c.index-ps-i.result in
    ap (λ (ss : List Signs). get_or ss i (record { above = 0; below = 0 })) c.requires.signs
    ∙ signs_at k ps i p (record { above = 0; below = 0 }) c.loop-i-test.true c.index-ps-i.is
    ∙ ap (signs_of k p.half) (sym (take_rest ps (i + 1)))

pub first_four_with-requires-clause-signs : goal.first_four_with-requires-clause-signs
first_four_with-requires-clause-signs c =
    let k = c.args.k.now in
    let ps = c.args.ps.now in
    let i = c.loop-i.i in
    take_rest c.args.signs.now (i + 1)
    ∙ ap (λ (ss : List Signs). drop (i + 1) ss) c.requires.signs
    ∙ signs_behind k (i + 1) ps
    ∙ ap (signs_list k) (sym (take_rest ps (i + 1)))
