use Rattle.std.proofs.Common.{◌≡◌, ◌-◌, ◌+◌, ◌∙◌, ℕ, sym, ap, arith}
use Rattle.rp_lotindex.specs.declared.stretch.Stretch.{Stretch}
use Rattle.rp_lotindex.proofs.Stretches.{stretch_here, stretch_next, stretch_last}
use Rattle.rp_lotindex.proofs.stretch.Stretch.of.Goals as goal

pub returns-then-first-last : goal.returns-then-first-last
returns-then-first-last c = let l = c.loop-level in sym (stretch_here (31 - l.level) l.level l.first l.last c.if-first-last.true) ∙ l.invariant

pub loop-level-preserved : goal.loop-level-preserved
loop-level-preserved c =
    let l = c.loop-level in
    let in_time = c.loop-level-test.true in
    sym (stretch_next (31 - l.level) (31 - (l.level + 1)) l.level l.first l.last (omega (arith, in_time)) c.if-first-last.false) ∙ l.invariant

pub returns : goal.returns
returns c =
    let l = c.loop-level in
    let behind = c.loop-level-test.false in
    let last : l.level ≡ 31 = omega (arith, behind) in
    ap (λ (i : ℕ). let s : Stretch = record { level = i; mark = l.first } in s) (sym last) ∙ sym (stretch_last (31 - l.level) l.level l.first l.last (omega (arith, last))) ∙ l.invariant
