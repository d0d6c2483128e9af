use Rattle.std.proofs.Common.{◌≡◌, ◌+◌, length, drop, sum_by}
use Rattle.rp_store.proofs.lots.count_parts.Given as goal

-- the forms still to come are not counted yet
abbrev pub invariant-loop-form : goal.invariant-loop-form
invariant-loop-form g l = l.count + sum_by (λ f. length (g.F.Forms.parts_of f)) (drop l.form-index l.forms) ≡ sum_by (λ f. length (g.F.Forms.parts_of f)) l.forms
