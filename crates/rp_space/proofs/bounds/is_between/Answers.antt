use Rattle.std.proofs.Common.{◌≡◌, ◌*ℤ◌, true, false, sym, ◌∙◌, rules}
use Rattle.std.specs.Prelude.{int_le, int_lt}
use Rattle.std.specs.Int.RustNames.{FitsSigned}
use Rattle.std.proofs.lemmas.Int.{to_z-of_z}
use mir.Syntax.{w128}
use Rattle.rp_space.proofs.Between.{handed, upper_decides, lower_decides}
use Rattle.rp_space.proofs.bounds.is_between.Goals as goal

pub returns-then-least-v : goal.returns-then-least-v
returns-then-least-v c =
    let fl : FitsSigned w128 c.scaled-least.result = search rules in
    let fh : FitsSigned w128 c.scaled-limit.result = search rules in
    let least = handed c.args.lo c.args.w c.scaled-least.result c.ranges.lo c.ranges.w fl c.scaled-least.ensures in
    let limit = handed c.args.hi c.args.w c.scaled-limit.result c.ranges.hi c.ranges.w fh c.scaled-limit.ensures in
    let value = to_z-of_z w128 c.args.v c.ranges.v in
    let kept : int_le (c.args.lo *ℤ c.args.w) c.args.v ≡ true = (λ i. int_le (sym least i) (sym value i)) ∙ c.if-least-v.true in
    (λ i. int_lt (value i) (limit i)) ∙ upper_decides c.args.lo c.args.hi c.args.v c.args.w kept

pub returns-else-least-v : goal.returns-else-least-v
returns-else-least-v c =
    let fl : FitsSigned w128 c.scaled-least.result = search rules in
    let least = handed c.args.lo c.args.w c.scaled-least.result c.ranges.lo c.ranges.w fl c.scaled-least.ensures in
    let value = to_z-of_z w128 c.args.v c.ranges.v in
    let passed : int_le (c.args.lo *ℤ c.args.w) c.args.v ≡ false = (λ i. int_le (sym least i) (sym value i)) ∙ c.if-least-v.false in
    (λ i. int_le (least i) (value i)) ∙ lower_decides c.args.lo c.args.hi c.args.v c.args.w passed
