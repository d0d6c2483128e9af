use Rattle.std.proofs.Common.{◌<◌, Some, sym, ap, ◌∙◌, arith}
use Rattle.std.proofs.lemmas.Int.{ints}
use Rattle.std.specs.Prelude.{pos, ◌≤ℤ◌}
use Rattle.rp_command.specs.Held.{most_held}
use Rattle.rp_scripts.proofs.NumberLemmas.{number_between-some}
use Rattle.rp_scripts.proofs.number.number_between.Goals as goal

pub returns-then-number-from-clause-value : goal.returns-then-number-from-clause-value
returns-then-number-from-clause-value c =
    let v = c.in_ok-number.number in
    let small : c.args.greatest < most_held = omega arith in
    let low : pos c.args.least ≤ℤ v = omega (arith, ints, c.from.ensures, c.if-from-number.true) in
    let high : v ≤ℤ pos c.args.greatest = omega (arith, ints, c.from-then-from-number.ensures, c.if-number-from.true) in
    ap Some (omega (arith, ints)) ∙ number_between-some c.args.least c.args.greatest c.args.word.now v small (sym c.in_ok-number.was ∙ c.spelled.ensures) low high
