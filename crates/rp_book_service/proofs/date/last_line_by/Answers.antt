use Rattle.std.proofs.Common.{◌≡◌, map, subst, arith}
use Rattle.std.specs.Prelude.{max}
use Rattle.rp_book.specs.Act.{act_of}
use Rattle.rp_book_service.specs.Acts.{last_by}
use Rattle.rp_book_service.proofs.date.last_line_by.Goals as goal

pub loop-act-preserved : goal.loop-act-preserved
loop-act-preserved c =
    let date = c.args.date.now in
    let before = subst (λ rest. max c.loop-act.last (last_by date (map act_of rest)) ≡ last_by date (map act_of c.args.acts.now)) c.in-Some.ensures.cases.0 c.loop-act.invariant in
    omega (arith, before, c.line_by.ensures, c.greater-last.ensures)
