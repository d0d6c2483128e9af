use Rattle.std.proofs.Common.{length, ap, sym, subst, arith}
use Rattle.rp_disk_book.specs.Kept.{IsKept}
use Rattle.rp_disk_book.proofs.contents.Contents.prepare.Goals as goal

pub line_numbers-first-requires-clause-fits : goal.line_numbers-first-requires-clause-fits
line_numbers-first-requires-clause-fits c =
    let kept = subst IsKept (sym c.in_ok-reserve.ensures.same) c.requires.kept in
    omega (arith, kept.fits, ap length c.deref.ensures.value)
