use Rattle.std.proofs.Common.{ℕ, suc, List, ◌∷◌, drop, drop-cons, add-one, subst, sym, arith}
use Rattle.std.proofs.lemmas.List.{drop_all}
use Rattle.sqlite.specs.Order.{Row}
use Rattle.rp_disk_book.specs.Kept.{contents_of}
use Rattle.rp_disk_book.specs.Disk.{HasRead}
use Rattle.rp_disk_book.proofs.DiskLemmas.{HasRead-more}
use Rattle.rp_disk_book.proofs.open.read_entries.Goals as goal

pub loop-row-preserved : goal.loop-row-preserved
loop-row-preserved c =
    let rows = c.args.rows.now in
    let i = c.loop-row.row-index in
    let row = c.row-item.result in
    let old = contents_of c.loop-row.contents in
    let new = contents_of c.push_entry.new.contents in
    let split = subst (λ (rest : List Row). HasRead rows rest old) (drop-cons rows i row c.loop-row-test.true) c.loop-row.invariant.1 in
    let first = subst (λ (r : Row). HasRead rows (r ∷ drop (suc i) rows) old) (sym c.row-item.is) split in (
      c.in_ok-push_entry.ensures.kept,
      subst (λ (k : ℕ). HasRead rows (drop k rows) new) (sym (add-one i)) (HasRead-more rows row (drop (suc i) rows) old new first c.in_ok-push_entry.ensures.gained),
    )

pub returns-clause-read : goal.returns-clause-read
returns-clause-read c =
    let rows = c.args.rows.now in
    subst (λ (rest : List Row). HasRead rows rest (contents_of c.loop-row.contents)) (drop_all c.loop-row.row-index rows (omega (arith, c.loop-row-test.false))) c.loop-row.invariant.1
