use Rattle.std.proofs.Common.{refl, sym, subst, ◌∙◌}
use Rattle.sqlite.specs.Held.{state}
use Rattle.rp_disk_book.specs.Kept.{Kept, contents_of}
use Rattle.rp_disk_book.specs.Disk.{IsBook}
use Rattle.rp_disk_book.proofs.DiskLemmas.{is_made, autocommit_is}
use Rattle.rp_disk_book.proofs.FindLemmas.{finds_only, may_find}
use Rattle.rp_disk_book.proofs.book.DiskBook.create.Goals as goal

pub invariant_of-result : goal.invariant_of-result
invariant_of-result g c = (
  c.new.ensures.kept,
  λ well clean.
      subst (λ (k : Kept). IsBook (state g.S.Store c.create.new.conn) k.acts k.script) (sym c.new.ensures.empty)
      (is_made (state g.S.Store c.args.conn) (state g.S.Store c.create.new.conn)
      (c.in_ok-create.ensures.makes clean (sym c.schema.ensures.value ∙ c.is_empty.ensures c.if-not-is_empty.false)) (autocommit_is _ _ c.is_autocommit.ensures.value c.if-not-is_autocommit.false)),
)

pub returns-clause-only : goal.returns-clause-only
returns-clause-only g c =
    let k = contents_of c.new.result in
    finds_only (state g.S.Store c.create.new.conn) k.acts k.script ((invariant_of-result g c).1 refl) (g.met.S.Store.settled c.create.new.conn.store)

pub returns-clause-leaves : goal.returns-clause-leaves
returns-clause-leaves g c =
    let k = contents_of c.new.result in
    may_find (state g.S.Store c.create.new.conn) k.acts k.script ((invariant_of-result g c).1 refl) (g.met.S.Store.stays c.create.new.conn.store)
