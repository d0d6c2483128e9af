use Rattle.std.proofs.Common.{[], sym, subst, ap, ◌∙◌}
use Rattle.sqlite.specs.Held.{state}
use Rattle.sqlite.specs.State.{HasCleanDisk}
use Rattle.rp_disk_book.specs.Kept.{contents_of}
use Rattle.rp_disk_book.specs.Disk.{HasRead, IsBook}
use Rattle.rp_disk_book.proofs.DiskLemmas.{is_read, autocommit_is}
use Rattle.rp_disk_book.proofs.FindLemmas.{finds_only, may_find}
use Rattle.rp_disk_book.proofs.UniqueLemmas.{is_found}
use Rattle.rp_disk_book.proofs.book.DiskBook.open.Goals as goal

pub invariant_of-result : goal.invariant_of-result
invariant_of-result g c = (
  c.in_ok-contents.ensures.kept,
  λ well clean.
      let schema = sym c.schema.ensures.value ∙ c.is_book.ensures c.if-not-is_book.false in
      is_read (state g.S.Store c.args.conn) (state g.S.Store c.select.new.conn) c.in_ok-rows.rows.items (contents_of c.in_ok-contents.contents) schema
      (autocommit_is _ _ c.is_autocommit.ensures.value c.if-not-is_autocommit.false) (c.is_autocommit.ensures.settled c.if-not-is_autocommit.false)
      (c.in_ok-rows.ensures.same clean schema) (c.in_ok-rows.ensures.lists clean schema)
      (subst (λ rows. HasRead rows [] (contents_of c.in_ok-contents.contents)) c.deref.ensures.value c.in_ok-contents.ensures.read),
)

-- what was opened is a book
is_opened : (g : _) (c : goal.After-drop-rows-2 g) → HasCleanDisk (state g.S.Store c.select.new.conn) → IsBook (state g.S.Store c.select.new.conn) (contents_of c.in_ok-contents.contents).acts (contents_of c.in_ok-contents.contents).script
is_opened g c clean =
    let schema = sym c.schema.ensures.value ∙ c.is_book.ensures c.if-not-is_book.false in
    is_read (state g.S.Store c.args.conn) (state g.S.Store c.select.new.conn) c.in_ok-rows.rows.items (contents_of c.in_ok-contents.contents) schema
    (autocommit_is _ _ c.is_autocommit.ensures.value c.if-not-is_autocommit.false) (c.is_autocommit.ensures.settled c.if-not-is_autocommit.false)
    (c.in_ok-rows.ensures.same clean schema) (c.in_ok-rows.ensures.lists clean schema)
    (subst (λ rows. HasRead rows [] (contents_of c.in_ok-contents.contents)) c.deref.ensures.value c.in_ok-contents.ensures.read)

pub returns-clause-found : goal.returns-clause-found
returns-clause-found g c = λ clean before was may test finds.
    let same = c.in_ok-rows.ensures.same clean (sym c.schema.ensures.value ∙ c.is_book.ensures c.if-not-is_book.false) in
    let k = contents_of c.in_ok-contents.contents in
    is_found (state g.S.Store before) (state g.S.Store c.select.new.conn) k.acts k.script (state g.S.Store c.args.conn).committed.trees (is_opened g c clean)
    (ap (λ d. d.trees) same.0.committed_is) was may test finds

pub returns-clause-only : goal.returns-clause-only
returns-clause-only g c =
    let k = contents_of c.in_ok-contents.contents in
    finds_only (state g.S.Store c.select.new.conn) k.acts k.script (is_opened g c) (g.met.S.Store.settled c.select.new.conn.store)

pub returns-clause-leaves : goal.returns-clause-leaves
returns-clause-leaves g c =
    let k = contents_of c.in_ok-contents.contents in
    may_find (state g.S.Store c.select.new.conn) k.acts k.script (is_opened g c) (g.met.S.Store.stays c.select.new.conn.store)
