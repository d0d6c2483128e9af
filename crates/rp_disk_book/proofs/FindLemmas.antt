-- Which scripts the next one who opens a book finds.
use Rattle.std.proofs.Common.{◌≡◌, ℕ, Bool, IsTrue, List, refl, sym, subst}
use Rattle.sqlite.specs.Tree.{Trees}
use Rattle.sqlite.specs.State.{State, HasCleanDisk}
use Rattle.rp_book.specs.Act.{Told}
use Rattle.rp_book_schema.specs.Entry.{entries_in}
use Rattle.rp_disk_book.specs.Disk.{RecoverableFromDatabase, HoldsScript, IsBook}
use Rattle.rp_disk_book.proofs.UniqueLemmas.{is_found}

module _ (s : State) (acts : List Told) (script : List ℕ) (book : HasCleanDisk s → IsBook s acts script) where
  -- a crash of an open book leaves its last commit, so no other script is found
  pub finds_only : ((db : Trees) → IsTrue s.is_open → s.may_leave db → db ≡ s.committed.trees) → (test : List ℕ → Bool) → IsTrue (test script) → RecoverableFromDatabase s test
  finds_only settled test passes = λ clean db may.
      let it = book clean in
      (acts, script, subst (λ (d : Trees). HoldsScript (entries_in d) acts script) (sym (settled db it.is_open may)) it.holds, passes)

  -- it may leave the last commit, so the script may be found
  pub may_find : (IsTrue s.is_open → s.may_leave s.committed.trees) → HasCleanDisk s → (test : List ℕ → Bool) → RecoverableFromDatabase s test → IsTrue (test script)
  may_find stays clean test finds = let it = book clean in is_found s s acts script s.committed.trees it refl clean (stays it.is_open) test finds
