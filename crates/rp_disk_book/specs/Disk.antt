-- The contents of a database that is a book.
use Rattle.std.specs.Prelude.{◌≡◌, ℕ, ◌+◌, pos, Bool, false, IsTrue, List, [], ◌∷◌, ◌++◌, Option, length, map, refl}
use Rattle.std.specs.List.Sorted.{IsPermutation}
use Rattle.std.specs.Coded.{Coded, code_by, coded×, coded_ℕ, coded_list, coded_option}
use Rattle.sqlite.specs.declared.types.Value.TheVariants.{Int, Text}
use Rattle.sqlite.specs.Order.{Row, column}
use Rattle.sqlite.specs.Tree.{Trees}
use Rattle.sqlite.specs.State.{State, HasCleanDisk}
use Rattle.sqlite.specs.Held.{Held, held_code}
use Rattle.rp_book.specs.Act.{Told, HasNumbers}
use Rattle.rp_book.specs.Lines.{HasEnd}
use Rattle.rp_book_schema.specs.Entry.{book_schema, entries_in, shown_entry, told}
use Rattle.rp_disk_book.specs.Kept.{Kept, with_act}

-- a row that a query shows is the entry with number n, of this act
pub record ShowsAct (n : ℕ) (row : Row) (act : Told) : Type 0 where
  pub number : column row 0 ≡ Int (pos n)
  pub first : column row 1 ≡ Int (pos act.first)
  pub last : column row 2 ≡ Int (pos act.last)
  pub added : column row 3 ≡ Text act.added
  pub who : column row 4 ≡ told act.who
  pub deed : column row 5 ≡ told act.deed

-- the row has these lines, which come after the lines before, and the act has their numbers
pub record IsEntry (n : ℕ) (before added : List ℕ) (row : Row) (act : Told) : Type 0 where
  pub shows : ShowsAct n row act
  pub lines : column row 6 ≡ Text added
  pub end : HasEnd added
  pub numbers : HasNumbers before added act

-- rows that a query shows are the entries of these acts, the first with the given number; after the lines before, their lines make the script
abbrev pub AreEntries : ℕ → List ℕ → List Row → List Told → List ℕ → Type 0
AreEntries number before [] [] script = before ≡ script
AreEntries number before [] (act ∷ acts) script = ⊥
AreEntries number before (row ∷ rows) [] script = ⊥
AreEntries number before (row ∷ rows) (act ∷ acts) script = (lines : List ℕ) × IsEntry number before lines row act × AreEntries (number + 1) (before ++ lines) rows acts script

-- the rows, in the order of their numbers, are the entries of these acts, whose lines make the script
pub record HoldsScript (rows : List Row) (acts : List Told) (script : List ℕ) : Type 0 where
  pub ordered : List Row
  pub same : IsPermutation rows ordered
  pub entries : AreEntries 1 [] (map shown_entry ordered) acts script

-- a row was added to what was read
pub record GainsRow (row : Row) (old new : Kept) : Type 0 where
  pub act : Told
  pub lines : List ℕ
  pub is : IsEntry (length old.acts + 1) old.script lines row act
  pub read : new ≡ with_act old act lines

-- some rows were read, and others are left
pub record HasRead (rows rest : List Row) (k : Kept) : Type 0 where
  pub told : List Row
  pub whole : told ++ rest ≡ rows
  pub entries : AreEntries 1 [] told k.acts k.script

-- the last commit is a book with the acts and the script, and no transaction has begun
pub record IsBook (s : State) (acts : List Told) (script : List ℕ) : Type 0 where
  pub is_open : IsTrue s.is_open
  pub schema : s.committed.schema ≡ book_schema
  pub autocommit : s.in_transaction ≡ false
  pub settled : s.now ≡ s.committed
  pub holds : HoldsScript (entries_in s.committed.trees) acts script

-- the last commit is a book with the acts and the script, as long as no write failed and the disk returns what was written
abbrev pub IsBookUntil : ℕ → State → List Told → List ℕ → Type 0
IsBookUntil faults s acts script = faults ≡ 0 → HasCleanDisk s → IsBook s acts script

-- each database that a crash may leave holds a script that passes the test
abbrev pub RecoverableFromDatabase : State → (List ℕ → Bool) → Type 0
RecoverableFromDatabase s test = HasCleanDisk s → (db : Trees) → s.may_leave db → (acts : List Told) × (script : List ℕ) × HoldsScript (entries_in db) acts script × IsTrue (test script)

-- a book as a contract sees it
pub record Opened (S : Type 0) : Type 0 where
  pub conn : Held S
  pub script : List ℕ
  pub acts : List Told
  pub faults : ℕ

abbrev told_code : Coded Told
told_code =
    code_by (ℕ × (ℕ × (ℕ × (List ℕ × (Option (List ℕ) × Option (List ℕ))))))
    (coded× coded_ℕ (coded× coded_ℕ (coded× coded_ℕ (coded× (coded_list coded_ℕ) (coded× (coded_option (coded_list coded_ℕ)) (coded_option (coded_list coded_ℕ)))))))
    (λ t. (t.first, (t.last, (t.end, (t.added, (t.who, t.deed)))))) (λ p. record { first = p.0; last = p.1.0; end = p.1.1.0; added = p.1.1.1.0; who = p.1.1.1.1.0; deed = p.1.1.1.1.1 }) (λ _. refl)

abbrev pub opened_code : {S : Type 0} → Coded S → Coded (Opened S)
opened_code {S} store =
    code_by (Held S × (List ℕ × (List Told × ℕ))) (coded× (held_code store) (coded× (coded_list coded_ℕ) (coded× (coded_list told_code) coded_ℕ)))
    (λ o. (o.conn, (o.script, (o.acts, o.faults)))) (λ p. record { conn = p.0; script = p.1.0; acts = p.1.1.0; faults = p.1.1.1 }) (λ _. refl)
