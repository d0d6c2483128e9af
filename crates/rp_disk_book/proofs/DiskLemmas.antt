-- An entry that comes to a book.
use Rattle.std.proofs.Common.{◌≡◌, inl, inr, ℕ, ◌+◌, ◌≤◌, Bool, true, false, not, ◌||◌, IsTrue, List, [], ◌∷◌, ◌++◌, length, map, Option, refl, sym, ap, subst, ◌∙◌, arith, append_assoc, Ordering, Less, Equal, Greater, is_eq}
use Rattle.std.specs.List.Sorted.{IsPermutation}
use Rattle.std.specs.Ordering.{match_ordering}
use Rattle.std.proofs.lemmas.List.{append-nil, map-append}
use Rattle.std.proofs.lemmas.List.Sorted.{IsPermutation-refl, IsPermutation-sym, IsPermutation-cons, IsPermutation-trans, IsPermutation-middle, IsPermutation-to_front}
use Rattle.sqlite.specs.Order.{Row, column, value_cmp}
use Rattle.sqlite.specs.Tree.{rowid, put_row}
use Rattle.sqlite.specs.Edit.{is_taken}
use Rattle.sqlite_trees.specs.View.{doubt}
use Rattle.sqlite.specs.State.{State, HasCleanDisk, IsUnchanged, Survives}
use Rattle.rp_book.specs.Act.{Told, HasNumbers}
use Rattle.rp_book.specs.Lines.{HasEnd}
use Rattle.rp_book_schema.specs.Entry.{AddsEntry, Fields, GainsEntry, ListsEntries, MakesTable, book_schema, entries_in, entry_values, fields_of, shown_entry}
use Rattle.rp_disk_book.specs.Kept.{Kept}
use Rattle.rp_disk_book.specs.Disk.{AreEntries, GainsRow, HasRead, HoldsScript, IsBook, IsEntry, RecoverableFromDatabase}
use Rattle.rp_disk_book.proofs.EntryLemmas.{AreEntries-push}

-- a row with a free number comes to the others
put_permutes : (row : Row) (rows : List Row) → is_taken rows row ≡ false → IsPermutation (row ∷ rows) (put_row row rows)
put_permutes row [] free = IsPermutation-refl (row ∷ [])
put_permutes row (r ∷ rows) free = go (value_cmp (rowid r) (rowid row)) free (put_permutes row rows)
  where
    go : (o : Ordering) → (is_eq o || is_taken rows row) ≡ false → (is_taken rows row ≡ false → IsPermutation (row ∷ rows) (put_row row rows))
        → IsPermutation (row ∷ r ∷ rows) (match_ordering o (r ∷ put_row row rows) (row ∷ rows) (row ∷ r ∷ rows))
    go Less free later = IsPermutation-trans (row ∷ r ∷ rows) (r ∷ row ∷ rows) (r ∷ put_row row rows) (IsPermutation-middle (row ∷ []) r rows) (IsPermutation-cons r (row ∷ rows) (put_row row rows) (later free))
    go Equal free later = absurd (cc)
    go Greater free later = IsPermutation-refl (row ∷ r ∷ rows)

-- what an entry of an act says
abbrev pub fields_at : ℕ → Told → List ℕ → Fields
fields_at number act lines = fields_of number act.first act.last act.added act.who act.deed lines

-- so it is where the act is made of these
pub fields_are : (number n first last : ℕ) (added : List ℕ) (who deed : Option (List ℕ)) (act : Told) (lines : List ℕ) → number ≡ n
    → act ≡ record { first = first; last = last; end = act.end; added = added; who = who; deed = deed } → fields_of number first last added who deed lines ≡ fields_at n act lines
fields_are number n first last added who deed act lines e h = rw (e, h) refl

-- a row that says it is that entry
is_entry : (number : ℕ) (before lines : List ℕ) (row : Row) (act : Told) → row ≡ entry_values (fields_at number act lines) → HasEnd lines → HasNumbers before lines act → IsEntry number before lines row act
is_entry number before lines row act e end numbers =
    record {
      shows =
          record {
            number = ap (λ r. column r 0) e;
            first = ap (λ r. column r 1) e;
            last = ap (λ r. column r 2) e;
            added = ap (λ r. column r 3) e;
            who = ap (λ r. column r 4) e;
            deed = ap (λ r. column r 5) e;
          };
      lines = ap (λ r. column r 6) e;
      end = end;
      numbers = numbers;
    }

-- the script is longer by the lines of the entry
holds_more : (rows after : List Row) (acts : List Told) (act : Told) (script lines : List ℕ) → GainsEntry rows after (fields_at (length acts + 1) act lines) → HasEnd lines → HasNumbers script lines act
    → HoldsScript rows acts script → HoldsScript after (acts ++ act ∷ []) (script ++ lines)
holds_more rows after acts act script lines g end numbers h =
    let row = g.row in
    let moved = IsPermutation-trans (put_row row rows) (row ∷ rows) (row ∷ h.ordered) (IsPermutation-sym (row ∷ rows) (put_row row rows) (put_permutes row rows g.free)) (IsPermutation-cons row rows h.ordered h.same) in
    let back = IsPermutation-sym (h.ordered ++ row ∷ []) (row ∷ h.ordered) (IsPermutation-to_front h.ordered row) in
    let next : length acts + 1 ≡ 1 + length acts = omega arith in
    let entry = is_entry (length acts + 1) script lines (shown_entry row) act g.shown end numbers in
    record {
      ordered = h.ordered ++ row ∷ [];
      same = subst (λ rs. IsPermutation rs (h.ordered ++ row ∷ [])) (sym g.put) (IsPermutation-trans (put_row row rows) (row ∷ h.ordered) (h.ordered ++ row ∷ []) moved back);
      entries =
          subst (λ rs. AreEntries 1 [] rs (acts ++ act ∷ []) (script ++ lines)) (sym (map-append shown_entry h.ordered (row ∷ [])))
          (AreEntries-push 1 [] (map shown_entry h.ordered) acts script (shown_entry row) act lines h.entries (subst (λ n. IsEntry n script lines (shown_entry row) act) next entry));
    }

-- the schema of a book that is open
book_now : (s : State) (acts : List Told) (script : List ℕ) → IsBook s acts script → s.now.schema ≡ book_schema
book_now s acts script b = ap (λ d. d.schema) b.settled ∙ b.schema

holds_now : (s : State) (acts : List Told) (script : List ℕ) → IsBook s acts script → HoldsScript (entries_in s.now.trees) acts script
holds_now s acts script b = subst (λ d. HoldsScript (entries_in d.trees) acts script) (sym b.settled) b.holds

module _ (old new : State) (acts : List Told) (act : Told) (script lines : List ℕ) (end : HasEnd lines) (numbers : HasNumbers script lines act) (b : HasCleanDisk old → IsBook old acts script)
    (clean : doubt old.is_clean ≤ doubt new.is_clean) where
  was_clean : HasCleanDisk new → HasCleanDisk old
  was_clean now = omega (arith, clean, now)

  -- after the entry was added it is a book with the longer script
  pub is_longer : (HasCleanDisk new → old.now.schema ≡ book_schema → AddsEntry old new (fields_at (length acts + 1) act lines)) → HasCleanDisk new → IsBook new (acts ++ act ∷ []) (script ++ lines)
  is_longer adds now =
      let it = b (was_clean now) in
      let a = adds now (book_now old acts script it) in
      let committed = a.committed it.autocommit in
      record {
        is_open = a.is_open;
        schema = ap (λ d. d.schema) committed ∙ a.schema;
        autocommit = a.mode ∙ it.autocommit;
        settled = sym committed;
        holds =
            subst (λ d. HoldsScript (entries_in d.trees) (acts ++ act ∷ []) (script ++ lines)) (sym committed)
            (holds_more (entries_in old.now.trees) (entries_in new.now.trees) acts act script lines a.gains end numbers (holds_now old acts script it));
      }

  -- what a crash leaves is what it left before, or has all the lines
  pub finds_more : (old.now.schema ≡ book_schema → Survives old new (λ db. GainsEntry (entries_in old.now.trees) (entries_in db) (fields_at (length acts + 1) act lines)))
      → (test : List ℕ → Bool) → RecoverableFromDatabase old test → IsTrue (test (script ++ lines)) → RecoverableFromDatabase new test
  finds_more survives test finds passes = λ now db may.
      let before = was_clean now in
      let it = b before in
      elim ((survives (book_now old acts script it)).crash now db may) [
        | inl was ↦ finds before db was
        | inr gains ↦ (acts ++ act ∷ [], script ++ lines, holds_more (entries_in old.now.trees) (entries_in db) acts act script lines gains end numbers (holds_now old acts script it), passes)
      ]

-- a table that was just made
pub is_made : (old new : State) → MakesTable old new → old.in_transaction ≡ false → IsBook new [] []
is_made old new m auto =
    let committed = m.committed auto in
    record {
      is_open = m.is_open;
      schema = ap (λ d. d.schema) committed ∙ m.schema;
      autocommit = m.mode ∙ auto;
      settled = sym committed;
      holds =
          subst (λ d. HoldsScript (entries_in d.trees) [] []) (sym committed)
          (subst (λ rows. HoldsScript rows [] []) (sym m.empty) (record { ordered = []; same = IsPermutation-refl []; entries = refl }));
    }

-- one more row was read
pub HasRead-more : (rows : List Row) (row : Row) (more : List Row) (old new : Kept) → HasRead rows (row ∷ more) old → GainsRow row old new → HasRead rows more new
HasRead-more rows row more old new h g =
    let next : length old.acts + 1 ≡ 1 + length old.acts = omega arith in
    subst (HasRead rows more) (sym g.read)
    (record {
      told = h.told ++ row ∷ [];
      whole = append_assoc h.told (row ∷ []) more ∙ h.whole;
      entries = AreEntries-push 1 [] h.told old.acts old.script row g.act g.lines h.entries (subst (λ n. IsEntry n old.script g.lines row g.act) next g.is);
    })

-- what was read is a book
pub is_read : (old new : State) (rows : List Row) (k : Kept) → old.now.schema ≡ book_schema → old.in_transaction ≡ false → (IsTrue old.is_open → old.now ≡ old.committed) → IsUnchanged old new
    → ListsEntries (entries_in old.now.trees) rows → HasRead rows [] k → IsBook new k.acts k.script
is_read old new rows k schema auto settled same lists read =
    let before = settled same.0.was_open in
    let committed : new.committed ≡ old.now = same.0.committed_is ∙ sym before in
    let told : read.told ≡ map shown_entry lists.ordered = sym (append-nil read.told) ∙ read.whole ∙ lists.are in
    record {
      is_open = same.0.is_open;
      schema = ap (λ d. d.schema) committed ∙ schema;
      autocommit = same.0.mode ∙ auto;
      settled = same.0.now_is ∙ sym committed;
      holds =
          subst (λ d. HoldsScript (entries_in d.trees) k.acts k.script) (sym committed)
          (record { ordered = lists.ordered; same = lists.same; entries = subst (λ rs. AreEntries 1 [] rs k.acts k.script) told read.entries });
    }

-- no transaction has begun where the test says so
pub autocommit_is : (result begun : Bool) → result ≡ not begun → IsTrue result → begun ≡ false
autocommit_is result true e h = absurd (cc)
autocommit_is result false e h = refl
