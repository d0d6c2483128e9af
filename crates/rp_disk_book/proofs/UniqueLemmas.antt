-- A database holds one script.
use Rattle.std.proofs.Common.{◌≡◌, ◌⊎◌, inl, inr, ℕ, suc, zero, ◌+◌, ◌≤◌, pos, Bool, IsTrue, List, [], ◌∷◌, ◌++◌, length, map, refl, sym, ap, subst, ◌∙◌, arith}
use Rattle.std.specs.Prelude.{⊤}
use Rattle.std.specs.List.{Contains, flat_map}
use Rattle.std.proofs.lemmas.List.Sorted.{Contains-permutation, IsPermutation-sym, IsPermutation-trans, length_permutation}
use Rattle.sqlite.specs.declared.types.Value.TheVariants.{Int}
use Rattle.sqlite.specs.Order.{Row}
use Rattle.sqlite.specs.Tree.{Trees, rowid}
use Rattle.sqlite.specs.State.{State, HasCleanDisk}
use Rattle.rp_book.specs.Act.{Told}
use Rattle.rp_book_schema.specs.Entry.{entries_in, shown_entry}
use Rattle.rp_disk_book.specs.Disk.{AreEntries, HoldsScript, IsBook, RecoverableFromDatabase}
use Rattle.rp_disk_book.proofs.EntryLemmas.{entries_script, shown_lines}

-- each row has the number behind that of the row before it
abbrev AreNumbered : ℕ → List Row → Type 0
AreNumbered first [] = ⊤
AreNumbered first (row ∷ rows) = (rowid row ≡ Int (pos first)) × AreNumbered (first + 1) rows

-- entries are numbered
numbered : (first : ℕ) (before : List ℕ) (rows : List Row) (acts : List Told) (script : List ℕ) → AreEntries first before (map shown_entry rows) acts script → AreNumbered first rows
numbered first before [] acts script h = tt
numbered first before (row ∷ rows) [] script h = absurd h
numbered first before (row ∷ rows) (act ∷ acts) script h = (h.1.shows.number, numbered (first + 1) (before ++ h.0) rows acts script h.2)

-- an element is the first one or one of the others
contains-cases : (y : Row) (ys : List Row) (x : Row) → Contains (y ∷ ys) x → (y ≡ x) ⊎ Contains ys x
contains-cases y ys x (zero, within, is) = inl is
contains-cases y ys x (suc k, within, is) = inr (k, omega (arith, within), is)

contains-first : (y : Row) (ys : List Row) → Contains (y ∷ ys) y
contains-first y ys = (0, omega arith, refl)

contains-later : (y : Row) (ys : List Row) (x : Row) → Contains ys x → Contains (y ∷ ys) x
contains-later y ys x h = (suc h.0, omega (arith, h.1), h.2)

-- a row among numbered ones has one of their numbers
number-within : (first : ℕ) (rows : List Row) (x : Row) → AreNumbered first rows → Contains rows x → (n : ℕ) × (first ≤ n) × (rowid x ≡ Int (pos n))
number-within first [] x h c = absurd (omega (arith, c.1))
number-within first (row ∷ rows) x h c =
    elim (contains-cases row rows x c) [
      | inl same ↦ (first, omega arith, ap rowid (sym same) ∙ h.0)
      | inr later ↦ let found = number-within (first + 1) rows x h.1 later in (found.0, omega (arith, found.1), found.2)
    ]

-- so none of the later ones is the first
not-later : (first : ℕ) (rows : List Row) (x : Row) → rowid x ≡ Int (pos first) → AreNumbered (first + 1) rows → Contains rows x → ⊥
not-later first rows x number h c =
    let found = number-within (first + 1) rows x h c in
    let same : first ≡ found.0 = let e = sym number ∙ found.2 in cc in
    omega (arith, found.1, same)

-- numbered rows that have the same elements are the same
same_numbered : (first : ℕ) (xs ys : List Row) → AreNumbered first xs → AreNumbered first ys → length xs ≡ length ys → ((x : Row) → Contains xs x → Contains ys x) → xs ≡ ys
same_numbered first [] [] h k long within = refl
same_numbered first [] (y ∷ ys) h k long within = absurd (omega (arith, long))
same_numbered first (x ∷ xs) [] h k long within = absurd (omega (arith, long))
same_numbered first (x ∷ xs) (y ∷ ys) h k long within =
    let head : y ≡ x = elim (contains-cases y ys x (within x (contains-first x xs))) [ inl same ↦ same | inr later ↦ absurd (not-later first ys x h.0 k.1 later) ] in
    let others : (z : Row) → Contains xs z → Contains ys z =
    λ z c. elim (contains-cases y ys z (within z (contains-later x xs z c))) [ inl same ↦ absurd (not-later first xs z (ap rowid (sym same) ∙ k.0) h.1 c) | inr later ↦ later ] in
    ap (λ row. row ∷ xs) (sym head) ∙ ap (λ rows. y ∷ rows) (same_numbered (first + 1) xs ys h.1 k.1 (omega (arith, long)) others)

-- a database holds one script alone
one_script : (rows : List Row) (acts more : List Told) (one other : List ℕ) → HoldsScript rows acts one → HoldsScript rows more other → one ≡ other
one_script rows acts more one other h k =
    let moved = IsPermutation-trans h.ordered rows k.ordered (IsPermutation-sym rows h.ordered h.same) k.same in
    let same : h.ordered ≡ k.ordered =
    same_numbered 1 h.ordered k.ordered (numbered 1 [] h.ordered acts one h.entries) (numbered 1 [] k.ordered more other k.entries) (sym (length_permutation h.ordered k.ordered moved))
    (λ x. Contains-permutation h.ordered k.ordered x moved) in
    entries_script 1 [] (map shown_entry h.ordered) acts one h.entries ∙ ap (λ rs. flat_map shown_lines (map shown_entry rs)) same
    ∙ sym (entries_script 1 [] (map shown_entry k.ordered) more other k.entries)

-- a book that is opened has a script that a book before promised an open to find
pub is_found : (before s : State) (acts : List Told) (script : List ℕ) (db : Trees) → IsBook s acts script → s.committed.trees ≡ db
    → HasCleanDisk before → before.may_leave db → (test : List ℕ → Bool) → RecoverableFromDatabase before test → IsTrue (test script)
is_found before s acts script db book same clean may test finds =
    let found = finds clean db may in
    let holds : HoldsScript (entries_in db) acts script = subst (λ (d : Trees). HoldsScript (entries_in d) acts script) same book.holds in
    subst (λ lines. IsTrue (test lines)) (one_script (entries_in db) found.0 acts found.1 script found.2 holds) found.3
