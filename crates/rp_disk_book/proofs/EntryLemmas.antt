-- Entries in the order of their numbers.
use Rattle.std.proofs.Common.{◌≡◌, ℕ, ◌+◌, List, [], ◌∷◌, ◌++◌, length, sym, ap, subst, ◌∙◌, arith, append_assoc}
use Rattle.std.specs.List.{flat_map}
use Rattle.std.proofs.lemmas.List.{append-nil}
use Rattle.sqlite.specs.Order.{Row, column, bytes}
use Rattle.rp_book.specs.Act.{Told}
use Rattle.rp_disk_book.specs.Disk.{AreEntries, IsEntry}

-- one more entry
pub AreEntries-push : (number : ℕ) (before : List ℕ) (rows : List Row) (acts : List Told) (script : List ℕ) (row : Row) (act : Told) (lines : List ℕ) → AreEntries number before rows acts script
    → IsEntry (number + length acts) script lines row act → AreEntries number before (rows ++ row ∷ []) (acts ++ act ∷ []) (script ++ lines)
AreEntries-push number before [] [] script row act lines h e =
    let same : number + 0 ≡ number = omega arith in
    (lines, subst (λ n. IsEntry n before lines row act) same (subst (λ b. IsEntry (number + 0) b lines row act) (sym h) e), ap (λ b. b ++ lines) h)
AreEntries-push number before [] (a ∷ acts) script row act lines h e = absurd h
AreEntries-push number before (r ∷ rows) [] script row act lines h e = absurd h
AreEntries-push number before (r ∷ rows) (a ∷ acts) script row act lines h e =
    let next : number + length (a ∷ acts) ≡ number + 1 + length acts = omega arith in
    (h.0, h.1, AreEntries-push (number + 1) (before ++ h.0) rows acts script row act lines h.2 (subst (λ n. IsEntry n script lines row act) next e))

-- the lines that a query shows of an entry
abbrev pub shown_lines : Row → List ℕ
shown_lines row = bytes (column row 6)

-- the script is the lines of the rows
pub entries_script : (number : ℕ) (before : List ℕ) (rows : List Row) (acts : List Told) (script : List ℕ) → AreEntries number before rows acts script → script ≡ before ++ flat_map shown_lines rows
entries_script number before [] [] script h = sym h ∙ sym (append-nil before)
entries_script number before [] (act ∷ acts) script h = absurd h
entries_script number before (row ∷ rows) [] script h = absurd h
entries_script number before (row ∷ rows) (act ∷ acts) script h =
    entries_script (number + 1) (before ++ h.0) rows acts script h.2 ∙ append_assoc before h.0 (flat_map shown_lines rows)
    ∙ ap (λ lines. before ++ (lines ++ flat_map shown_lines rows)) (sym (ap bytes h.1.lines))
