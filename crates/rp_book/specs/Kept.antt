-- What a call leaves in a book. `None` is for a book whose contents are not known; then nothing is stated.
use Rattle.std.specs.Prelude.{◌≡◌, ℕ, Bool, IsTrue, List, ◌++◌, Option, Some, IfSome}
use Rattle.rp_io.specs.Faults.{HasRisen}
use Rattle.rp_book.specs.declared.fault.BookFault.{BookFault}
use Rattle.rp_book.specs.declared.fault.BookFault.TheVariants.{Memory, Full, Disk}

-- if the script or the acts of a book are known, they were known before and are unchanged
abbrev pub Stays : {A : Type 0} → Option A → Option A → Type 0
Stays old new = IfSome new (λ after. old ≡ Some after)

-- the tests that every script passes which the next opening of the book may find, after a crash too
abbrev pub Recoverable : Type 1
Recoverable = (List ℕ → Bool) → Type 0

-- each test passed by all scripts before and by the script with the lines is still passed by all: an opening finds all the lines, or none
abbrev pub IsCrashAtomic : Recoverable → Recoverable → Option (List ℕ) → List ℕ → Type 0
IsCrashAtomic old new told lines = (test : List ℕ → Bool) → old test → IfSome told (λ before. IsTrue (test (before ++ lines))) → new test

-- each test passed by all scripts before is still passed: an opening finds no other script
abbrev pub RecoversNoOther : Recoverable → Recoverable → Type 0
RecoversNoOther old new = (test : List ℕ → Bool) → old test → new test

-- each test that the script passes is passed by all: an opening finds only this script
abbrev pub RecoversOnly : Recoverable → Option (List ℕ) → Type 0
RecoversOnly finds told = IfSome told (λ script. (test : List ℕ → Bool) → IsTrue (test script) → finds test)

-- each test passed by all is passed by the script: an opening may find it
abbrev pub MayRecover : Recoverable → Option (List ℕ) → Type 0
MayRecover finds told = IfSome told (λ script. (test : List ℕ → Bool) → finds test → IsTrue (test script))

-- why lines were not added: the book failed in the call; nothing is stated if memory ran out
abbrev pub HasBookCause : ℕ → ℕ → BookFault → Type 0
HasBookCause before after (Memory e) = Unit {0}
HasBookCause before after Full = HasRisen before after
HasBookCause before after Disk = HasRisen before after
