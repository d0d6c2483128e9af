-- What a read does to the bytes still to come, and what a put does to the bytes so far.
-- `None` is for a source or a sink whose bytes are not known; then nothing is stated.
use Rattle.std.specs.Prelude.{◌≡◌, ℕ, ◌≤◌, List, [], ◌++◌, length, take, drop, Option, Some, IfSome}

-- the first n of the bytes that were left are at the front of the buffer, and the others are left
abbrev pub Takes : Option (List ℕ) → Option (List ℕ) → ℕ → List ℕ → Type 0
Takes old new n buf =
    IfSome old (λ bytes. (n ≤ length bytes) × (take n buf ≡ take n bytes) × (new ≡ Some (drop n bytes)))

-- no byte was left
abbrev pub IsAtEnd : Option (List ℕ) → Type 0
IsAtEnd old = IfSome old (λ bytes. bytes ≡ [])

-- if the bytes of a sink are known, they were known before, and the piece was appended to them
abbrev pub Appends : Option (List ℕ) → Option (List ℕ) → List ℕ → Type 0
Appends old new piece =
    IfSome new (λ after. (before : List ℕ) × (old ≡ Some before) × (after ≡ before ++ piece))

-- if the bytes of a sink are known, they were known before, and a prefix of the piece was appended to them
abbrev pub AppendsPrefix : Option (List ℕ) → Option (List ℕ) → List ℕ → Type 0
AppendsPrefix old new piece =
    IfSome new (λ after. (before : List ℕ) × (n : ℕ)
    × (n ≤ length piece) × (old ≡ Some before) × (after ≡ before ++ take n piece))
