-- What a put does to the bytes of a writer.
use Rattle.std.specs.Prelude.{◌≡◌, ℕ, List, ◌++◌, Option, Result, MatchResult}
use Rattle.std.specs.Io.KnownBytes.{Appends}

-- the known bytes grow by the piece, or by a prefix of it on an error
abbrev pub PutAppends : {T E : Type 0} → Option (List ℕ) → Option (List ℕ) → Result T E → List ℕ → Type 0
PutAppends old new result piece =
    MatchResult result (λ _. Appends old new piece)
    (λ _. (written rest : List ℕ) × (piece ≡ written ++ rest) × Appends old new written)
