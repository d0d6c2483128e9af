-- Texts that are appended, whole or only a prefix of them.
use Rattle.std.specs.Prelude.{◌≡◌, ℕ, List, ◌++◌, Result, Ok, Err}
use Rattle.std.specs.List.{flat_map}
use denote.Ref.{Bor}
use Rattle.rp_command.specs.Fronts.{AppendsFront}

-- a call that appends the text appended it; if it failed, it appended a prefix
abbrev pub Writes : {X E : Type 0} → Result X E → List ℕ → List ℕ → List ℕ → Type 0
Writes (Ok x) old new text = new ≡ old ++ text
Writes (Err e) old new text = AppendsFront old new text

-- pieces of a text, joined
abbrev pub joined : List (Bor (List ℕ)) → List ℕ
joined pieces = flat_map (λ piece. piece.now) pieces
