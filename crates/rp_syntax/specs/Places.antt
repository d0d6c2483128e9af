-- The bytes that are still to be read, as a position in a line.
use Rattle.std.specs.Prelude.{ℕ, Bool, ◌==◌, List, [], Option, Some, None}
use Rattle.rp_language.specs.Grammar.{Word, words_of, space}
use denote.Ref.{Bor}

-- the words of the bytes that are left; none if the line has ended
abbrev pub words_left : Option (Bor (List ℕ)) → List Word
words_left None = []
words_left (Some rest) = words_of rest.now

-- the byte is a space
abbrev pub is_space : ℕ → Bool
is_space b = b == space
