-- A text that is appended to another, perhaps only a prefix of it.
use Rattle.std.specs.Prelude.{◌≡◌, ℕ, List, ◌++◌, Result, Ok, Err}
use Rattle.std.specs.declared.alloc.AllocError.{AllocError}

-- some prefix of the text, perhaps all of it or nothing, was appended to the old bytes
pub record AppendsFront (old new text : List ℕ) : Type 0 where
  pub front : List ℕ
  pub rest : List ℕ
  pub whole : text ≡ front ++ rest
  pub appended : new ≡ old ++ front

-- the text was appended, or a prefix of it if memory ran out
abbrev pub Appends : Result (Unit {0}) AllocError → List ℕ → List ℕ → List ℕ → Type 0
Appends (Ok done) old new text = new ≡ old ++ text
Appends (Err error) old new text = AppendsFront old new text
